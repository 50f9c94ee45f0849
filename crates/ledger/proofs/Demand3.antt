-- Demand 3, whole: every list of calls on the board that an accepted open wrote has the record of specs/Demand3.antt. The board
-- reached is the layout of the ledger's entries (Histories), which are proper, so that the laws of a proper ledger hold of it; a call
-- of the list is the ledger's step on what stood before it (Turns).
use mathlib.Core.Path.{◌≡◌, sym, ap, ◌∙◌, subst, subst₂}
use mathlib.Core.Logic.{◌⊎◌}
use mathlib.Core.List.{List, [], ◌∷◌, ◌++◌, map, Perm, append_assoc, Memᴰ}
use Prim.Native.Nat.{ℕ, ◌+◌, ◌-◌, ◌≤◌}
use lib.IntN.{ℤ}
use lib.ListN.{length, get_or, length-map}
use Rattle.checks.specs.Prime.{IsModulus}
use Rattle.checks.specs.Refusal.{IsRefusal}
use Rattle.frame.specs.Reading.{frame_multipliers}
use Rattle.ledger.specs.Ledger.{Ledger, ledger}
use Rattle.ledger.specs.Board.{count_word, layout}
use Rattle.ledger.specs.Calls.{open_call}
use Rattle.ledger.specs.History.{Call, Reply, After, ledger_step, board_step, ledger_run, board_run}
use Rattle.ledger.specs.Turns.{Turn, no_reply, reply_of, got, left}
use Rattle.ledger.specs.Heard.{NoWithdrawal, news, heard}
use Rattle.ledger.specs.Settle.{AllSettled, unit_take}
use Rattle.ledger.specs.Proper.{Proper}
use Rattle.ledger.specs.Answers.{Answers, Changes, Shows, IsMix, Counted, Untouched}
use Rattle.ledger.specs.Demand3.{fresh_board, words_after, replies_to, standing, reply_at, SettlingTakes, Demand3}
use Rattle.ledger.proofs.LayoutBoard.{layout_count}
use Rattle.ledger.proofs.Proper.{empty_proper}
use Rattle.ledger.proofs.LedgerRuns.{run_append, run_proper, step_not_eleven, step_changes, step_counted, step_untouched}
use Rattle.ledger.proofs.LedgerLaws.{standing_met}
use Rattle.ledger.proofs.LedgerSteps.{took}
use Rattle.ledger.proofs.Histories.{open_accepted, history, board_as_ledger, refused_keeps, withdrawal_restores}
use Rattle.ledger.proofs.Turns.{board_once, ledger_once, replies_many, turn_left, turn_answered}
use Rattle.ledger.proofs.RankLedger.{ledger_rank, heard_rank}
use Rattle.ledger.proofs.Missing as missing
use Rattle.ledger.proofs.Shown.{step_answers, show_shows, take_mixes}

module _ (p : ℕ) (ok : IsModulus p) (n s : ℕ) (ws : List ℕ) (done : (open_call p n s ws).told.number ≡ 0) where
  -- ---- the board that a list of calls has reached

  pub standing_proper : (cs : List Call) → Proper p n s (standing p ok n s cs)
  standing_proper cs = run_proper p ok n s (ledger []) (empty_proper p n s) cs

  reached_layout : (cs : List Call) → words_after p n s ws cs ≡ layout p n s (standing p ok n s cs)
  reached_layout cs = ap (λ (a : After (List ℕ)). a.state) (board_as_ledger p n s ws ok done cs)

  reached_count : (cs : List Call) → count_word (words_after p n s ws cs) ≡ length (standing p ok n s cs)
  reached_count cs = ap (λ b. count_word b) (reached_layout cs) ∙ layout_count p n s (standing p ok n s cs)

  pub replies_same : (cs : List Call) → replies_to p n s ws cs ≡ (ledger_run p ok n s (ledger []) cs).replies
  replies_same cs = ap (λ (a : After (List ℕ)). a.replies) (board_as_ledger p n s ws ok done cs)

  -- further calls from there: the ledger goes on
  further_standing : (cs ds : List Call)
      → (ledger_run p ok n s (ledger (standing p ok n s cs)) ds).state.entries ≡ standing p ok n s (cs ++ ds)
  further_standing cs ds = sym (ap (λ (a : After _). a.state.entries) (run_append (ledger_step p ok n s) (ledger []) cs ds))

  further_replies : (cs ds : List Call)
      → (board_run (words_after p n s ws cs) ds).replies ≡ (ledger_run p ok n s (ledger (standing p ok n s cs)) ds).replies
  further_replies cs ds =
      ap (λ b. (board_run b ds).replies) (reached_layout cs)
      ∙ ap (λ (a : After (List ℕ)). a.replies)
      (history p n s ok (open_accepted p n s ws done).size (open_accepted p n s ws done).words (ledger (standing p ok n s cs)) (standing_proper cs) ds)

  -- ---- a call of the list

  -- its reply is that of the ledger's step on what stood before it
  pub turn_replied : {cs : List Call} (t : Turn cs)
      → reply_at p n s ws t ≡ reply_of (ledger_step p ok n s (ledger (standing p ok n s t.before)) t.call)
  turn_replied {cs} t =
      ap (λ rs. get_or rs (length t.before) no_reply) (replies_same cs)
      ∙ turn_answered (ledger_step p ok n s) (ledger_once p ok n s) (ledger []) t

  turn_refused_keeps : {cs : List Call} (t : Turn cs) → IsRefusal (reply_at p n s ws t).told.number
      → left board_step (fresh_board p n s ws) t ≡ got board_step (fresh_board p n s ws) t
  turn_refused_keeps t h =
      turn_left board_step (fresh_board p n s ws) t
      ∙ refused_keeps (got board_step (fresh_board p n s ws) t) t.call
      (subst (λ (r : Reply). IsRefusal r.told.number) (turn_answered board_step board_once (fresh_board p n s ws) t) h)

  -- the frames that stand after it are those of the ledger's step
  turn_standing : {cs : List Call} (t : Turn cs)
      → standing p ok n s (t.before ++ (t.call ∷ [])) ≡ (ledger_step p ok n s (ledger (standing p ok n s t.before)) t.call).state.entries
  turn_standing t = ap (λ (l : Ledger). l.entries) (turn_left (ledger_step p ok n s) (ledger []) t)

  turn_changes : {cs : List Call} (t : Turn cs)
      → Changes p n s t.call (reply_at p n s ws t).told (standing p ok n s t.before) (standing p ok n s (t.before ++ (t.call ∷ [])))
  turn_changes t =
      subst₂ (λ (r : Reply) fs. Changes p n s t.call r.told (standing p ok n s t.before) fs) (sym (turn_replied t)) (sym (turn_standing t))
      (step_changes p ok n s (ledger (standing p ok n s t.before)) t.call)

  -- the count of the board that it left is that of the ledger's step
  turn_count : {cs : List Call} (t : Turn cs)
      → count_word (left board_step (fresh_board p n s ws) t)
      ≡ length (ledger_step p ok n s (ledger (standing p ok n s t.before)) t.call).state.entries
  turn_count t =
      reached_count (t.before ++ (t.call ∷ [])) ∙ ap length (turn_standing t)

  turn_counted : {cs : List Call} (t : Turn cs)
      → Counted n t.call (reply_at p n s ws t).told (count_word (left board_step (fresh_board p n s ws) t))
  turn_counted t =
      subst₂ (λ (r : Reply) k. Counted n t.call r.told k) (sym (turn_replied t)) (sym (turn_count t))
      (step_counted p ok n s (ledger (standing p ok n s t.before)) t.call)

  turn_shows : {cs : List Call} (t : Turn cs) (low : ℕ) (marks : List ℕ) (numbers : List ℤ) → t.call ≡ Call.show low marks numbers
      → (IsRefusal (reply_at p n s ws t).told.number → ⊥) → Shows p n s low (standing p ok n s t.before) (reply_at p n s ws t)
  unfolding ledger_step
  turn_shows t low marks numbers e f =
      let es = standing p ok n s t.before in
      let same = turn_replied t ∙ ap (λ c. reply_of (ledger_step p ok n s (ledger es) c)) e in
      subst (Shows p n s low es) (sym same)
      (show_shows p ok n s es (standing_proper t.before) low marks numbers
      (λ h. f (subst (λ (r : Reply). IsRefusal r.told.number) (sym same) h)))

  turn_mixes : {cs : List Call} (t : Turn cs) (frame mix : List ℕ) → t.call ≡ Call.take frame mix
      → ((reply_at p n s ws t).told.number ≡ 100) ⊎ ((reply_at p n s ws t).told.number ≡ 9)
      → IsMix p n (standing p ok n s t.before) (frame_multipliers p n frame) (reply_at p n s ws t).words
  unfolding ledger_step
  turn_mixes t frame mix e d =
      let es = standing p ok n s t.before in
      let same = turn_replied t ∙ ap (λ c. reply_of (ledger_step p ok n s (ledger es) c)) e in
      subst (λ (r : Reply). IsMix p n es (frame_multipliers p n frame) r.words) (sym same)
      (take_mixes p ok n s es (standing_proper t.before) frame mix (took p ok n s (ledger es) frame mix)
      (subst (λ (r : Reply). (r.told.number ≡ 100) ⊎ (r.told.number ≡ 9)) same d))

  -- ---- withdrawals, rank and missing frames

  restored : (before takes : List Call) → NoWithdrawal takes
      → (g : ℕ) → count_word (words_after p n s ws (before ++ takes)) ≡ count_word (words_after p n s ws before) + g
      → words_after p n s ws ((before ++ takes) ++ (Call.withdraw g ∷ [])) ≡ words_after p n s ws before
  restored before takes only g many =
      let es = standing p ok n s before in
      let long : length (ledger_run p ok n s (ledger es) takes).state.entries ≡ length es + g =
      ap length (further_standing before takes) ∙ sym (reached_count (before ++ takes)) ∙ many ∙ ap (λ k. k + g) (reached_count before) in
      ap (λ ds. words_after p n s ws ds) (append_assoc before takes (Call.withdraw g ∷ []))
      ∙ ap (λ (a : After (List ℕ)). a.state) (run_append board_step (fresh_board p n s ws) before (takes ++ (Call.withdraw g ∷ [])))
      ∙ ap (λ b. (board_run b (takes ++ (Call.withdraw g ∷ []))).state) (reached_layout before)
      ∙ withdrawal_restores p n s ok (open_accepted p n s ws done).size (open_accepted p n s ws done).words (ledger es) (standing_proper before) takes only g long
      ∙ sym (reached_layout before)

  at_least : (cs ds : List Call) → AllSettled p n s (standing p ok n s (cs ++ ds))
      → n - count_word (words_after p n s ws cs) ≤ news ds (board_run (words_after p n s ws cs) ds).replies
  at_least cs ds all =
      subst₂ (λ k rs. n - k ≤ news ds rs) (sym (reached_count cs)) (sym (further_replies cs ds))
      (missing.missing_at_least p ok n s (ledger (standing p ok n s cs)) (standing_proper cs) (open_accepted p n s ws done).words.0 ds
      (subst (AllSettled p n s) (sym (further_standing cs ds)) all))

  enough : (cs : List Call) → SettlingTakes p ok n s ws cs
  enough cs =
      let (columns, many, settling) = missing.missing_enough p ok n s (standing p ok n s cs) (standing_proper cs) in
      let replies = further_replies cs (map (unit_take p n s) columns) in (
        columns,
        many ∙ ap (λ k. n - k) (sym (reached_count cs)),
        (λ r m. settling.all_new r (subst (Memᴰ r) replies m)),
        ap (news (map (unit_take p n s) columns)) replies ∙ settling.news_told ∙ length-map columns (unit_take p n s),
        subst (AllSettled p n s) (further_standing cs (map (unit_take p n s) columns)) settling.settles,
      )

  -- ---- all of it

  pub demand_3 : (cs : List Call) → Demand3 p ok n s ws cs
  demand_3 cs =
      record {
        as_ledger = board_as_ledger p n s ws ok done cs;
        each_answered = replies_many board_step board_once (fresh_board p n s ws) cs;
        answers = λ t.
            subst (λ (r : Reply). Answers p n s (standing p ok n s t.before) t.call r.told) (sym (turn_replied t))
            (step_answers p ok n s (standing p ok n s t.before) (standing_proper t.before) t.call);
        changes = turn_changes;
        counted = turn_counted;
        untouched = λ t.
            subst (Untouched t.call) (sym (turn_replied t)) (step_untouched p ok n s (ledger (standing p ok n s t.before)) t.call);
        refused_keeps = turn_refused_keeps;
        never_eleven = λ t e.
            step_not_eleven p ok n s (ledger (standing p ok n s t.before)) t.call
            (sym (ap (λ (r : Reply). r.told.number) (turn_replied t)) ∙ e);
        restores = λ before takes e only g many.
            ap (λ ds. words_after p n s ws (ds ++ (Call.withdraw g ∷ []))) e
            ∙ restored before takes only g (ap (λ ds. count_word (words_after p n s ws ds)) (sym e) ∙ many);
        count_standing = reached_count cs;
        count_rank = reached_count cs ∙ sym (ledger_rank p ok n s (standing p ok n s cs) (standing_proper cs));
        heard_rank = λ only hs order.
            heard_rank p ok n s cs only hs (subst (λ rs. Perm (heard p n s cs rs) hs) (replies_same cs) order) ∙ sym (reached_count cs);
        shows = turn_shows;
        common = λ before behind e. standing_met p ok n s (standing p ok n s before) (standing_proper before);
        mixes = turn_mixes;
        missing_at_least = at_least cs;
        missing_enough = enough cs;
      }
