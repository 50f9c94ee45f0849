-- The heart of demand 3: from the board of an accepted open, every list of calls leaves the board, the answers and the lent memory
-- that the ledger says. Each call on the layout of a proper ledger is the ledger's step (proofs/WordsCalls.antt), which keeps the
-- ledger proper (proofs/Proper.antt), so it goes by induction over the list. Below it: what refused calls and withdrawals leave.
-- The whole demand is `demand_3` (proofs/Demand3.antt).
use mathlib.Core.Path.{◌≡◌, refl, sym, ap, ◌∙◌, subst}
use mathlib.Core.List.{List, [], ◌∷◌, ◌++◌}
use Prim.Native.Nat.{ℕ, ◌+◌, ◌-◌}
use native.Mathlib.Omega.{arith}
use lib.IntN.{ℤ}
use lib.ListN.{length, take, length-append}
use lib.Seq.{take-append_seam}
use Rattle.checks.specs.Prime.{IsModulus}
use Rattle.checks.specs.Largest.{FrameSize, WordCount}
use Rattle.checks.specs.Refusal.{IsRefusal}
use Rattle.checks.specs.Told.{done}
use Rattle.checks.specs.Outcome.{Outcome, outcome}
use Rattle.checks.proofs.Refusals.{refusal_number_lem}
use Rattle.checks.proofs.InOrder.{none_left, in_order_done, in_order_elim, ◌and_then◌}
use Rattle.ledger.specs.Ledger.{Entry, Ledger, ledger}
use Rattle.ledger.specs.Steps.{ledger_withdraw}
use Rattle.ledger.specs.Board.{modulus_word, size_word, values_word, board_length, layout, board_of, ledger_of, IsBoard}
use Rattle.ledger.specs.Decide.{board?}
use Rattle.ledger.specs.Calls.{open_call, take_call, withdraw_call}
use Rattle.ledger.specs.Turns.{reply_of}
use Rattle.ledger.specs.History.{Call, reply, After, after, ledger_step, board_step, run, ledger_run, board_run, on_board}
use Rattle.ledger.specs.Heard.{NoWithdrawal}
use Rattle.ledger.specs.Proper.{Proper}
use Rattle.ledger.proofs.Proper.{empty_proper, step_proper}
use Rattle.ledger.proofs.Parse.{board_layout}
use Rattle.ledger.proofs.WordsCalls.{take_on_board, take_off_board, withdraw_on_board, withdraw_off_board, take_at_layout, withdraw_at_layout}
use Rattle.ledger.proofs.WordsCalls.{show_at_layout}
use Rattle.ledger.proofs.LedgerSteps.{took, withdrew}
use Rattle.ledger.proofs.LedgerRuns.{run_append, only_appends, took_refused, withdrew_refused}

-- ---- an accepted open

-- what an open has done that is told 0
pub record AcceptedOpen (p n s : ℕ) (o : Outcome (List ℕ)) : Type 0 where
  pub prime : IsModulus p
  pub size : FrameSize n
  pub words : WordCount s
  pub board : o.lent ≡ layout p n s []

pub open_accepted : (p n s : ℕ) (ws : List ℕ) → (open_call p n s ws).told.number ≡ 0 → AcceptedOpen p n s (open_call p n s ws)
unfolding open_call
open_accepted p n s ws =
    in_order_elim _ _ (λ o. o.told.number ≡ 0 → AcceptedOpen p n s o)
    (λ hs _. record { prime = hs.0; size = hs.1.0; words = hs.1.1.0; board = refl })
    (λ k _ e. absurd (omega (arith, refusal_number_lem k)))

-- with a modulus, a size, words a record and a board's length open is accepted, and writes a fresh board
pub open_done : (p n s : ℕ) (ws : List ℕ) → IsModulus p → FrameSize n → WordCount s → length ws ≡ board_length n s
    → open_call p n s ws ≡ outcome done (layout p n s [])
unfolding open_call
open_done p n s ws ok size words long =
    in_order_done _ _ _ (ok and_then size and_then words and_then long and_then none_left) (λ _. refl)

-- ---- a list of calls

module _ (p n s : ℕ) (ok : IsModulus p) (size : FrameSize n) (words : WordCount s) where
  -- a call on the layout of a proper ledger is the ledger's step
  step_at_layout : (l : Ledger) → Proper p n s l.entries → (c : Call)
      → board_step (board_of p n s l) c ≡ on_board p n s (ledger_step p ok n s l c)
  unfolding board_step ledger_step
  step_at_layout l proper (Call.take frame mix) =
      ap (λ (r : Outcome (List ℕ × List ℕ)). after r.lent.0 (reply r.told r.lent.1 [] ∷ []))
      (take_at_layout p n s l.entries ok size words proper frame mix)
  step_at_layout l proper (Call.withdraw t) =
      ap (λ (r : Outcome (List ℕ)). after r.lent (reply r.told [] [] ∷ [])) (withdraw_at_layout p n s l.entries ok size words proper t)
  step_at_layout l proper (Call.show low marks numbers) =
      ap (λ (r : Outcome (List ℕ × List ℤ)). after (board_of p n s l) (reply r.told r.lent.0 r.lent.1 ∷ []))
      (show_at_layout p n s l.entries ok size words proper low marks numbers)

  -- and so is a list of calls
  pub history : (l : Ledger) → Proper p n s l.entries → (cs : List Call)
      → board_run (board_of p n s l) cs ≡ on_board p n s (ledger_run p ok n s l cs)
  unfolding run
  history l proper [] = refl
  history l proper (c ∷ cs) =
      ap (λ (a : After (List ℕ)). let rest = run board_step a.state cs in after rest.state (a.replies ++ rest.replies))
      (step_at_layout l proper c)
      ∙ ap (λ (a : After (List ℕ)). after a.state ((ledger_step p ok n s l c).replies ++ a.replies))
      (history (ledger_step p ok n s l c).state (step_proper p n s l.entries proper ok c) cs)

-- 01: "The list starts from the board that an accepted open has written, whatever open's arguments. .. After the list these equal
-- the ledger's: every answer ..; every mix, mark and number as its call left it; all board words, being the board laid out as
-- above."
pub board_as_ledger : (p n s : ℕ) (ws : List ℕ) (ok : IsModulus p) → (open_call p n s ws).told.number ≡ 0 → (cs : List Call)
    → board_run (open_call p n s ws).lent cs ≡ on_board p n s (ledger_run p ok n s (ledger []) cs)
board_as_ledger p n s ws ok e cs =
    let fresh = open_accepted p n s ws e in
    ap (λ b. board_run b cs) fresh.board ∙ history p n s ok fresh.size fresh.words (ledger []) (empty_proper p n s) cs

-- ---- what 01 says besides

-- 01: "Refused calls change no board word." Whatever the words are: on a board, what is laid out again is what stood there.
pub take_refused_keeps : (ws frame mix : List ℕ) → IsRefusal (take_call ws frame mix).told.number
    → (take_call ws frame mix).lent.0 ≡ ws
take_refused_keeps ws frame mix = go (board? ws)
  where
    go : Dec (IsBoard ws) → IsRefusal (take_call ws frame mix).told.number → (take_call ws frame mix).lent.0 ≡ ws
    go (yes b) h =
        let p = modulus_word ws in
        let n = size_word ws in
        let s = values_word ws in
        let e = take_on_board ws b frame mix in
        ap (λ (r : Outcome (List ℕ × List ℕ)). r.lent.0) e
        ∙ ap (board_of p n s)
        (took_refused p b.prime n s (ledger_of ws) frame mix (took p b.prime n s (ledger_of ws) frame mix)
        (subst (λ (r : Outcome (List ℕ × List ℕ)). IsRefusal r.told.number) e h))
        ∙ board_layout ws b
    go (no f) h = ap (λ (r : Outcome (List ℕ × List ℕ)). r.lent.0) (take_off_board ws f frame mix)

pub withdraw_refused_keeps : (ws : List ℕ) (t : ℕ) → IsRefusal (withdraw_call ws t).told.number
    → (withdraw_call ws t).lent ≡ ws
withdraw_refused_keeps ws t = go (board? ws)
  where
    go : Dec (IsBoard ws) → IsRefusal (withdraw_call ws t).told.number → (withdraw_call ws t).lent ≡ ws
    go (yes b) h =
        let e = withdraw_on_board ws b t in
        ap (λ (r : Outcome (List ℕ)). r.lent) e
        ∙ ap (board_of (modulus_word ws) (size_word ws) (values_word ws))
        (withdrew_refused (ledger_of ws) t (withdrew (ledger_of ws) t)
        (subst (λ (r : Outcome (List ℕ)). IsRefusal r.told.number) e h))
        ∙ board_layout ws b
    go (no f) h = ap (λ (r : Outcome (List ℕ)). r.lent) (withdraw_off_board ws f t)

pub refused_keeps : (ws : List ℕ) (c : Call) → IsRefusal (reply_of (board_step ws c)).told.number → (board_step ws c).state ≡ ws
unfolding board_step
refused_keeps ws (Call.take frame mix) h = take_refused_keeps ws frame mix h
refused_keeps ws (Call.withdraw t) h = withdraw_refused_keeps ws t h
refused_keeps ws (Call.show low marks numbers) h = refl

-- the entries behind others are dropped
withdraw_behind : (es ds : List Entry) → (ledger_withdraw (ledger (es ++ ds)) (length ds)).lent ≡ ledger es
unfolding ledger_withdraw
withdraw_behind es ds =
    let whole = length-append es ds in
    let front : length (es ++ ds) - length ds ≡ length es = omega arith in
    ap (λ (r : Outcome Ledger). r.lent)
    (in_order_done _ _ _ ((omega arith) and_then none_left) (λ _. refl))
    ∙ ap ledger (ap (λ k. take k (es ++ ds)) front ∙ take-append_seam es ds)

-- 01: "After accepted takes only, adding g entries, a withdrawal of g restores every word." Shows and refused takes may stand
-- between them.
pub withdrawal_restores : (p n s : ℕ) (ok : IsModulus p) → FrameSize n → WordCount s → (l : Ledger) → Proper p n s l.entries
    → (cs : List Call) → NoWithdrawal cs → (g : ℕ) → length (ledger_run p ok n s l cs).state.entries ≡ length l.entries + g
    → (board_run (board_of p n s l) (cs ++ (Call.withdraw g ∷ []))).state ≡ board_of p n s l
unfolding run ledger_step
withdrawal_restores p n s ok size words l proper cs only g long =
    let (ds, e) = only_appends p ok n s l cs only in
    let many : length ds ≡ g = omega (arith, ap length e, length-append l.entries ds) in
    ap (λ (a : After (List ℕ)). a.state) (history p n s ok size words l proper (cs ++ (Call.withdraw g ∷ [])))
    ∙ ap (λ (a : After Ledger). board_of p n s a.state) (run_append (ledger_step p ok n s) l cs (Call.withdraw g ∷ []))
    ∙ ap (λ es. board_of p n s (ledger_withdraw (ledger es) g).lent) e
    ∙ ap (λ k. board_of p n s (ledger_withdraw (ledger (l.entries ++ ds)) k).lent) (sym many)
    ∙ ap (board_of p n s) (withdraw_behind l.entries ds)
