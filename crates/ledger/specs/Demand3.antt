-- Demand 3 as one statement: what holds of every list of calls on the board that an accepted open wrote. A field for each
-- sentence of the demand and of 01's paragraph on it; `proofs/Demand3.antt` shows that every list has it.
use Rattle.std.specs.Prelude.{◌≡◌, ◌⊎◌, ℕ, ◌+◌, ◌-◌, ◌≤◌, ℤ, length}
use mathlib.Core.List.{List, [], ◌∷◌, ◌++◌, map, Perm, Memᴰ}
use Rattle.checks.specs.Prime.{IsModulus}
use Rattle.checks.specs.Refusal.{IsRefusal}
use Rattle.frame.specs.Reading.{frame_multipliers}
use Rattle.ledger.specs.Ledger.{Entry, ledger, Assignment, MeetsAll}
use Rattle.ledger.specs.Board.{count_word}
use Rattle.ledger.specs.Calls.{open_call}
use Rattle.ledger.specs.History.{Call, take, withdraw, show, Reply, board_step, ledger_run, board_run, on_board}
use Rattle.ledger.specs.Turns.{Turn, got, left, answered}
use Rattle.ledger.specs.Heard.{NoWithdrawal, news, heard, ledger_rows, rows_rank}
use Rattle.ledger.specs.Settle.{AllSettled, unit_take}
use Rattle.ledger.specs.Answers.{Answers, Changes, Shows, IsMix, Counted, Untouched}

module _ (p n s : ℕ) (ws : List ℕ) where
  -- the board that open wrote into the words ws
  abbrev pub fresh_board : List ℕ
  fresh_board = (open_call p n s ws).lent

  -- after calls from there: the board's words, and the replies
  abbrev pub words_after : List Call → List ℕ
  words_after cs = (board_run fresh_board cs).state

  abbrev pub replies_to : List Call → List Reply
  replies_to cs = (board_run fresh_board cs).replies

  -- the reply to a call of a list
  abbrev pub reply_at : {cs : List Call} → Turn cs → Reply
  reply_at t = answered board_step fresh_board t

-- the frames that stand after calls: the entries of the ledger that is fed them
abbrev pub standing : (p : ℕ) → IsModulus p → (n s : ℕ) → List Call → List Entry
standing p ok n s cs = (ledger_run p ok n s (ledger []) cs).state.entries

module _ (p : ℕ) (ok : IsModulus p) (n s : ℕ) (ws : List ℕ) where
  -- n - k takes, of frames that carry one record each, that are all answered new after the calls cs, and settle all records
  abbrev pub SettlingTakes : List Call → Type 0
  SettlingTakes cs =
      (columns : List ℕ) × (length columns ≡ n - count_word (words_after p n s ws cs))
      × ((r : Reply) → Memᴰ r (board_run (words_after p n s ws cs) (map (unit_take p n s) columns)).replies → r.told.number ≡ 0)
      × (news (map (unit_take p n s) columns) (board_run (words_after p n s ws cs) (map (unit_take p n s) columns)).replies ≡ length columns)
      × AllSettled p n s (standing p ok n s (cs ++ map (unit_take p n s) columns))

  pub record Demand3 (cs : List Call) : Type 0 where
    -- "After the list these equal the ledger's: every answer ..; every mix, mark and number as its call left it; all board words,
    -- being the board laid out as above with the count as k and the entries as its rows." Each call has one reply.
    pub as_ledger : board_run (fresh_board p n s ws) cs ≡ on_board p n s (ledger_run p ok n s (ledger []) cs)
    pub each_answered : length (replies_to p n s ws cs) ≡ length cs
    -- every call answers as 01 says, by the frames that stood before it: which is refused and by what, and all else is accepted
    pub answers : (t : Turn cs) → Answers p n s (standing p ok n s t.before) t.call (reply_at p n s ws t).told
    -- and changes the standing frames as 01 says
    pub changes : (t : Turn cs)
        → Changes p n s t.call (reply_at p n s ws t).told (standing p ok n s t.before) (standing p ok n s (t.before ++ (t.call ∷ [])))
    -- "answer new, with the count", "The answer is the count": of the board that the call left
    pub counted : (t : Turn cs) → Counted n t.call (reply_at p n s ws t).told (count_word (left board_step (fresh_board p n s ws) t))
    -- memory that a call is lent and does not write is as it was
    pub untouched : (t : Turn cs) → Untouched t.call (reply_at p n s ws t)
    -- "Refused calls change no board word."
    pub refused_keeps : (t : Turn cs) → IsRefusal (reply_at p n s ws t).told.number → left board_step (fresh_board p n s ws) t ≡ got board_step (fresh_board p n s ws) t
    -- "in a list of calls 11 never occurs"
    pub never_eleven : (t : Turn cs) → (reply_at p n s ws t).told.number ≡ 11 → ⊥
    -- "After accepted takes only, adding g entries, a withdrawal of g restores every word." Shows and refused takes may stand
    -- between them.
    pub restores : (before takes : List Call) → cs ≡ before ++ takes → NoWithdrawal takes
        → (g : ℕ) → count_word (words_after p n s ws cs) ≡ count_word (words_after p n s ws before) + g
        → words_after p n s ws (cs ++ (withdraw g ∷ [])) ≡ words_after p n s ws before
    -- "Its entries are the standing frames; their number is the count." "The count of frames held is the rank of the ledger's
    -- rows."
    pub count_standing : count_word (words_after p n s ws cs) ≡ length (standing p ok n s cs)
    pub count_rank : count_word (words_after p n s ws cs) ≡ rows_rank p ok n (ledger_rows (standing p ok n s cs))
    -- "in a history without withdrawals that is also the rank of the multipliers of all frames answered new or repeat, in
    -- whatever order they came": hs is any order of those that the board's own replies answer so
    pub heard_rank : NoWithdrawal cs → (hs : List (List ℕ)) → Perm (heard p n s cs (replies_to p n s ws cs)) hs
        → rows_rank p ok n hs ≡ count_word (words_after p n s ws cs)
    -- "A show not refused gives a record exactly when all assignments meeting the frames then standing agree on it, and gives
    -- what they agree on."
    pub shows : (t : Turn cs) (low : ℕ) (marks : List ℕ) (numbers : List ℤ) → t.call ≡ show low marks numbers
        → (IsRefusal (reply_at p n s ws t).told.number → ⊥) → Shows p n s low (standing p ok n s t.before) (reply_at p n s ws t)
    -- the standing frames have a common assignment, after the list and after every front of it
    pub common : (before behind : List Call) → cs ≡ before ++ behind → (x : Assignment p) × MeetsAll p n s (standing p ok n s before) x
    -- "Otherwise the combination is unique; its multipliers are written to the mix, the rest 0.": of a frame that is answered
    -- repeat, 100, or refused by 9
    pub mixes : (t : Turn cs) (frame mix : List ℕ) → t.call ≡ take frame mix
        → ((reply_at p n s ws t).told.number ≡ 100) ⊎ ((reply_at p n s ws t).told.number ≡ 9)
        → IsMix p n (standing p ok n s t.before) (frame_multipliers p n frame) (reply_at p n s ws t).words
    -- "Missing = n - k: every list of further calls after which all records are settled has at least n - k takes answered new"
    pub missing_at_least : (ds : List Call) → AllSettled p n s (standing p ok n s (cs ++ ds))
        → n - count_word (words_after p n s ws cs) ≤ news ds (board_run (words_after p n s ws cs) ds).replies
    -- "and after some n - k takes, all answered new, all are settled"
    pub missing_enough : SettlingTakes cs
