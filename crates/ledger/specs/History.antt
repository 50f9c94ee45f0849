-- 01: "Demand 3 is one statement about a whole list of take, withdraw and show calls, refused ones included." A list of calls
-- is run on the board, by the very functions that the calls' contracts equate the code with, and on the ledger.
use Rattle.std.specs.Prelude.{List, [], ◌∷◌, ◌++◌, ℕ, ℤ}
use Rattle.checks.specs.Told.{Told}
use Rattle.checks.specs.Prime.{IsModulus}
use Rattle.ledger.specs.Ledger.{Ledger}
use Rattle.ledger.specs.Steps.{ledger_take, ledger_withdraw, ledger_show}
use Rattle.ledger.specs.Board.{board_of}
use Rattle.ledger.specs.Calls.{take_call, withdraw_call, show_call}

-- a call, with its arguments and the memory lent to it to be written, of any contents and length
pub data Call : Type 0 where
  take : (frame mix : List ℕ) → Call
  withdraw : (t : ℕ) → Call
  show : (low : ℕ) (marks : List ℕ) (numbers : List ℤ) → Call

-- what a call answered, and what it left in the words (mix or marks) and the numbers lent to it
pub record Reply : Type 0 where
  pub told : Told
  pub words : List ℕ
  pub numbers : List ℤ

abbrev pub reply : Told → List ℕ → List ℤ → Reply
reply told words numbers = record { told = told; words = words; numbers = numbers }

-- what a state has become, with the replies so far
pub record After (S : Type 0) : Type 0 where
  pub state : S
  pub replies : List Reply

abbrev pub after : {S : Type 0} → S → List Reply → After S
after s rs = record { state = s; replies = rs }

-- one call on the ledger
unfoldable pub ledger_step : (p : ℕ) → IsModulus p → (n s : ℕ) → Ledger → Call → After Ledger
ledger_step p ok n s l (take frame mix) =
    let r = ledger_take p ok n s l frame mix in after r.lent.0 (reply r.told r.lent.1 [] ∷ [])
ledger_step p ok n s l (withdraw t) = let r = ledger_withdraw l t in after r.lent (reply r.told [] [] ∷ [])
ledger_step p ok n s l (show low marks numbers) =
    let r = ledger_show p ok n s l low marks numbers in after l (reply r.told r.lent.0 r.lent.1 ∷ [])

-- one call on the board
unfoldable pub board_step : List ℕ → Call → After (List ℕ)
board_step ws (take frame mix) = let r = take_call ws frame mix in after r.lent.0 (reply r.told r.lent.1 [] ∷ [])
board_step ws (withdraw t) = let r = withdraw_call ws t in after r.lent (reply r.told [] [] ∷ [])
board_step ws (show low marks numbers) =
    let r = show_call ws low marks numbers in after ws (reply r.told r.lent.0 r.lent.1 ∷ [])

-- a list of calls, each on what the last one left
unfoldable pub run : {S : Type 0} → (S → Call → After S) → S → List Call → After S
run step s [] = after s []
run step s (c ∷ cs) =
    let one = step s c in
    let rest = run step one.state cs in after rest.state (one.replies ++ rest.replies)

abbrev pub ledger_run : (p : ℕ) → IsModulus p → (n s : ℕ) → Ledger → List Call → After Ledger
ledger_run p ok n s = run (ledger_step p ok n s)

abbrev pub board_run : List ℕ → List Call → After (List ℕ)
board_run = run board_step

-- the ledger's state laid out as a board, with its replies
abbrev pub on_board : (p n s : ℕ) → After Ledger → After (List ℕ)
on_board p n s a = after (board_of p n s a.state) a.replies
