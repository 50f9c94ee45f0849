-- Request 101 on a board: take in the order of 01, as it was before that request, and what the request moved in a list of calls. As
-- in the frames' EarlierOrder.antt, the earlier order is here for this alone.
use Rattle.std.specs.Prelude.{◌≡◌, List, [], ◌∷◌, ℕ, length}
use Rattle.checks.specs.declared.Refusal.TheVariants.{Length, FrameLength, Padding}
use Rattle.checks.specs.InOrder.{◌else◌, ◌⨾◌, in_order}
use Rattle.checks.specs.Told.{refused}
use Rattle.checks.specs.Outcome.{Outcome, untouched}
use Rattle.checks.specs.Decide.{long?}
use Rattle.checks.specs.Prime.{IsModulus}
use Rattle.frame.specs.Reading.{frame_multipliers, frame_values}
use Rattle.frame.specs.EarlierOrder.{earlier_checks, Moved, MovesExactly}
use Rattle.ledger.specs.Ledger.{Ledger}
use Rattle.ledger.specs.Steps.{take_accepted}
use Rattle.ledger.specs.Board.{modulus_word, size_word, values_word, ledger_of, IsBoard}
use Rattle.ledger.specs.Calls.{board_checks, laid_out, take_call}
use Rattle.ledger.specs.History.{Call, Reply, reply, After, after, board_step}
use Rattle.ledger.specs.Turns.{Turn, got, left, answered}

-- the ledger's step, the call and a step of a list, with the frame's checks in the order of 01
unfoldable pub earlier_take : (p : ℕ) → IsModulus p → (n s : ℕ) → Ledger → (frame mix : List ℕ) → Outcome (Ledger × List ℕ)
earlier_take p ok n s l frame mix =
    in_order (long? mix n else Length ⨾ earlier_checks p n s frame)
    (λ _. take_accepted p ok n s l (frame_multipliers p n frame) (frame_values p n s frame) mix) (untouched (l, mix))

unfoldable pub earlier_take_call : (ws frame mix : List ℕ) → Outcome (List ℕ × List ℕ)
earlier_take_call ws frame mix =
    in_order (board_checks ws)
    (λ hs.
    laid_out (modulus_word ws) (size_word ws) (values_word ws)
    (earlier_take (modulus_word ws) hs.0.prime (size_word ws) (values_word ws) (ledger_of ws) frame mix))
    (untouched (ws, mix))

unfoldable pub earlier_step : List ℕ → Call → After (List ℕ)
earlier_step ws (Call.take frame mix) =
    let r = earlier_take_call ws frame mix in after r.lent.0 (reply r.told r.lent.1 [] ∷ [])
earlier_step ws (Call.withdraw t) = board_step ws (Call.withdraw t)
earlier_step ws (Call.show low marks numbers) = board_step ws (Call.show low marks numbers)

-- where the answer of take moved: 11 and 3 are passed, and the frame is one of those that the request names
abbrev pub TakeMoved : (ws frame mix : List ℕ) → Type 0
TakeMoved ws frame mix = IsBoard ws × ((length mix ≡ size_word ws) × Moved (modulus_word ws) (size_word ws) (values_word ws) frame)

-- there take gave 7 and gives 6, with board and mix as they were either way
abbrev pub TakeMoves : (ws frame mix : List ℕ) → Type 0
TakeMoves ws frame mix =
    MovesExactly (TakeMoved ws frame mix) (untouched (ws, mix) Padding) (untouched (ws, mix) FrameLength) (earlier_take_call ws frame mix)
    (take_call ws frame mix)

-- the reply of a call on these words: that of a take moves so, no other moves
abbrev pub ReplyMoves : (ws : List ℕ) → Call → (was is : Reply) → Type 0
ReplyMoves ws (Call.take frame mix) was is =
    MovesExactly (TakeMoved ws frame mix) (reply (refused Padding) mix []) (reply (refused FrameLength) mix []) was is
ReplyMoves ws (Call.withdraw t) was is = is ≡ was
ReplyMoves ws (Call.show low marks numbers) was is = is ≡ was

-- a call of a list gets and leaves the words that it got and left before, and its reply moves so
pub record TurnMoves (ws : List ℕ) {cs : List Call} (t : Turn cs) : Type 0 where
  pub gets : got board_step ws t ≡ got earlier_step ws t
  pub leaves : left board_step ws t ≡ left earlier_step ws t
  pub replies : ReplyMoves (got board_step ws t) t.call (answered earlier_step ws t) (answered board_step ws t)
