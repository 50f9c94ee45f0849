-- What request 101 moved on a board: a take whose frame is one of those that it names was refused by 7 and is refused by 6; every
-- other answer, all lent memory and all board words of a list of calls are as they were, whatever words it starts from.
use mathlib.Core.Path.{◌≡◌, refl, sym, ap, ◌∙◌}
use mathlib.Core.Logic.{◌↔◌}
use mathlib.Core.List.{List, [], ◌∷◌, ◌++◌}
use Prim.Native.Nat.{ℕ}
use lib.ListN.{length}
use Rattle.checks.specs.declared.Refusal.TheVariants.{Length, FrameLength, Padding}
use Rattle.checks.specs.InOrder.{passed, ◌else◌, ◌⨾◌}
use Rattle.checks.specs.Outcome.{Outcome, untouched}
use Rattle.checks.specs.Decide.{long?}
use Rattle.checks.specs.Prime.{IsModulus}
use Rattle.checks.proofs.InOrder.{none_left, in_order_then, ◌and_then◌}
use Rattle.frame.specs.Reading.{frame_multipliers, frame_values, frame_checks}
use Rattle.frame.specs.EarlierOrder.{earlier_checks, Moved, MovesExactly, moved, kept}
use Rattle.frame.proofs.EarlierOrder.{differ_exactly, moves_map, six_not_seven, behind, reading_moves}
use Rattle.ledger.specs.Ledger.{Ledger}
use Rattle.ledger.specs.Steps.{take_accepted, ledger_take}
use Rattle.ledger.specs.Board.{modulus_word, size_word, values_word, ledger_of, IsBoard}
use Rattle.ledger.specs.Calls.{board_checks, laid_out, take_call}
use Rattle.ledger.specs.History.{Call, reply, board_step, run}
use Rattle.ledger.specs.Turns.{Turn, reply_of}
use Rattle.ledger.specs.EarlierOrder.{earlier_take, earlier_take_call, earlier_step, TakeMoved, TakeMoves, ReplyMoves, TurnMoves}
use Rattle.ledger.proofs.Parse.{board_layout}
use Rattle.ledger.proofs.Turns.{RepliesOnce, board_once, turn_answered}

-- ---- take

-- on the ledger, behind the length of the mix
step_moves : (p : ℕ) (ok : IsModulus p) (n s : ℕ) (l : Ledger) (frame mix : List ℕ)
    → MovesExactly ((length mix ≡ n) × Moved p n s frame) (untouched (l, mix) Padding) (untouched (l, mix) FrameLength)
    (earlier_take p ok n s l frame mix) (ledger_take p ok n s l frame mix)
unfolding ledger_take earlier_take
step_moves p ok n s l frame mix =
    let room = long? mix n else Length ⨾ passed in
    let lent : Ledger × List ℕ = (l, mix) in
    let o = take_accepted p ok n s l (frame_multipliers p n frame) (frame_values p n s frame) mix in
    rw (in_order_then room (frame_checks p n s frame) o (untouched lent), in_order_then room (earlier_checks p n s frame) o (untouched lent))
    (behind room (untouched lent) (λ hs. hs.0) (λ h. h and_then none_left) _ _ (λ _. reading_moves p n s frame o (untouched lent)))

-- on words, behind the test that they are a board; a refused step leaves the ledger that they hold, and so the words
module _ (ws frame mix : List ℕ) where
  abbrev lent : List ℕ × List ℕ
  lent = (ws, mix)

  on_board_lem : (b : IsBoard ws)
      → MovesExactly ((length mix ≡ size_word ws) × Moved (modulus_word ws) (size_word ws) (values_word ws) frame) (untouched lent Padding) (untouched lent FrameLength)
      (laid_out (modulus_word ws) (size_word ws) (values_word ws) (earlier_take (modulus_word ws) b.prime (size_word ws) (values_word ws) (ledger_of ws) frame mix))
      (laid_out (modulus_word ws) (size_word ws) (values_word ws) (ledger_take (modulus_word ws) b.prime (size_word ws) (values_word ws) (ledger_of ws) frame mix))
  on_board_lem b =
      rw (board_layout ws b) at
      (moves_map (laid_out (modulus_word ws) (size_word ws) (values_word ws)) (step_moves (modulus_word ws) b.prime (size_word ws) (values_word ws) (ledger_of ws) frame mix))

  pub take_moves : TakeMoves ws frame mix
  unfolding take_call earlier_take_call
  take_moves =
      behind (board_checks ws) (untouched lent) (λ hs. hs.0) (λ b. b and_then none_left) _ _ (λ hs. on_board_lem hs.0)

pub take_differs : (ws frame mix : List ℕ) → (take_call ws frame mix ≡ earlier_take_call ws frame mix → ⊥) ↔ TakeMoved ws frame mix
take_differs ws frame mix = differ_exactly (six_not_seven (ws, mix)) (take_moves ws frame mix)

-- ---- a list of calls

earlier_once : RepliesOnce earlier_step
unfolding earlier_step board_step
earlier_once ws (Call.take frame mix) = refl
earlier_once ws (Call.withdraw t) = refl
earlier_once ws (Call.show low marks numbers) = refl

-- the words that a call leaves have not moved
step_leaves : (ws : List ℕ) (c : Call) → (board_step ws c).state ≡ (earlier_step ws c).state
unfolding board_step earlier_step
step_leaves ws (Call.take frame mix) = go (take_moves ws frame mix)
  where
    words : Outcome (List ℕ × List ℕ) → List ℕ
    words o = o.lent.0

    go : TakeMoves ws frame mix → (take_call ws frame mix).lent.0 ≡ (earlier_take_call ws frame mix).lent.0
    go (moved m was is) = ap words is ∙ sym (ap words was)
    go (kept k e) = ap words e
step_leaves ws (Call.withdraw t) = refl
step_leaves ws (Call.show low marks numbers) = refl

-- nor have those that a list leaves
run_leaves : (ws : List ℕ) (cs : List Call) → (run board_step ws cs).state ≡ (run earlier_step ws cs).state
unfolding run
run_leaves ws [] = refl
run_leaves ws (c ∷ cs) = run_leaves (board_step ws c).state cs ∙ ap (λ s. (run earlier_step s cs).state) (step_leaves ws c)

-- the reply of a call
step_replies : (ws : List ℕ) (c : Call) → ReplyMoves ws c (reply_of (earlier_step ws c)) (reply_of (board_step ws c))
unfolding board_step earlier_step
step_replies ws (Call.take frame mix) =
    moves_map (λ (o : Outcome (List ℕ × List ℕ)). reply o.told o.lent.1 []) (take_moves ws frame mix)
step_replies ws (Call.withdraw t) = refl
step_replies ws (Call.show low marks numbers) = refl

-- "No other answer moves", in every list of calls, on whatever words
pub answers_move : (ws : List ℕ) (cs : List Call) (t : Turn cs) → TurnMoves ws t
answers_move ws cs t =
    let same = run_leaves ws t.before in
    record {
      gets = same;
      leaves = run_leaves ws (t.before ++ (t.call ∷ []));
      replies =
          rw (turn_answered board_step board_once ws t, turn_answered earlier_step earlier_once ws t, ← same)
          (step_replies (run board_step ws t.before).state t.call);
    }
