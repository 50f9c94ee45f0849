-- `relay_calls::relay_row` meets its contract: what `find` tells decides between refusal 15 and the frame of the candidate.
use mathlib.Core.Path.{◌≡◌, sym, ap, ◌∙◌, subst}
use mathlib.Core.Bool.{true}
use mathlib.Core.List.{List, ◌++◌}
use Prim.Native.Nat.{ℕ}
use native.Mathlib.Omega.{arith}
use lib.ListN.{length, get_or, take, drop}
use lib.Seq.{length-take-le, take_at}
use borrow.Author.Tests.{not-true, not-false}
use Rattle.words.proofs.Writes.{put_whole}
use Rattle.frame.specs.Format.{longest}
use Rattle.ledger.specs.Board.{IsBoard, size_word, values_word}
use Rattle.board_solve.specs.Combination.{Combination}
use Rattle.board_solve.proofs.Standing.{board_sizes}
use Rattle.relay_calls.proofs.RelayRow.{none_outcome, some_outcome, frame_most}
use Rattle.relay_calls.proofs.relay_row.Goals as goal
use Rattle.relay_calls.proofs.relay_row.Goals.{After-combine_values, After-put, Else-not-find, Start}

-- the words of a call are a board
board : (s : Start) → IsBoard s.args.board.now
board s = s.requires.findable.candidate.inverse.board

-- ---- no combination

pub returns-then-not-find : goal.returns-then-not-find
returns-then-not-find c = none_outcome _ _ _ _ _ c.requires (subst (Combination _ _ _) (not-true c.find.result c.if-not-find.true-raw) c.find.ensures)

-- ---- a combination

some : (c : Else-not-find) → let a = c.args in
    Combination a.board.now a.wanted.now a.c.now true
some c = subst (Combination _ _ _) (not-false c.find.result c.if-not-find.false-raw) c.find.ensures

-- the values, as they are lent to be written
abbrev values : After-combine_values → List ℕ
values c = let s = c.of-header.result.s in take s (c.combine_values.new.v ++ drop s c.filled-v.result)

values_are : (c : After-combine_values) → values c ≡ c.combine_values.new.v
values_are c = take_at c.combine_values.new.v _ _ (c.combine_values.ensures.0 ∙ sym c.of-header.ensures.words)

values_long : (c : After-combine_values) → length (values c) ≡ values_word c.args.board.now
values_long c = ap length (values_are c) ∙ c.combine_values.ensures.0

-- the front of c is as long as the wanted row
fits : (c : Else-not-find) → let a = c.args in length a.wanted.now ≡ length (take (length a.wanted.now) a.c.now)
fits c =
    let b = c.requires.findable.candidate.inverse.board in
    sym (length-take-le _ _ (omega (arith, (some c).long, c.requires.findable.row.long, (board_sizes _ b).1)))

-- `put` has filled the mix with c's numbers
mix_written : (c : After-put) → length c.args.wanted.now ≡ length (take (length c.args.wanted.now) c.args.c.now) → let a = c.args in
    c.put.new.out ≡ take (size_word a.board.now) a.c.now
mix_written c fits =
    let e = c.put.ensures in
    put_whole _ c.args.mix.now _ e.0 (c.requires.mix_long ∙ sym c.requires.findable.row.long ∙ fits) e.1
    ∙ ap (λ n. take n c.args.c.now) c.requires.findable.row.long

pub overflow_cast-length : goal.overflow_cast-length
unfolding longest
overflow_cast-length c =
    let at = (goal.at.overflow_cast-length c).After-combine_values in
    let written = rw c.of-header.ensures.modulus at c.write_frame-length.ensures.end in
    omega (arith, frame_most _ _ _ _ _ c.requires (values at) (values_long at), (board (goal.at.overflow_cast-length c).Start).words.1)

pub returns : goal.returns
returns c =
    let at = (goal.at.returns c).After-combine_values in
    let past = (goal.at.returns c).Else-not-find in
    some_outcome _ _ _ _ _ c.requires (some past) (values at) (values_long at)
    (λ i h. ap (λ xs. get_or xs i 0) (values_are at) ∙ c.combine_values.ensures.1 i h) _ _ _
    (mix_written (goal.at.returns c).After-put (fits past)) (rw c.of-header.ensures.modulus at c.write_frame-length.ensures)
