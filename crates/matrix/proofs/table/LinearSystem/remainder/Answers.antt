-- `matrix::table::LinearSystem::remainder` meets its contract. The loop's invariant: the first i numbers are those of w - A x.
use native.Mathlib.Omega.{arith}
use Rattle.field.proofs.Lines.{row_inside}
use Rattle.words.proofs.Walk.{walked_more}
use Rattle.matrix.proofs.Memory.{remainder_number, walked_numbers}
use Rattle.matrix.proofs.table.LinearSystem.remainder.Invariants.{left}
use Rattle.matrix.proofs.table.LinearSystem.remainder.Goals as goal

pub loop-i-preserved : goal.loop-i-preserved
unfolding left
loop-i-preserved c =
    let i = c.loop-i.i in
    walked_more i _ _ _ _ c.loop-i.invariant (omega arith)
    (remainder_number _ _ _ _ _ _ i c.dot-image.result c.minus.result c.loop-i-test.true
    (rw c.args.self.table.checked.a_long (row_inside i c.args.self.table.height c.args.self.table.width c.loop-i-test.true)) c.dot-image.ensures c.minus.ensures)

pub returns : goal.returns
unfolding left
returns c = walked_numbers c.loop-i.i c.args.self.table.height _ _ c.loop-i.rest (omega arith) c.requires.1 c.loop-i.invariant
