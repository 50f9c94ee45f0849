-- `worked::clear_group` meets its contract. The loop's invariant: the rows of the group in front of row t are cleared, all others are
-- as they were.
use native.Mathlib.Omega.{arith}
use Rattle.matrix_echelon.proofs.WorkedClear.{cleared_more}
use Rattle.matrix_echelon.proofs.worked.clear_group.Goals as goal

pub loop-t-preserved : goal.loop-t-preserved
loop-t-preserved c =
    let l = c.loop-t in
    cleared_more c.requires.leading.positive (omega arith) l.invariant c.minus-c.ensures c.add_multiple.ensures
