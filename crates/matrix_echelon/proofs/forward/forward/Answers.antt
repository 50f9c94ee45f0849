-- `forward::forward` meets its contract. The loop's invariant: the first i rows of the table are worked off.
use native.Mathlib.Numerals.{add-one}
use native.Mathlib.Omega.{arith}
use Rattle.matrix_echelon.proofs.WorkRow.{held_none, held_follows}
use Rattle.matrix_echelon.proofs.forward.forward.Goals as goal
use Rattle.matrix_echelon.proofs.forward.forward.Goals.{else-rank-grid, then-rank-grid}

pub loop-i-init : goal.loop-i-init
loop-i-init c = held_none c.requires.0 c.requires.1

pub loop-i-preserved : goal.loop-i-preserved
loop-i-preserved c =
    rw (add-one c.loop-i.i)
    (elim c.if-rank-grid.branch [
      | then-rank-grid w ↦ rw (w.e-is, w.pivots-is, w.rank-is, ← c.of-powers.ensures) w.work_row-rank.ensures
      | else-rank-grid w ↦ rw (w.e-is, w.pivots-is, w.rank-is) (held_follows c.requires.0 (omega (arith, w.if-rank-grid.false)) c.loop-i.invariant)
    ])
