-- `matrix_mul::rows::add_all` meets its contract. The loop's invariant: the sums of limbs hold what the first t rows add.
use Prim.Native.Nat.{◌-◌, ◌≤◌}
use lib.ListN.{length}
use Rattle.matrix_mul.proofs.RowSums.{RowsHeld}
use Rattle.matrix_mul.proofs.rows.add_all.Given as goal

abbrev pub invariant-loop-t : goal.invariant-loop-t
invariant-loop-t l = (l.t ≤ length l.by) × RowsHeld l.by l.table l.rows (length l.out) l.t l.limbs

abbrev pub decreases-loop-t : goal.decreases-loop-t
decreases-loop-t l = length l.by - l.t
