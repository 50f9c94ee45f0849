-- `matrix_mul::rows::next_row` meets its contract. The loop's invariant: the rows from `from` up to t add nothing, where those that the
-- list passes over add nothing.
use Prim.Native.Nat.{◌-◌, ◌≤◌}
use lib.ListN.{length}
use Rattle.matrix_mul.specs.Places.{place}
use Rattle.matrix_mul.proofs.RowsTaken.{Skipped}
use Rattle.matrix_mul.proofs.rows.next_row.Given as goal

abbrev pub invariant-loop-t : goal.invariant-loop-t
invariant-loop-t l = (l.from ≤ l.t) × (l.t ≤ length l.by) × Skipped l.by l.next (place l.start l.stride) l.from l.t

abbrev pub decreases-loop-t : goal.decreases-loop-t
decreases-loop-t l = length l.by - l.t
