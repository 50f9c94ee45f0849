-- `reduced::rows_by_pivot` meets its contract. The loop's invariant: the first t rows are written at their pivots.
use Rattle.matrix_echelon.specs.Reduced.{RowsByPivot}
use Rattle.matrix_echelon.proofs.reduced.rows_by_pivot.Given as goal

abbrev pub invariant-loop-t : goal.invariant-loop-t
invariant-loop-t l = RowsByPivot l.t l.pivots l.at
