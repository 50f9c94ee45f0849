-- `reduced::reduced` meets its contract. The loop's invariant: the worked rows from t on are reduced.
use Rattle.matrix_echelon.proofs.ReducedRows.{RowsReduced}
use Rattle.matrix_echelon.proofs.reduced.reduced.Given as goal

abbrev pub invariant-loop-t : goal.invariant-loop-t
invariant-loop-t l = RowsReduced l.p l.width l.rank l.t l.pivots l.initial.e l.e
