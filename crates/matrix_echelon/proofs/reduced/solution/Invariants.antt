-- `reduced::solution` meets its contract. The loop's invariant: z is D w at the pivots of the worked rows from t on, and 0 elsewhere.
use Rattle.matrix_echelon.proofs.SolutionBack.{SolvedFrom}
use Rattle.matrix_echelon.proofs.reduced.solution.Given as goal

abbrev pub invariant-loop-t : goal.invariant-loop-t
invariant-loop-t l = SolvedFrom l.p l.n l.rank l.t l.e l.pivots l.z
