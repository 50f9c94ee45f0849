-- `reduced::multipliers` meets its contract. The loop's invariant: the multipliers of the first s rows are written, the others are 0.
use Rattle.words.proofs.Walk.{Walked}
use Rattle.matrix_echelon.proofs.ReduceMultipliers.{opposite_at}
use Rattle.matrix_echelon.proofs.reduced.multipliers.Given as goal

abbrev pub invariant-loop-s : goal.invariant-loop-s
invariant-loop-s l = Walked l.s (opposite_at l.p l.rows.width l.t l.e l.rows.places.now) l.initial.by l.by
