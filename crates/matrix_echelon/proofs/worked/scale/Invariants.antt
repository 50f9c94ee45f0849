-- `worked::scale` meets its contract. The loop's invariant: the numbers from `from` up to the index are scaled, the others are as they
-- were; those in front of `from` are 0, so they need no scaling.
use Prim.Native.Nat.{◌+◌}
use lib.ListN.{drop}
use Rattle.words.proofs.Walk.{Walked}
use Rattle.matrix_echelon.proofs.WorkedMultiples.{scaled_at}
use Rattle.matrix_echelon.proofs.worked.scale.Given as goal

abbrev pub invariant-loop-number : goal.invariant-loop-number
invariant-loop-number l = Walked l.number-index (λ j. scaled_at l.p l.s l.fn.x (l.from + j)) (drop l.from l.fn.x) l.number-items
