-- `matrix_mul::limbs::Limbs::fold_into` meets its contract. The loop's invariant: the first j numbers have their sums added, the others as they were.
use Rattle.matrix_mul.specs.Rows.{whole_at, summed_number}
use Rattle.words.proofs.Walk.{Walked}
use Rattle.matrix_mul.proofs.limbs.Limbs.fold_into.Given as goal

abbrev pub invariant-loop-j : goal.invariant-loop-j
invariant-loop-j l = Walked l.j (summed_number l.powers.p (whole_at l.self) l.initial.out) l.initial.out l.out
