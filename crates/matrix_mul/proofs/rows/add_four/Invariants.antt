-- `matrix_mul::rows::add_four` meets its contract. The loop's invariant: the first j numbers have the four products added, the others are
-- as they were.
use Rattle.matrix_mul.specs.Rows.{four_at, summed_number}
use Rattle.words.proofs.Walk.{Walked}
use Rattle.matrix_mul.proofs.rows.add_four.Given as goal

abbrev pub invariant-loop-j : goal.invariant-loop-j
invariant-loop-j l = Walked l.j (summed_number l.p (four_at l.table l.four) l.initial.out) l.initial.out l.out
