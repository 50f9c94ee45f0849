-- `worked::add_multiple` meets its contract. The loop's invariant: the multiple has been added at the first j places, where those in
-- front of `from` count as done, since x is 0 there; the other numbers are as they were.
use Rattle.matrix_echelon.proofs.WorkedMultiples.{added_at, Spanned}
use Rattle.matrix_echelon.proofs.worked.add_multiple.Given as goal

abbrev pub invariant-loop-j : goal.invariant-loop-j
invariant-loop-j l = Spanned l.at l.j (added_at l.p l.c l.x l.at l.initial.e) l.initial.e l.e
