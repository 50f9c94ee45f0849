-- `matrix_mul::add_product_within` meets its contract. The loop's invariant is the contract for the first i rows; the rows of X lie in
-- other columns than Z's, so they are as they were at entry.
use Rattle.matrix_mul.specs.Places.{place, with_rows, Multiplied}
use Rattle.matrix_mul.proofs.add_product_within.Given as goal

abbrev pub invariant-loop-i : goal.invariant-loop-i
invariant-loop-i l = Multiplied l.p (with_rows l.i l.size) l.initial.z (place l.x_start l.target.stride) l.y l.right l.initial.z l.z l.target
