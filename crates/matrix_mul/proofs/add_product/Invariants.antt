-- `matrix_mul::add_product` meets its contract. The loop's invariant is the contract for the first i rows.
use Rattle.matrix_mul.specs.Places.{with_rows, Multiplied}
use Rattle.matrix_mul.proofs.add_product.Given as goal

abbrev pub invariant-loop-i : goal.invariant-loop-i
invariant-loop-i l = Multiplied l.p (with_rows l.i l.size) l.x l.left l.y l.right l.initial.z l.z l.target
