-- `matrix_mul::rows::four_at` meets its contract: each product is a quarter of what 64 bits hold less 2^32, so that the four together fit
-- and leave room.
use Prim.Native.Nat.{◌+◌}
use native.Mathlib.Omega.{arith}
use Rattle.field.specs.Limbs.{LimbFits}
use Rattle.matrix_mul.specs.Rows.{four_at}
use Rattle.field.proofs.Limbs.{number_fits}
use Rattle.matrix_mul.proofs.RowsTaken.{two_fit, three_fit, four_fit}
use Rattle.matrix_mul.proofs.rows.four_at.Goals as goal
use Rattle.matrix_mul.proofs.rows.four_at.Goals.{After-product_at-4}

pub overflow_add-result : goal.overflow_add-result
overflow_add-result c = two_fit _ _ c.product_at.ensures.1 c.product_at-2.ensures.1

pub overflow_add-result-2 : goal.overflow_add-result-2
overflow_add-result-2 c = three_fit _ _ _ c.product_at.ensures.1 c.product_at-2.ensures.1 c.product_at-3.ensures.1

-- the four together leave room for 2^32
room :
    (c : After-product_at-4) →
    let three = c.product_at.result + c.product_at-2.result + c.product_at-3.result in
    LimbFits (three + c.product_at-4.result)
room c =
    four_fit _ _ _ _ c.product_at.ensures.1 c.product_at-2.ensures.1
    c.product_at-3.ensures.1 c.product_at-4.ensures.1

pub overflow_add-result-3 : goal.overflow_add-result-3
overflow_add-result-3 c = number_fits _ (room (goal.at.overflow_add-result-3 c).After-product_at-4)

pub returns : goal.returns
unfolding four_at
returns c = (
  omega (
    arith,
    c.product_at.ensures.0,
    c.product_at-2.ensures.0,
    c.product_at-3.ensures.0,
    c.product_at-4.ensures.0,
  ),
  room (goal.at.returns c).After-product_at-4,
)
