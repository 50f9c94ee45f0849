-- `matrix_mul::rows::product_at` meets its contract: both factors are short, so that the product is a quarter of what 64 bits hold.
use mathlib.Core.Path.{refl}
use Prim.Native.Nat.{◌+◌, ◌*◌}
use native.Mathlib.Omega.{arith}
use lib.ListN.{get_or}
use Rattle.matrix_mul.specs.Rows.{Quarter, product_at}
use Rattle.matrix_mul.proofs.RowsTaken.{quarter_product, one_fits}
use Rattle.matrix_mul.proofs.rows.product_at.Goals as goal
use Rattle.matrix_mul.proofs.rows.product_at.Goals.{After-shared_slice_known-1}

pub overflow_cast-result-2 : goal.overflow_cast-result-2
overflow_cast-result-2 c =
    let a = c.args in
    omega (arith, c.shared_slice_known-1.given (a.row.at + a.j))

-- the product is a quarter of what 64 bits hold
quarter :
    (c : After-shared_slice_known-1) →
    let a = c.args in
    Quarter (a.row.times * get_or a.table.now (a.row.at + a.j) 0)
quarter c =
    quarter_product c.args.row.times _ c.requires.1.short (c.requires.0 (c.args.row.at + c.args.j))

pub overflow_mul-result : goal.overflow_mul-result
overflow_mul-result c = one_fits _ (quarter (goal.at.overflow_mul-result c).After-shared_slice_known-1)

pub returns : goal.returns
unfolding product_at
returns c = (refl, quarter (goal.at.returns c).After-shared_slice_known-1)
