-- `matrix_mul::add_product` meets its contract. The loop's invariant is the contract for the first i rows.
use mathlib.Core.Path.{◌≡◌}
use native.Mathlib.Omega.{arith}
use Rattle.matrix_mul.proofs.PlaceRows.{multiplied_none, multiplied_row}
use Rattle.matrix_mul.proofs.add_product.Goals as goal

pub loop-i-init : goal.loop-i-init
loop-i-init c = multiplied_none c.requires.0.positive c.requires.0.target.below

pub loop-i-preserved : goal.loop-i-preserved
loop-i-preserved c =
    let pre = c.requires.0 in
    multiplied_row pre.positive pre.target.apart c.loop-i.invariant c.add_row.ensures

pub returns : goal.returns
returns c =
    let e : c.loop-i.i ≡ c.args.size.rows = omega arith in
    rw e at c.loop-i.invariant
