-- `matrix_inverse::eliminate::negative_product` meets its contract: the product is added to rows that are cleared, and their numbers
-- become their negatives (`StepNegative`).
use mathlib.Core.Path.{sym}
use Prim.Native.Nat.{◌*◌, ◌≤◌}
use native.Mathlib.Omega.{arith}
use lib.ListN.{length}
use lib.Seq.{length-take-le}
use Rattle.matrix_inverse.proofs.StepNegative.{size_inside, cleared_long, cleared_factors, negative_product_done}
use Rattle.words.proofs.Parts.{taken_below}
use Rattle.matrix_inverse.proofs.eliminate.negative_product.Goals as goal
use Rattle.matrix_inverse.proofs.eliminate.negative_product.Goals.{After-add_product}

pub overflow_mul-end : goal.overflow_mul-end
overflow_mul-end c =
    let h = size_inside c.requires.0 in
    omega (arith, c.well_formed)

pub slice_bounds-clear-end : goal.slice_bounds-clear-end
slice_bounds-clear-end c = size_inside c.requires.0

pub slice_bounds-clear-end-2 : goal.slice_bounds-clear-end-2
slice_bounds-clear-end-2 c = sym (length-take-le _ _ (size_inside c.requires.0))

pub add_product-requires : goal.add_product-requires
add_product-requires c =
    let pre = c.requires in
    (cleared_factors pre.0 c.clear.new.xs c.clear.ensures.0 c.clear.ensures.1, pre.1)

-- the rows of Z lie in z after the product
rows_inside : (c : After-add_product) → c.args.size.rows * c.args.size.columns ≤ length c.add_product.new.z
rows_inside c =
    let f = c.requires.0 in
    omega (
      arith,
      size_inside f,
      cleared_long f c.clear.new.xs c.clear.ensures.0 c.clear.ensures.1,
      c.add_product.ensures.kept.same_length,
    )

pub slice_bounds-negate-end : goal.slice_bounds-negate-end
slice_bounds-negate-end c = rows_inside (goal.at.slice_bounds-negate-end c).After-add_product

pub slice_bounds-negate-end-2 : goal.slice_bounds-negate-end-2
slice_bounds-negate-end-2 c = sym (length-take-le _ _ (rows_inside (goal.at.slice_bounds-negate-end-2 c).After-add_product))

pub negate-requires : goal.negate-requires
negate-requires c =
    let added = c.add_product in (
      c.requires.0.positive,
      c.requires.0.in_range,
      taken_below _ added.new.z (c.args.size.rows * c.args.size.columns) added.ensures.kept.below,
    )

pub returns : goal.returns
returns c =
    negative_product_done c.requires.0 c.clear.new.xs c.clear.ensures.0 c.clear.ensures.1
    c.negate.new.xs
    c.add_product.ensures
    c.negate.ensures
