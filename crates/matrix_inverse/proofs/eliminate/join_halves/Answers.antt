-- `matrix_inverse::eliminate::join_halves` meets its contract: -(B F) is put into c over the marked rows of F, E times it is added to F,
-- and G (-T) to E, each over the marked rows (`StepJoin`).
use mathlib.Core.Path.{sym, ◌∙◌}
use native.Mathlib.Omega.{arith}
use lib.Seq.{length-take-le}
use Rattle.matrix_mul.proofs.PlaceRows.{used_product}
use Rattle.matrix_mul.proofs.PlaceLists.{listed_passes}
use Rattle.matrix_inverse.proofs.ElimMarks.{both_zero}
use Rattle.matrix_inverse.proofs.StepReduce.{modulus_positive}
use Rattle.matrix_inverse.proofs.StepJoin.{lower_block, join_first, join_second, join_third, joined}
use Rattle.matrix_inverse.proofs.eliminate.join_halves.Goals as goal

pub slice_bounds-list_marked-end : goal.slice_bounds-list_marked-end
slice_bounds-list_marked-end c = c.requires.lower_used.long

pub slice_bounds-list_marked-end-2 : goal.slice_bounds-list_marked-end-2
slice_bounds-list_marked-end-2 c = sym (length-take-le _ _ c.requires.lower_used.long)

pub slice_bounds-list_marked-end-3 : goal.slice_bounds-list_marked-end-3
slice_bounds-list_marked-end-3 c = sym c.filled-next.ensures.0

pub list_marked-requires : goal.list_marked-requires
list_marked-requires c =
    let pre = c.requires in
    let long = length-take-le c.args.split.width c.args.marks.now pre.lower_used.long in
    (omega (arith, long, pre.halves.n_most), omega (arith, long, pre.halves.n_most, c.filled-next.ensures.0))

pub slice_bounds-negative_product-end : goal.slice_bounds-negative_product-end
slice_bounds-negative_product-end c = sym (c.list_marked.ensures.0 ∙ c.filled-next.ensures.0)

pub negative_product-requires : goal.negative_product-requires
negative_product-requires c =
    let pre = c.requires in
    (join_first pre.halves, listed_passes pre.lower_used c.list_marked.ensures.1)

pub add_product_within-requires : goal.add_product_within-requires
add_product_within-requires c =
    let pre = c.requires in
    let e = c.negative_product.ensures in
    join_second pre.halves e.same_length e.below pre.upper_used

pub add_marks-requires : goal.add_marks-requires
add_marks-requires c =
    let pre = c.requires in
    (pre.upper_used.long, pre.lower_used.long)

pub add_product_within-requires-2 : goal.add_product_within-requires-2
add_product_within-requires-2 c =
    let both = c.add_marks.ensures in
    let pre = c.requires in
    let e = c.add_product_within.ensures in
    join_third pre.halves e.kept
    (used_product (modulus_positive pre.halves) (lower_block pre.halves) e pre.upper_used pre.lower_used
    (omega (arith, pre.lower_used.long, both.same_length))
    (both_zero both))

pub returns : goal.returns
returns c =
    let pre = c.requires in (
      joined pre.halves c.negative_product.ensures c.add_product_within.ensures
          c.add_product_within-2.ensures,
      c.add_marks.ensures,
      record { same_length = c.negative_product.ensures.same_length; below = c.negative_product.ensures.below },
    )
