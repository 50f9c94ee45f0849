-- `matrix_inverse::eliminate::reduce_rows` meets its contract: -(K E) is put into t over the marked rows of E, K is copied to c, and
-- (-T) B is added to it (`StepReduce`).
use mathlib.Core.Path.{sym, ◌∙◌}
use native.Mathlib.Omega.{arith}
use lib.Seq.{length-take-le}
use Rattle.matrix_mul.proofs.RowsTaken.{each_passes}
use Rattle.matrix_mul.proofs.PlaceLists.{listed_passes}
use Rattle.matrix_inverse.proofs.StepReduce.{c_room, reduce_first, reduce_second, reduced}
use Rattle.matrix_inverse.proofs.eliminate.reduce_rows.Goals as goal

pub slice_bounds-list_marked-end : goal.slice_bounds-list_marked-end
slice_bounds-list_marked-end c = sym (length-take-le _ _ c.requires.used.long)

pub slice_bounds-list_marked-end-2 : goal.slice_bounds-list_marked-end-2
slice_bounds-list_marked-end-2 c = sym c.filled-next.ensures.0

pub list_marked-requires : goal.list_marked-requires
list_marked-requires c =
    let pre = c.requires in
    let long = length-take-le c.args.split.width c.args.marks.now pre.used.long in
    (omega (arith, long, pre.halves.n_most), omega (arith, long, pre.halves.n_most, c.filled-next.ensures.0))

pub slice_bounds-negative_product-end : goal.slice_bounds-negative_product-end
slice_bounds-negative_product-end c = sym (c.list_marked.ensures.0 ∙ c.filled-next.ensures.0)

pub negative_product-requires : goal.negative_product-requires
negative_product-requires c =
    let pre = c.requires in (
      reduce_first pre,
      listed_passes pre.used c.list_marked.ensures.1,
    )

pub copy-requires : goal.copy-requires
copy-requires c =
    let pre = c.requires in
    (omega (arith, pre.lower_long), c_room pre.halves)

pub slice_bounds-add_product-end : goal.slice_bounds-add_product-end
slice_bounds-add_product-end c = sym c.each_row-each.ensures.long

pub add_product-requires : goal.add_product-requires
add_product-requires c =
    let each = c.each_row-each.ensures in
    let pre = c.requires in (
      reduce_second pre c.negative_product.ensures c.copy.ensures,
      each_passes (omega (arith, pre.halves.upper_most, pre.halves.lower_most)) each,
    )

pub returns : goal.returns
returns c =
    let pre = c.requires in
    reduced pre c.negative_product.ensures c.copy.ensures
    c.add_product.ensures
