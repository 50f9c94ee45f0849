-- `reduced::reduce_row` meets its contract: the row is copied out, combined with the others and put back, and in front of that a unit
-- row is written, as the laws of `ReduceRow` say.
use mathlib.Core.Path.{sym}
use Rattle.matrix_echelon.proofs.ReduceRow.{by_long, copy_long, combinable, passes, back_long, back_short, back_inside}
use Rattle.matrix_echelon.proofs.ReduceRow.{row_lessened}
use Rattle.matrix_echelon.proofs.reduced.reduce_row.Goals as goal

pub slice_bounds-combine_listed-end : goal.slice_bounds-combine_listed-end
slice_bounds-combine_listed-end c = sym (by_long c.requires c.multipliers-by.ensures c.filled-x.ensures c.copy.ensures)

pub slice_bounds-combine_listed-end-3 : goal.slice_bounds-combine_listed-end-3
slice_bounds-combine_listed-end-3 c = sym (copy_long c.requires c.multipliers-by.ensures c.filled-x.ensures c.copy.ensures)

pub combine_listed-requires : goal.combine_listed-requires
combine_listed-requires c = (
  combinable c.requires c.multipliers-by.ensures c.filled-x.ensures c.copy.ensures,
  passes c.requires c.multipliers-by.ensures c.filled-x.ensures c.copy.ensures,
)

pub slice_bounds-x-end-2 : goal.slice_bounds-x-end-2
slice_bounds-x-end-2 c =
    back_short c.requires c.multipliers-by.ensures c.filled-x.ensures c.copy.ensures c.combine_listed.new.out c.combine_listed.ensures

pub slice_bounds-put-end : goal.slice_bounds-put-end
slice_bounds-put-end c =
    sym (back_long c.requires c.multipliers-by.ensures c.filled-x.ensures c.copy.ensures c.combine_listed.new.out c.combine_listed.ensures)

pub put-requires : goal.put-requires
put-requires c =
    back_inside c.requires c.multipliers-by.ensures c.filled-x.ensures c.copy.ensures c.combine_listed.new.out c.combine_listed.ensures

pub returns : goal.returns
returns c =
    row_lessened c.requires c.multipliers-by.ensures c.filled-x.ensures c.copy.ensures c.combine_listed.new.out c.combine_listed.ensures
    c.put.new.out _ c.put.ensures c.write_unit.ensures
