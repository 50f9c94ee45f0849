-- `forward::work_row` meets its contract, by the laws of `WorkRow`.
use Rattle.matrix_echelon.proofs.WorkRow.{clearable, settleable, row_worked}
use Rattle.matrix_echelon.proofs.forward.work_row.Goals as goal

pub clear_pivots-requires : goal.clear_pivots-requires
clear_pivots-requires c = clearable c.requires c.new-limbs.ensures c.row_limbs.ensures

pub settle-requires : goal.settle-requires
settle-requires c = settleable c.requires c.new-limbs.ensures c.row_limbs.ensures c.clear_pivots.ensures _ c.filled-x.ensures

pub returns : goal.returns
returns c =
    row_worked c.requires c.new-limbs.ensures c.row_limbs.ensures c.clear_pivots.ensures _ c.filled-x.ensures
    c.settle.ensures
