-- `matrix_mul::rows::combine` meets its contract: the list that passes over no row passes over zeros only.
use Rattle.matrix_mul.proofs.RowsTaken.{each_passes}
use Rattle.matrix_mul.proofs.rows.combine.Goals as goal

pub combine_listed-requires : goal.combine_listed-requires
combine_listed-requires c =
    let e = c.each_row-next.ensures in
    (c.requires, each_passes c.requires.few e)
