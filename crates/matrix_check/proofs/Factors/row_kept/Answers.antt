-- `matrix_check::Factors::row_kept` meets its contract: the row times D, and that times A, is row i of A D A.
use Rattle.matrix_check.proofs.Rows.{second_factors, row_told}
use Rattle.matrix_check.proofs.Factors.row_kept.Goals as goal

pub times-requires-2 : goal.times-requires-2
times-requires-2 c =
    let r = c.requires.1 in
    second_factors c.args.self.pair c.args.i c.requires.0 (rw r.through_long at c.times.ensures) _ r.back_long

pub returns : goal.returns
returns c =
    let r = c.requires.1 in
    row_told c.args.self.pair c.args.i c.requires.0 (rw r.through_long at c.times.ensures) _ r.back_long c.times-2.ensures c.same.ensures
