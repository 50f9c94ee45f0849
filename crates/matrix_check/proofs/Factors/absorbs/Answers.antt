-- `matrix_check::Factors::absorbs` meets its contract: A D A = A exactly if every row is kept.
use Rattle.matrix_check.proofs.Rows.{absorbs_told}
use Rattle.matrix_check.proofs.Factors.absorbs.Goals as goal

pub returns : goal.returns
returns c = absorbs_told c.args.self.pair c.rows_kept.ensures
