-- `matrix_check::times` meets its contract: the rows of the table are combined to zeros.
use Rattle.matrix_check.proofs.Rows.{times_combinable, times_made}
use Rattle.matrix_check.proofs.times.Goals as goal

pub combine-requires : goal.combine-requires
combine-requires c = times_combinable c.requires c.clear.new.xs c.clear.ensures.0

pub returns : goal.returns
returns c = times_made c.requires c.clear.new.xs c.clear.ensures.0 c.clear.ensures.1 _ c.combine.ensures
