-- `matrix::table::Table::invert` meets its contract: cleared memory has its lengths still, and what the elimination leaves in it is D, I
-- and J.
use mathlib.Core.Path.{◌∙◌}
use Rattle.matrix.specs.Parts.{InverseRoom}
use Rattle.matrix.proofs.Stored.{eliminated_inverted}
use Rattle.matrix.proofs.table.Table.invert.Goals as goal

pub returns : goal.returns
returns c ok =
    let r = c.requires in
    let room : InverseRoom c.args.self.height c.args.self.width c.clear.new.xs c.clear-2.new.xs c.clear-3.new.xs = record {
      d_long = c.clear.ensures.0 ∙ r.d_long;
      columns_long = c.clear-2.ensures.0 ∙ r.columns_long;
      rows_long = c.clear-3.ensures.0 ∙ r.rows_long;
    } in
    eliminated_inverted _ ok _ _ _ _ _ _ _ _ _ room c.clear-2.ensures.1 c.clear-3.ensures.1 c.eliminate.ensures
