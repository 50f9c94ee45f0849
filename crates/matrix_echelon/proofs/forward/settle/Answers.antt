-- `forward::settle` meets its contract, by the laws of `Settle`.
use Rattle.matrix_echelon.proofs.Settle.{settled_none, growable, settled_row}
use Rattle.matrix_echelon.proofs.forward.settle.Goals as goal

pub returns-in_default : goal.returns-in_default
returns-in_default c = settled_none c.requires c.fold_into.ensures c.in_default.ensures

pub grow-requires : goal.grow-requires
grow-requires c = growable c.requires c.fold_into.ensures c.in-Some.ensures

pub returns : goal.returns
returns c = settled_row c.requires c.fold_into.ensures c.in-Some.ensures c.grow.ensures
