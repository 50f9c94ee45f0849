-- `forward::rank` meets its contract: the worked rows of the table, with no column carried along, give its rank.
use Rattle.matrix_echelon.proofs.Grids.{readable_none, rank_worked, room_fresh}
use Rattle.matrix_echelon.proofs.forward.rank.Goals as goal

pub forward-requires : goal.forward-requires
forward-requires c = (readable_none _ 0 c.requires, room_fresh _ _ c.requires.is_modulus c.filled-e.ensures c.filled-pivots.ensures)

pub returns : goal.returns
returns c = rank_worked _ 0 c.forward.ensures.worked
