-- `dauneroad_open` meets its contract: it tells the number of the answer below it, and the board is as that left them.
use mathlib.Core.Path.{ap}
use Rattle.dauneroad.specs.Exports.{exported}
use Rattle.dauneroad.proofs.dauneroad_open.Goals as goal
use Rattle.dauneroad.proofs.dauneroad_open.Goals.{After-open}

pub returns : goal.returns
returns c = rw c.done_number.ensures (ap exported (goal.at.returns c).After-open.«open».ensures)
