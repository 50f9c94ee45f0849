-- `dauneroad_take` meets its contract: it tells the number of the answer below it, and the board and the mix are as that left them.
use mathlib.Core.Path.{ap}
use Rattle.dauneroad.specs.Exports.{exported}
use Rattle.dauneroad.proofs.dauneroad_take.Goals as goal

pub returns : goal.returns
returns c = rw c.take_number.ensures (ap exported c.take.ensures)
