-- `dauneroad_show` meets its contract: it tells the number of the answer below it, and marks and numbers are as that left them.
use mathlib.Core.Path.{ap}
use Rattle.dauneroad.specs.Exports.{exported}
use Rattle.dauneroad.proofs.Bounds.{small_show}
use Rattle.dauneroad.proofs.dauneroad_show.Goals as goal

pub result_number-requires : goal.result_number-requires
result_number-requires c = small_show _ _ _ _ _ c.show.ensures

pub returns : goal.returns
returns c = rw c.result_number.ensures (ap exported c.show.ensures)
