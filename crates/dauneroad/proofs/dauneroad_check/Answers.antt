-- `dauneroad_check` meets its contract: it tells the number of the answer below it.
use mathlib.Core.Path.{ap}
use Rattle.dauneroad.specs.Exports.{exported}
use Rattle.dauneroad.proofs.Bounds.{small_check}
use Rattle.dauneroad.proofs.dauneroad_check.Goals as goal

pub result_number-requires : goal.result_number-requires
result_number-requires c = small_check _ _ _ _ _ _ c.check.ensures

pub returns : goal.returns
returns c = rw c.result_number.ensures (ap exported c.check.ensures)
