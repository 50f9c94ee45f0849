-- `dauneroad_fit` meets its contract: it tells the number of the answer below it, and z and the remainder are as that left them.
use mathlib.Core.Path.{ap}
use Rattle.dauneroad.specs.Exports.{exported}
use Rattle.dauneroad.proofs.Bounds.{small_fit}
use Rattle.dauneroad.proofs.dauneroad_fit.Goals as goal

pub result_number-requires : goal.result_number-requires
result_number-requires c = small_fit _ _ _ _ _ _ _ _ c.fit.ensures

pub returns : goal.returns
returns c = rw c.result_number.ensures (ap exported c.fit.ensures)
