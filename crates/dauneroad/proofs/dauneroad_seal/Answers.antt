-- `dauneroad_seal` meets its contract: it tells the number of the answer below it, and the values are as that left them.
use mathlib.Core.Path.{ap}
use Rattle.dauneroad.specs.Exports.{exported}
use Rattle.dauneroad.proofs.Bounds.{small_seal}
use Rattle.dauneroad.proofs.dauneroad_seal.Goals as goal

pub result_number-requires : goal.result_number-requires
result_number-requires c = small_seal _ _ _ _ _ _ _ _ c.seal.ensures

pub returns : goal.returns
returns c = rw c.result_number.ensures (ap exported c.seal.ensures)
