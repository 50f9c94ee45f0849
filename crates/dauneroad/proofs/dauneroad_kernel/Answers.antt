-- `dauneroad_kernel` meets its contract: it tells the number of the answer below it, and the basis is as that left them.
use mathlib.Core.Path.{ap}
use Rattle.dauneroad.specs.Exports.{exported}
use Rattle.dauneroad.proofs.Bounds.{small_kernel}
use Rattle.dauneroad.proofs.dauneroad_kernel.Goals as goal

pub result_number-requires : goal.result_number-requires
result_number-requires c = small_kernel _ _ _ _ _ _ c.kernel.ensures

pub returns : goal.returns
returns c = rw c.result_number.ensures (ap exported c.kernel.ensures)
