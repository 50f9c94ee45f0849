-- `dauneroad_withdraw` meets its contract: it tells the number of the answer below it, and the board is as that left them.
use mathlib.Core.Path.{ap}
use Rattle.dauneroad.specs.Exports.{exported}
use Rattle.dauneroad.proofs.Bounds.{small_withdraw}
use Rattle.dauneroad.proofs.dauneroad_withdraw.Goals as goal

pub result_number-requires : goal.result_number-requires
result_number-requires c = small_withdraw _ _ _ c.withdraw.ensures

pub returns : goal.returns
returns c = rw c.result_number.ensures (ap exported c.withdraw.ensures)
