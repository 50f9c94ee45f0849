-- `dauneroad_solve` meets its contract: it tells the number of the answer below it, and z and u are as that left them.
use mathlib.Core.Path.{ap}
use Rattle.dauneroad.specs.Exports.{exported}
use Rattle.dauneroad.proofs.Bounds.{small_solve}
use Rattle.dauneroad.proofs.dauneroad_solve.Goals as goal

pub result_number-requires : goal.result_number-requires
result_number-requires c = small_solve _ _ _ _ _ _ _ _ c.solve.ensures

pub returns : goal.returns
returns c = rw c.result_number.ensures (ap exported c.solve.ensures)
