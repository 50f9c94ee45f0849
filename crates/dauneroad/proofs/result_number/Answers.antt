-- `dauneroad::result_number` meets its contract: the number told, whichever the answer is.
use native.Mathlib.Omega.{arith}
use Rattle.dauneroad.proofs.result_number.Goals as goal

pub overflow_add-result : goal.overflow_add-result
overflow_add-result c = omega (arith, rw c.in-Ok.is at c.requires)

pub returns-in-Ok : goal.returns-in-Ok
returns-in-Ok c = rw c.in-Ok.is
