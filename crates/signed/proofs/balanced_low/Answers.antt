-- `signed::balanced_low` meets its contract: the code is the definition.
use native.Mathlib.Omega.{arith}
use Rattle.signed.specs.Balanced.{balanced_low}
use Rattle.signed.proofs.balanced_low.Goals as goal

pub returns : goal.returns
unfolding balanced_low
returns c = omega arith
