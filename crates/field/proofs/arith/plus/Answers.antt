-- `field::arith::plus` meets its contract: the result is below p and has the residue of the sum.
use Prim.Native.Nat.{◌+◌}
use native.Mathlib.Omega.{arith}
use mathlib.Core.Path.{◌∙◌}
use Rattle.field.proofs.Residues.{value_unique, reduce_plus, reduce_less}
use Rattle.field.proofs.arith.plus.Goals as goal

pub returns-then-p-s : goal.returns-then-p-s
returns-then-p-s c =
    let v = c.args in
    value_unique _ _ _ (omega arith) (reduce_less v.p (v.a + v.b) (omega arith) ∙ reduce_plus v.p v.a v.b)

pub returns-else-p-s : goal.returns-else-p-s
returns-else-p-s c = value_unique _ _ _ (omega arith) (reduce_plus _ _ _)
