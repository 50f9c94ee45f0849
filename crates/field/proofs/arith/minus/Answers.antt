-- `field::arith::minus` meets its contract: the result is below p and has the residue of the difference raised by p.
use Prim.Native.Nat.{ℕ, ◌+◌, ◌-◌}
use native.Mathlib.Omega.{arith}
use mathlib.Core.Path.{◌≡◌, sym, ap, ◌∙◌}
use Rattle.field.specs.Residue.{reduce}
use Rattle.field.proofs.Residues.{value_unique, reduce_difference, reduce_more}
use Rattle.field.proofs.arith.minus.Goals as goal

pub returns-then-b-a : goal.returns-then-b-a
returns-then-b-a c =
    let v = c.args in
    let raised : v.a - v.b + v.p ≡ v.a + (v.p - v.b) = omega arith in
    value_unique _ _ _ (omega arith)
    (sym (reduce_more v.p (v.a - v.b)) ∙ ap (λ (n : ℕ). reduce v.p n) raised ∙ reduce_difference v.p v.a v.b (omega arith))

pub returns-else-b-a : goal.returns-else-b-a
returns-else-b-a c = value_unique _ _ _ (omega arith) (reduce_difference _ _ _ (omega arith))
