-- `field::arith::times` meets its contract: the product of two numbers below 2 ^ 31 fits 64 bits, and its remainder is the
-- value of the residues' product.
use Prim.Native.Nat.{◌≤◌, ◌*◌}
use native.Mathlib.Nat.{mul-le-mul, mod-lt}
use native.Mathlib.Omega.{arith}
use mathlib.Core.Path.{ap}
use Rattle.field.specs.Residue.{Residue, reduce}
use Rattle.checks.specs.Prime.{largest_modulus}
use Rattle.field.proofs.Residues.{reduce_times}
use Rattle.field.proofs.arith.times.Goals as goal

pub overflow_mul-result : goal.overflow_mul-result
overflow_mul-result c =
    let l : c.args.a ≤ largest_modulus = omega arith in
    let r : c.args.b ≤ largest_modulus = omega arith in
    omega (arith, mul-le-mul l r)

pub overflow_cast-result-4 : goal.overflow_cast-result-4
overflow_cast-result-4 c = omega (arith, mod-lt (c.args.a * c.args.b) {m = c.args.p} (omega arith))

pub returns : goal.returns
unfolding reduce
returns c = let v = c.args in ap (λ (x : Residue v.p). x.value) (reduce_times v.p v.a v.b)
