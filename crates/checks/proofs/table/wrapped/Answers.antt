-- `checks::table::wrapped` meets its contract: the product of two 32-bit numbers fits 64 bits.
use Prim.Native.Nat.{◌≤◌}
use native.Mathlib.Nat.{mul-le-mul}
use native.Mathlib.Omega.{arith}
use Rattle.checks.proofs.table.wrapped.Goals as goal

pub overflow_mul-result : goal.overflow_mul-result
overflow_mul-result c =
    let l : c.args.p ≤ 4294967295 = omega arith in
    let r : c.args.v ≤ 4294967295 = omega arith in
    omega (arith, mul-le-mul l r)
