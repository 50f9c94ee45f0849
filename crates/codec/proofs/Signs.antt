-- A number with a sign: its digits on either side of 0, and how many there are.
use mathlib.Core.Path.{◌≡◌, refl, subst}
use mathlib.Core.Bool.{true, false}
use mathlib.Core.List.{◌++◌}
use Prim.Native.Nat.{suc, ◌<◌, ◌≤◌}
use native.Mathlib.Omega.{arith}
use borrow.Author.Tests.{ltb-true}
use lib.Dec.{T}
use lib.IntN.{ℤ, pos, negsuc, nat_abs}
use lib.ListN.{length}
use lib.Signed.{lt_z}
use mir.Syntax.{w32}
use mir.Val.{SFits}
use Rattle.codec.specs.Decimal.{decimal, minus, signed_decimal}
use Rattle.codec.proofs.Decimals.{digits_at_most}

pub digits_below : (z : ℤ) → lt_z z (pos 0) ≡ true → signed_decimal z ≡ minus ++ decimal (nat_abs z)
unfolding signed_decimal
digits_below (pos n) e = let h : n < 0 = ltb-true n 0 e in absurd (omega arith)
digits_below (negsuc n) e = refl

pub digits_from : (z : ℤ) → lt_z z (pos 0) ≡ false → signed_decimal z ≡ decimal (nat_abs z)
unfolding signed_decimal
digits_from (pos n) e = refl
digits_from (negsuc n) e = absurd (subst T e tt)

-- an i32 has at most ten digits and a sign
pub signed_at_most : (z : ℤ) → SFits w32 z → length (signed_decimal z) ≤ 11
unfolding signed_decimal minus
signed_at_most (pos n) f = omega (arith, digits_at_most n 9 (omega arith))
signed_at_most (negsuc n) f = omega (arith, digits_at_most (suc n) 9 (omega arith))
