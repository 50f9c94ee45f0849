-- That a number is a modulus is shown in one way only: what is made of the proof is the same whichever it is.
use mathlib.Core.HLevel.{⊥_prop}
use Prim.Native.Nat.{ℕ}
use native.Mathlib.Bridge.{le_prop}
use Rattle.checks.specs.Prime.{IsModulus}

-- a number is a modulus in at most one way
pub modulus_prop : (p : ℕ) → IsProp (IsModulus p)
modulus_prop p x y i =
    record {
      prime =
          record {
            two_or_more = le_prop x.prime.two_or_more y.prime.two_or_more i;
            no_divisor = λ d a b v. ⊥_prop (x.prime.no_divisor d a b v) (y.prime.no_divisor d a b v) i;
          };
      in_range = le_prop x.in_range y.in_range i;
    }
