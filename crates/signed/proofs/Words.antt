-- What the code's operations on 32 bits give, as signed numbers: a cast of a u32 to an i32, the negation of an i32, a
-- comparison. An i32 lies in its bits as `of_z w32` writes it and is read back by `to_z w32`. The code's numbers are at most
-- 2,147,483,647 in size, where nothing is lost.
use mathlib.Core.Path.{◌≡◌, refl, sym, ◌∙◌, subst}
use mathlib.Core.Bool.{Bool, true, false, not}
use Prim.Native.Nat.{ℕ, zero, suc, ◌-◌, ◌<◌, ◌≤◌}
use native.Mathlib.Omega.{arith}
use borrow.Author.Tests.{ltb-true}
use lib.Dec.{T}
use lib.IntN.{ℤ, pos, negsuc, neg_ℤ, ◌-ℤ◌, nat_abs, +ℤ_idl}
use lib.Signed.{◌≤ℤ◌, lt_z, lt_z_no, lt_z_yes, clash_ℤ, non_neg}
use mir.Syntax.{w32}
use mir.Val.{SFits, to_z, of_z}
use mir.ValLaws.{to_z_pos, to_z-of_z}
use Rattle.algebra.specs.Answers.{Tells}
use Rattle.algebra.proofs.Answers.{tells_yes, tells_no}
use Rattle.signed.specs.Reading.{residue_of, IsRecord}
use Rattle.signed.proofs.Readings.{le_of_pos, le_of_neg}

-- ---- a u32 as an i32, and its negation

pub cast_word : (n : ℕ) → n ≤ 2147483647 → to_z w32 n ≡ pos n
cast_word n h = to_z_pos w32 n (omega arith)

negated : (n : ℕ) → n ≤ 2147483647 → pos 0 -ℤ to_z w32 n ≡ neg_ℤ (pos n)
negated n h = rw (cast_word n h) (+ℤ_idl (neg_ℤ (pos n)))

neg_fits : (n : ℕ) → n ≤ 2147483647 → SFits w32 (neg_ℤ (pos n))
neg_fits zero h = record { sfits = omega arith }
neg_fits (suc n) h = record { sfits = omega arith }

pub negated_fits : (n : ℕ) → n ≤ 2147483647 → SFits w32 (pos 0 -ℤ to_z w32 n)
negated_fits n h = rw (negated n h) (neg_fits n h)

pub negated_word : (n : ℕ) → n ≤ 2147483647 → to_z w32 (of_z w32 (pos 0 -ℤ to_z w32 n)) ≡ neg_ℤ (pos n)
negated_word n h = to_z-of_z w32 (pos 0 -ℤ to_z w32 n) (negated_fits n h) ∙ negated n h

-- ---- a comparison with such a negation

lt_true : (a b : ℤ) → lt_z a b ≡ true → b ≤ℤ a → ⊥
lt_true a b e h = clash_ℤ (lt_z_yes {a = a} {b = b} (subst T (sym e) tt)) h

lt_false : (a b : ℤ) → lt_z a b ≡ false → b ≤ℤ a
lt_false a b e = lt_z_no (subst (λ (t : Bool). T (not t)) (sym e) tt)

module _ (z : ℤ) (n : ℕ) (f : SFits w32 z) (h : n ≤ 2147483647) where
  test_negated : lt_z (to_z w32 (of_z w32 z)) (to_z w32 (of_z w32 (pos 0 -ℤ to_z w32 n))) ≡ lt_z z (neg_ℤ (pos n))
  test_negated = rw (to_z-of_z w32 z f, negated_word n h)

  pub below_negated : lt_z (to_z w32 (of_z w32 z)) (to_z w32 (of_z w32 (pos 0 -ℤ to_z w32 n))) ≡ true → neg_ℤ (pos n) ≤ℤ z → ⊥
  below_negated e = lt_true z (neg_ℤ (pos n)) (sym test_negated ∙ e)

  pub from_negated : lt_z (to_z w32 (of_z w32 z)) (to_z w32 (of_z w32 (pos 0 -ℤ to_z w32 n))) ≡ false → neg_ℤ (pos n) ≤ℤ z
  from_negated e = lt_false z (neg_ℤ (pos n)) (sym test_negated ∙ e)

-- ---- the residue of a record, as the code computes it

-- below 0 it is p less the record's negation
pub record Below (p : ℕ) (z : ℤ) : Type 0 where
  pub fits : SFits w32 (neg_ℤ z)
  pub sign : T (non_neg (neg_ℤ z))
  pub size : (0 < nat_abs (neg_ℤ z)) × (nat_abs (neg_ℤ z) < p)
  pub residue : p - nat_abs (neg_ℤ z) ≡ residue_of p z

pub below_zero : (p low : ℕ) (z : ℤ) → IsRecord p low z → low < p → p ≤ 2147483647 → lt_z z (pos 0) ≡ true → Below p z
unfolding residue_of
below_zero p low (pos n) r k b e = let h : n < 0 = ltb-true n 0 e in absurd (omega arith)
below_zero p low (negsuc n) r k b e =
    let h : n < low = le_of_neg low n r.least in
    record { fits = record { sfits = omega arith }; sign = tt; size = omega arith; residue = refl }

-- and from 0 on it is the record
pub record From (p : ℕ) (z : ℤ) : Type 0 where
  pub sign : T (non_neg z)
  pub size : nat_abs z < p
  pub residue : nat_abs z ≡ residue_of p z

pub from_zero : (p low : ℕ) (z : ℤ) → IsRecord p low z → low < p → lt_z z (pos 0) ≡ false → From p z
unfolding residue_of
from_zero p low (pos n) r k e =
    let h : n ≤ p - 1 - low = le_of_pos r.greatest in
    record { sign = tt; size = omega arith; residue = refl }
from_zero p low (negsuc n) r k e = absurd (lt_false (negsuc n) (pos 0) e).le

-- the negation of an i32
pub negated_record : (z : ℤ) → SFits w32 z → SFits w32 (neg_ℤ z) → to_z w32 (of_z w32 (pos 0 -ℤ to_z w32 (of_z w32 z))) ≡ neg_ℤ z
negated_record z f g = rw (to_z-of_z w32 z f, +ℤ_idl (neg_ℤ z)) (to_z-of_z w32 (neg_ℤ z) g)

-- ---- a test

-- a test that passes exactly if P holds tells whether it does
pub tells_test : {P : Type 0} {t : Bool} → (P → T t) → (T t → P) → Tells t P
tells_test {t = true} f g = tells_yes (g tt)
tells_test {t = false} f g = tells_no f
