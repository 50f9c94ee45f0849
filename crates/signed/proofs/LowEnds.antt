-- What a low end does to the call signed: what it gives is the one record of the range that is congruent to the residue, both ends of the
-- range are given, with the low end 0 nothing is negative, with p - 1 nothing but 0 is not, and every record is an i32.
use mathlib.Core.Path.{◌≡◌, sym, ap, ◌∙◌, subst}
use Prim.Native.Nat.{ℕ, ◌-◌, ◌<◌, ◌≤◌}
use native.Mathlib.Omega.{arith}
use lib.IntN.{ℤ, pos, negsuc, neg_ℤ}
use lib.Signed.{◌≤ℤ◌}
use mir.Syntax.{w32}
use mir.Val.{SFits}
use Rattle.checks.specs.declared.Refusal.TheVariants.{Number}
use Rattle.checks.specs.Prime.{IsModulus}
use Rattle.checks.specs.Told.{gives}
use Rattle.checks.specs.Outcome.{Outcome, outcome, untouched}
use Rattle.checks.proofs.Refusals.{given_value, refused_gives_none}
use Rattle.checks.proofs.InOrder.{fails_here, in_order_elim, ◌then◌}
use Rattle.signed.specs.Reading.{residue_of, IsRecord, IsReading}
use Rattle.signed.specs.Calls.{signed_call, residue_call}
use Rattle.signed.proofs.Readings.{le_of_pos, le_of_neg, reading_of_residue, least_is_record, greatest_is_record}
use Rattle.signed.proofs.Congruences.{residue_reads}
use Rattle.signed.proofs.Calls.{low_checks_hold, signed_no_low, signed_done, residue_no_low}

module _ (p low : ℕ) where
  -- what signed gives for v is what v reads as
  pub signed_reads : (v : ℕ) (z : ℤ) → (signed_call p low v).told ≡ gives z → IsReading p low (pos v) z
  unfolding signed_call
  signed_reads v z =
      in_order_elim _ _ (λ (o : Outcome (Unit {0})). o.told ≡ gives z → IsReading p low (pos v) z)
      (λ (ok, (l, (h, _))) e. subst (IsReading p low (pos v)) (given_value e) (residue_reads p low l v h))
      (λ k _ e. absurd (refused_gives_none k z e))

  -- "An L of p or more is 4", whatever the other number
  pub signed_low_refused : IsModulus p → p ≤ low → (v : ℕ) → signed_call p low v ≡ untouched tt Number
  signed_low_refused ok h v = sym (signed_no_low p low v (ok then fails_here (λ l. omega (arith, l))))

  pub residue_low_refused : IsModulus p → p ≤ low → (z : ℤ) → residue_call p low z ≡ untouched tt Number
  residue_low_refused ok h z = sym (residue_no_low p low z (ok then fails_here (λ l. omega (arith, l))))

  module _ (ok : IsModulus p) (l : low < p) where
    -- every record is given for its residue
    record_given : (z : ℤ) → IsRecord p low z → signed_call p low (residue_of p z) ≡ outcome (gives z) tt
    record_given z r =
        let (below, same) = reading_of_residue p low z l r in
        sym (signed_done p low (low_checks_hold p low ok l) (residue_of p z) below)
        ∙ ap (λ y. outcome (gives y) tt) same

    -- "Records run from -L to p - 1 - L": both ends are given
    pub least_given : signed_call p low (residue_of p (neg_ℤ (pos low))) ≡ outcome (gives (neg_ℤ (pos low))) tt
    least_given = record_given (neg_ℤ (pos low)) (least_is_record p low)

    pub greatest_given : signed_call p low (p - 1 - low) ≡ outcome (gives (pos (p - 1 - low))) tt
    unfolding residue_of
    greatest_given = record_given (pos (p - 1 - low)) (greatest_is_record p low)

    -- a record is an i32: p is at most 2,147,483,647, so that -L and p - 1 - L are at most 2,147,483,646 in size
    pub record_fits : (z : ℤ) → IsRecord p low z → SFits w32 z
    record_fits (pos n) r =
        let h : n ≤ p - 1 - low = le_of_pos r.greatest in
        record { sfits = omega (arith, ok.in_range) }
    record_fits (negsuc n) r =
        let h : n < low = le_of_neg low n r.least in
        record { sfits = omega (arith, ok.in_range) }

-- with the low end 0 nothing is negative
pub none_negative : (p v : ℕ) (z : ℤ) → (signed_call p 0 v).told ≡ gives z → pos 0 ≤ℤ z
none_negative p v z e = (signed_reads p 0 v z e).in_range.least

-- with the low end p - 1 nothing but 0 is not negative
pub none_positive : (p v : ℕ) (z : ℤ) → (signed_call p (p - 1) v).told ≡ gives z → pos 0 ≤ℤ z → z ≡ pos 0
none_positive p v (pos n) e h =
    let g : n ≤ p - 1 - (p - 1) = le_of_pos (signed_reads p (p - 1) v (pos n) e).in_range.greatest in
    let none : n ≡ 0 = omega arith in
    ap pos none
none_positive p v (negsuc n) e h = absurd h.le
