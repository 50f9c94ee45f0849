-- 02, #106: "The old reading is L = (p - 1)/2 rounded down". With that low end the reading, its range and both calls are 01's: 2 × v ≤ p
-- exactly where v < p - (p - 1)/2. Then 01's two ends, and p = 2, where (p - 1)/2 is 0 and the records are 0 and 1.
use mathlib.Core.Path.{◌≡◌, refl, sym, ap, ◌∙◌}
use mathlib.Core.Logic.{◌↔◌, ⊎_elim}
use Prim.Native.Nat.{ℕ, ◌+◌, ◌-◌, ◌*◌, ◌/◌, ◌<◌, ◌≤◌}
use native.Mathlib.Decide.{dec_lt}
use native.Mathlib.Omega.{arith}
use borrow.Author.Tests.{le-leb, lt-leb}
use lib.IntN.{ℤ, pos, neg_ℤ, ◌-ℤ◌}
use Rattle.algebra.specs.Choice.{choose}
use Rattle.checks.specs.Prime.{IsModulus}
use Rattle.checks.specs.Told.{gives}
use Rattle.checks.specs.Outcome.{outcome}
use Rattle.checks.specs.Decide.{modulus?}
use Rattle.checks.specs.InOrder.{AllHold}
use Rattle.checks.proofs.InOrder.{none_left, fails_here, in_order_done, in_order_refused, ◌and_then◌, ◌then◌}
use Rattle.signed.specs.Reading.{reading, IsRecord}
use Rattle.signed.specs.Decide.{record?}
use Rattle.signed.specs.Balanced.{balanced_low, balanced_reading, IsBalanced, balanced_signed_call, balanced_residue_call}
use Rattle.signed.specs.Calls.{low_checks, signed_call, residue_call}
use Rattle.signed.proofs.Calls.{low_checks_hold, signed_no_low, signed_refused, signed_done, residue_no_low, residue_refused, residue_done}
use Rattle.signed.proofs.Readings.{le_or_lt, minus_above, read_up, read_down}

pub balanced_low_below : (p : ℕ) → 0 < p → balanced_low p < p
unfolding balanced_low
balanced_low_below p h = omega arith

-- 01's reading on either side of 01's test
up : (p v : ℕ) → 2 * v ≤ p → balanced_reading p v ≡ pos v
unfolding balanced_reading
up p v h = ap (λ b. choose b (pos v) (pos v -ℤ pos p)) (le-leb (2 * v) _ (omega arith))

down : (p v : ℕ) → v < p → p < 2 * v → balanced_reading p v ≡ neg_ℤ (pos (p - v))
unfolding balanced_reading
down p v l h = ap (λ b. choose b (pos v) (pos v -ℤ pos p)) (lt-leb (2 * v) _ (omega arith)) ∙ minus_above v p l

-- the reading with the old low end is 01's
pub balanced_reading_lem : (p v : ℕ) → 0 < p → v < p → reading p (balanced_low p) v ≡ balanced_reading p v
unfolding balanced_low
balanced_reading_lem p v h l =
    ⊎_elim
    (λ k. read_up p (balanced_low p) v (omega arith) ∙ sym (up p v k))
    (λ k. read_down p (balanced_low p) v l (omega arith) ∙ sym (down p v l k))
    (le_or_lt (2 * v) p)

-- and so is the range
pub balanced_record : (p : ℕ) (z : ℤ) → 0 < p → IsRecord p (balanced_low p) z ↔ IsBalanced p z
unfolding balanced_low
balanced_record p z h =
    let e : p - 1 - (p - 1) / 2 ≡ p / 2 = omega arith in (
      λ r. (r.least, rw e at r.greatest),
      λ (l, g). record { least = l; greatest = rw e g },
    )

-- the greatest of 01's records, p/2, is read from p/2
pub balanced_greatest : (p : ℕ) → 0 < p → reading p (balanced_low p) (p / 2) ≡ pos (p / 2)
unfolding balanced_low
balanced_greatest p h = read_up p (balanced_low p) (p / 2) (omega arith)

-- and the least, -(p - 1)/2, from the residue after it
pub balanced_least : (p : ℕ) → 2 < p → reading p (balanced_low p) (p / 2 + 1) ≡ neg_ℤ (pos ((p - 1) / 2))
unfolding balanced_low
balanced_least p h =
    let e : p - (p / 2 + 1) ≡ (p - 1) / 2 = omega arith in
    read_down p (balanced_low p) (p / 2 + 1) (omega arith) (omega arith) ∙ ap (λ (m : ℕ). neg_ℤ (pos m)) e

-- modulo 2 the records are 0 and 1
pub balanced_two : (balanced_low 2 ≡ 0) × (reading 2 (balanced_low 2) 0 ≡ pos 0) × (reading 2 (balanced_low 2) 1 ≡ pos 1)
unfolding balanced_low reading
balanced_two = (refl, refl, refl)

-- ---- the calls

positive : {p : ℕ} → IsModulus p → 0 < p
positive ok = omega (arith, ok.prime.two_or_more)

holds : {p : ℕ} → IsModulus p → AllHold (low_checks p (balanced_low p))
holds {p} ok = low_checks_hold p (balanced_low p) ok (balanced_low_below p (positive ok))

-- signed and residue with the old low end are 01's, refusals included
pub signed_balanced : (p v : ℕ) → signed_call p (balanced_low p) v ≡ balanced_signed_call p v
unfolding balanced_signed_call
signed_balanced p v = go (modulus? p) (dec_lt v p)
  where
    go : Dec (IsModulus p) → Dec (v < p) → signed_call p (balanced_low p) v ≡ balanced_signed_call p v
    go (no f) d = sym (signed_no_low _ _ _ (fails_here f)) ∙ sym (in_order_refused _ _ (fails_here f))
    go (yes ok) (no f) =
        sym (signed_refused _ _ (holds ok) v f) ∙ sym (in_order_refused _ _ (ok then fails_here f))
    go (yes ok) (yes h) =
        sym (signed_done _ _ (holds ok) v h)
        ∙ ap (λ z. outcome (gives z) tt) (balanced_reading_lem p v (positive ok) h)
        ∙ sym (in_order_done _ _ _ (ok and_then h and_then none_left) (λ _. refl))

pub residue_balanced : (p : ℕ) (z : ℤ) → residue_call p (balanced_low p) z ≡ balanced_residue_call p z
unfolding balanced_residue_call
residue_balanced p z = go (modulus? p) (record? p (balanced_low p) z)
  where
    go : Dec (IsModulus p) → Dec (IsRecord p (balanced_low p) z) → residue_call p (balanced_low p) z ≡ balanced_residue_call p z
    go (no f) d = sym (residue_no_low _ _ _ (fails_here f)) ∙ sym (in_order_refused _ _ (fails_here f))
    go (yes ok) (no f) =
        sym (residue_refused _ _ (holds ok) z f)
        ∙ sym (in_order_refused _ _ (ok then fails_here (λ b. f ((balanced_record p z (positive ok)).1 b))))
    go (yes ok) (yes r) =
        sym (residue_done _ _ (holds ok) z r)
        ∙ sym (in_order_done _ _ _ (ok and_then (balanced_record p z (positive ok)).0 r and_then none_left) (λ _. refl))
