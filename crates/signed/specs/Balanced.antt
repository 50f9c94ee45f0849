-- 01, "Signed reading of a residue v: v where 2 × v ≤ p, otherwise v - p. A signed record lies from -(p - 1)/2 to p/2, both divided
-- downwards in size." (The field's word: the balanced residues modulo p.) 02, #106: "The old reading is L = (p - 1)/2 rounded down, and
-- the cases in 01 are read with that." That this low end reads so is shown in proofs/Balanced.antt; 01's reading, range and calls
-- are here for that alone.
use Rattle.std.specs.Prelude.{ℕ, ◌-◌, ◌*◌, ◌/◌, leb, ℤ, pos, neg_ℤ, ◌-ℤ◌, ◌≤ℤ◌}
use Rattle.std.proofs.Math.Decide.{dec_lt}
use Rattle.algebra.specs.Choice.{choose}
use Rattle.checks.specs.declared.Refusal.TheVariants.{Modulus, Number}
use Rattle.checks.specs.Told.{gives}
use Rattle.checks.specs.Outcome.{Outcome, outcome, untouched}
use Rattle.checks.specs.InOrder.{passed, ◌else◌, ◌⨾◌, in_order}
use Rattle.checks.specs.Decide.{modulus?}
use Rattle.signed.specs.Reading.{residue_of}
use Rattle.signed.specs.Decide.{between?}

-- the old low end
unfoldable pub balanced_low : ℕ → ℕ
balanced_low p = (p - 1) / 2

-- 01's reading, and 01's records
unfoldable pub balanced_reading : ℕ → ℕ → ℤ
balanced_reading p v = choose (leb (2 * v) p) (pos v) (pos v -ℤ pos p)

abbrev pub IsBalanced : ℕ → ℤ → Type 0
IsBalanced p z = (neg_ℤ (pos ((p - 1) / 2)) ≤ℤ z) × (z ≤ℤ pos (p / 2))

-- 01's calls: "Called from outside, each checks 1, then 4."
unfoldable pub balanced_signed_call : (p v : ℕ) → Outcome (Unit {0})
balanced_signed_call p v =
    in_order (modulus? p else Modulus ⨾ dec_lt v p else Number ⨾ passed) (λ _. outcome (gives (balanced_reading p v)) tt) (untouched tt)

unfoldable pub balanced_residue_call : (p : ℕ) (z : ℤ) → Outcome (Unit {0})
balanced_residue_call p z =
    in_order (modulus? p else Modulus ⨾ between? (neg_ℤ (pos ((p - 1) / 2))) (pos (p / 2)) z else Number ⨾ passed)
    (λ _. outcome (gives (pos (residue_of p z))) tt) (untouched tt)
