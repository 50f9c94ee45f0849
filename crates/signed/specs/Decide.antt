-- Whether a number is a signed record is decided; the type says what is decided.
use Rattle.std.specs.Prelude.{Bool, true, false, ℕ, ◌-◌, T, ℤ, pos, neg_ℤ, ◌≤ℤ◌}
use Rattle.std.specs.Int.Signed.{le_z}
use Rattle.signed.specs.Reading.{IsRecord}

T? : (b : Bool) → Dec (T b)
T? true = yes tt
T? false = no (λ t. t)

pub le? : (a b : ℤ) → Dec (a ≤ℤ b)
le? a b = go (T? (le_z a b))
  where
    go : Dec (T (le_z a b)) → Dec (a ≤ℤ b)
    go (yes t) = yes (record { le = t })
    go (no f) = no (λ h. f h.le)

pub between? : (a b z : ℤ) → Dec ((a ≤ℤ z) × (z ≤ℤ b))
between? a b z = go (le? a z) (le? z b)
  where
    go : Dec (a ≤ℤ z) → Dec (z ≤ℤ b) → Dec ((a ≤ℤ z) × (z ≤ℤ b))
    go (no f) g = no (λ h. f h.0)
    go (yes l) (no f) = no (λ h. f h.1)
    go (yes l) (yes g) = yes (l, g)

pub record? : (p low : ℕ) (z : ℤ) → Dec (IsRecord p low z)
record? p low z = go (between? (neg_ℤ (pos low)) (pos (p - 1 - low)) z)
  where
    go : Dec ((neg_ℤ (pos low) ≤ℤ z) × (z ≤ℤ pos (p - 1 - low))) → Dec (IsRecord p low z)
    go (yes (l, g)) = yes (record { least = l; greatest = g })
    go (no f) = no (λ h. f (h.least, h.greatest))
