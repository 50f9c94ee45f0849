-- 02, #106: "Signed reading and its inverse, sealing and show take a low end L, 0 to p - 1; residue v reads as v if v < p - L, otherwise
-- v - p. Records run from -L to p - 1 - L." The low end is the size of the least record: how far below 0 a record may lie.
use Rattle.std.specs.Prelude.{◌≡◌, ℕ, suc, ◌-◌, ltb, ℤ, pos, negsuc, neg_ℤ, ◌+ℤ◌, ◌-ℤ◌, ◌*ℤ◌, ◌≤ℤ◌}
use Rattle.algebra.specs.Choice.{choose}

-- the signed reading of the residue v modulo p, with the low end
unfoldable pub reading : (p low : ℕ) → ℕ → ℤ
reading p low v = choose (ltb v (p - low)) (pos v) (pos v -ℤ pos p)

-- z is a record modulo p, with the low end
pub record IsRecord (p low : ℕ) (z : ℤ) : Type 0 where
  pub least : neg_ℤ (pos low) ≤ℤ z
  pub greatest : z ≤ℤ pos (p - 1 - low)

-- the residue that a record is read from, whatever the low end
unfoldable pub residue_of : ℕ → ℤ → ℕ
residue_of p (pos n) = n
residue_of p (negsuc n) = p - suc n

-- ---- what a reading is

-- y and z are congruent modulo p: they differ by a multiple of p
abbrev pub Congruent : ℕ → (y z : ℤ) → Type 0
Congruent p y z = (k : ℤ) × (y ≡ z +ℤ k *ℤ pos p)

-- y is what z reads as modulo p with the low end: the one number from -low to p - 1 - low that is congruent to z
pub record IsReading (p low : ℕ) (z y : ℤ) : Type 0 where
  pub in_range : IsRecord p low y
  pub congruent : Congruent p y z
  pub only : (x : ℤ) → IsRecord p low x → Congruent p x z → x ≡ y
