-- The signed reading and its inverse undo each other on the whole range, for every low end (01, "Reading and its inverse undo each other on
-- the whole range"; 02, #106), and both ends of the range are read from residues. First the few laws of signed numbers that this takes;
-- then it is plain arithmetic on either side of the test.
use mathlib.Core.Path.{◌≡◌, refl, sym, ap, ◌∙◌, subst}
use mathlib.Core.Logic.{◌⊎◌, inl, inr, ⊎_elim}
use Prim.Native.Nat.{ℕ, zero, suc, ◌-◌, ◌<◌, ◌≤◌}
use native.Mathlib.Decide.{dec_le}
use native.Mathlib.Omega.{arith}
use borrow.Author.Tests.{lt-ltb, le-ltb}
use lib.Dec.{leb→le, le→leb}
use lib.IntN.{ℤ, pos, negsuc, neg_ℤ, ◌-ℤ◌}
use lib.Signed.{◌≤ℤ◌}
use Rattle.algebra.specs.Choice.{choose}
use Rattle.signed.specs.Reading.{reading, IsRecord, residue_of}

pub le_or_lt : (a b : ℕ) → (a ≤ b) ⊎ (b < a)
le_or_lt a b = go (dec_le a b)
  where
    go : Dec (a ≤ b) → (a ≤ b) ⊎ (b < a)
    go (yes h) = inl h
    go (no f) = inr (omega arith)

-- ---- numbers with a sign

-- v - p is -(p - v) where v is below p
pub minus_above : (v p : ℕ) → v < p → pos v -ℤ pos p ≡ neg_ℤ (pos (p - v))
minus_above v zero h = absurd (omega arith)
minus_above v (suc q) h = let e : suc q - v ≡ suc (suc q - suc v) = omega arith in rw (lt-ltb v (suc q) h, e)

-- the order, by the signs
pos_le_pos : {a b : ℕ} → a ≤ b → pos a ≤ℤ pos b
pos_le_pos {a} {b} h = record { le = le→leb a b h }

pub le_of_pos : {a b : ℕ} → pos a ≤ℤ pos b → a ≤ b
le_of_pos {a} {b} h = leb→le a b h.le

neg_le_pos : (a b : ℕ) → neg_ℤ (pos a) ≤ℤ pos b
neg_le_pos zero b = pos_le_pos (omega arith)
neg_le_pos (suc a) b = record { le = tt }

neg_le_neg : (a b : ℕ) → b ≤ a → neg_ℤ (pos a) ≤ℤ neg_ℤ (pos b)
neg_le_neg a zero h = neg_le_pos a 0
neg_le_neg zero (suc b) h = absurd (omega arith)
neg_le_neg (suc a) (suc b) h = record { le = le→leb b a (omega arith) }

pub le_of_neg : (a b : ℕ) → neg_ℤ (pos a) ≤ℤ neg_ℤ (pos (suc b)) → b < a
le_of_neg zero b h = absurd h.le
le_of_neg (suc a) b h = let l : b ≤ a = leb→le b a h.le in omega arith

-- the residue of -n is p - n
residue_of_neg : (p n : ℕ) → 0 < n → residue_of p (neg_ℤ (pos n)) ≡ p - n
unfolding residue_of
residue_of_neg p zero h = absurd (omega arith)
residue_of_neg p (suc n) h = refl

-- ---- the reading

-- below the test's bound the residue is its own reading
pub read_up : (p low v : ℕ) → v < p - low → reading p low v ≡ pos v
unfolding reading
read_up p low v h = ap (λ b. choose b (pos v) (pos v -ℤ pos p)) (lt-ltb v _ (omega arith))

-- and from there on p is taken away
pub read_down : (p low v : ℕ) → v < p → p - low ≤ v → reading p low v ≡ neg_ℤ (pos (p - v))
unfolding reading
read_down p low v l h = ap (λ b. choose b (pos v) (pos v -ℤ pos p)) (le-ltb v _ (omega arith)) ∙ minus_above v p l

-- what holds on both sides of the test holds of the reading
pub read_elim :
    (Q : ℤ → Type 0) (p low v : ℕ) → v < p
    → (v < p - low → Q (pos v)) → (p - low ≤ v → Q (neg_ℤ (pos (p - v)))) → Q (reading p low v)
read_elim Q p low v l f g =
    ⊎_elim
    (λ h. subst Q (sym (read_down p low v l h)) (g h))
    (λ h. subst Q (sym (read_up p low v h)) (f h))
    (le_or_lt (p - low) v)

-- it lies in the range
pub reading_is_record : (p low v : ℕ) → low < p → v < p → IsRecord p low (reading p low v)
reading_is_record p low v k l =
    read_elim (IsRecord p low) p low v l
    (λ h. record { least = neg_le_pos low v; greatest = pos_le_pos (omega arith) })
    (λ h. record { least = neg_le_neg low (p - v) (omega arith); greatest = neg_le_pos (p - v) (p - 1 - low) })

-- the residue of the reading is what was read
pub residue_of_reading : (p low v : ℕ) → v < p → residue_of p (reading p low v) ≡ v
unfolding residue_of
residue_of_reading p low v l =
    read_elim (λ z. residue_of p z ≡ v) p low v l
    (λ h. refl)
    (λ h. let e : p - (p - v) ≡ v = omega arith in residue_of_neg p (p - v) (omega arith) ∙ e)

-- the residue of a record in range is below p, and its reading is the record
pub reading_of_residue : (p low : ℕ) (z : ℤ) → low < p → IsRecord p low z → (residue_of p z < p) × (reading p low (residue_of p z) ≡ z)
unfolding residue_of
reading_of_residue p low (pos n) k r =
    let h : n ≤ p - 1 - low = le_of_pos r.greatest in
    (omega arith, read_up p low n (omega arith))
reading_of_residue p low (negsuc n) k r =
    let h : n < low = le_of_neg low n r.least in
    let e : p - (p - suc n) ≡ suc n = omega arith in
    (omega arith, read_down p low (p - suc n) (omega arith) (omega arith) ∙ ap (λ (m : ℕ). neg_ℤ (pos m)) e)

-- ---- the ends: -low and p - 1 - low are records

pub least_is_record : (p low : ℕ) → IsRecord p low (neg_ℤ (pos low))
least_is_record p low = record { least = neg_le_neg low low (omega arith); greatest = neg_le_pos low (p - 1 - low) }

pub greatest_is_record : (p low : ℕ) → IsRecord p low (pos (p - 1 - low))
greatest_is_record p low = record { least = neg_le_pos low (p - 1 - low); greatest = pos_le_pos (omega arith) }

-- and so is 0, whatever the low end
pub zero_is_record : (p low : ℕ) → IsRecord p low (pos 0)
zero_is_record p low = record { least = neg_le_pos low 0; greatest = pos_le_pos (omega arith) }
