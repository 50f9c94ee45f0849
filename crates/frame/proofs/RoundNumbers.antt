-- The numbers of a frame: which multipliers are written, that they are spread over the standing bits again, and that
-- the checks of reading ask of them what they are.
use mathlib.Core.Path.{◌≡◌, refl, sym, ap}
use mathlib.Core.Bool.{Bool, true, false}
use mathlib.Core.List.{List, [], ◌∷◌}
use Prim.Native.Nat.{ℕ, zero, suc, ◌<◌, ◌≤◌}
use native.Mathlib.Nat.{not-suc-le-zero}
use native.Mathlib.Omega.{arith}
use lib.Dec.{eqb-suc-zero}
use lib.ListN.{length, get_or}
use Rattle.checks.specs.InOrder.{Given, AllHold}
use Rattle.checks.proofs.InOrder.{none_left, holds_and, ◌and_then◌}
use Rattle.words.specs.Words.{Below}
use Rattle.codec.proofs.BigEndian.{below_head, below_tail, below_cons}
use Rattle.frame.specs.Format.{stands, packed, value_bytes}
use Rattle.frame.specs.Bitmap.{standing}
use Rattle.frame.specs.Reading.{spread, number_checks}
use Rattle.frame.proofs.Bytes.{values_none, values_more}

-- ---- the multipliers that are written

-- the multipliers that are not 0
pub kept : List ℕ → List ℕ
kept [] = []
kept (zero ∷ xs) = kept xs
kept (suc x ∷ xs) = suc x ∷ kept xs

-- no number is 0
abbrev pub Positive : List ℕ → Type 0
Positive xs = (i : ℕ) → i < length xs → 0 < get_or xs i 0

-- the bytes of the multipliers under standing bits are those of the numbers kept
pub packed_kept : (w : ℕ) (xs : List ℕ) → packed w xs ≡ value_bytes w (kept xs)
unfolding packed kept
packed_kept w [] = sym (values_none w)
packed_kept w (zero ∷ xs) = packed_kept w xs
packed_kept w (suc x ∷ xs) = rw (eqb-suc-zero x, packed_kept w xs, values_more)

pub standing_kept : (xs : List ℕ) → standing (stands xs) ≡ length (kept xs)
unfolding stands standing kept
standing_kept [] = refl
standing_kept (zero ∷ xs) = rw (standing_kept xs) (omega arith)
standing_kept (suc x ∷ xs) = rw (eqb-suc-zero x, standing_kept xs) (omega arith)

pub stands_length : (xs : List ℕ) → length (stands xs) ≡ length xs
unfolding stands
stands_length [] = refl
stands_length (x ∷ xs) = ap suc (stands_length xs)

-- spread over the standing bits, the numbers kept are the multipliers again
pub spread_kept : (xs : List ℕ) → spread (stands xs) (kept xs) ≡ xs
unfolding stands kept spread
spread_kept [] = refl
spread_kept (zero ∷ xs) = ap (λ (ys : List ℕ). 0 ∷ ys) (spread_kept xs)
spread_kept (suc x ∷ xs) = rw (eqb-suc-zero x) (ap (λ (ys : List ℕ). suc x ∷ ys) (spread_kept xs))

pub kept_below : (p : ℕ) (xs : List ℕ) → Below p xs → Below p (kept xs)
unfolding kept
kept_below p [] h = h
kept_below p (zero ∷ xs) h = kept_below p xs (below_tail p 0 xs h)
kept_below p (suc x ∷ xs) h =
    below_cons p (suc x) (kept xs) (below_head p (suc x) xs h) (kept_below p xs (below_tail p (suc x) xs h))

-- and the other way round, since 0 is below p
pub below_of_kept : (p : ℕ) (xs : List ℕ) → 0 < p → Below p (kept xs) → Below p xs
unfolding kept
below_of_kept p [] z h = h
below_of_kept p (zero ∷ xs) z h = below_cons p 0 xs z (below_of_kept p xs z h)
below_of_kept p (suc x ∷ xs) z h =
    below_cons p (suc x) xs (below_head p (suc x) (kept xs) h) (below_of_kept p xs z (below_tail p (suc x) (kept xs) h))

pub kept_positive : (xs : List ℕ) → Positive (kept xs)
unfolding kept
kept_positive [] i h = absurd (not-suc-le-zero h)
kept_positive (zero ∷ xs) i h = kept_positive xs i h
kept_positive (suc x ∷ xs) zero h = omega arith
kept_positive (suc x ∷ xs) (suc i) h = kept_positive xs i (omega arith)

pub kept_length : (xs : List ℕ) → length (kept xs) ≤ length xs
unfolding kept
kept_length [] = omega arith
kept_length (zero ∷ xs) = omega (arith, kept_length xs)
kept_length (suc x ∷ xs) = omega (arith, kept_length xs)

-- if none is 0, all are kept
pub kept_all : (xs : List ℕ) → Positive xs → kept xs ≡ xs
unfolding kept
kept_all [] h = refl
kept_all (zero ∷ xs) h = absurd (omega (arith, h 0 (omega arith)))
kept_all (suc x ∷ xs) h = ap (λ (ys : List ℕ). suc x ∷ ys) (kept_all xs (λ i l. h (suc i) (omega arith)))

-- ---- numbers spread over bits

pub spread_length : (bits : List Bool) (ns : List ℕ) → length (spread bits ns) ≡ length bits
unfolding spread
spread_length [] ns = refl
spread_length (true ∷ bits) [] = ap suc (spread_length bits [])
spread_length (true ∷ bits) (x ∷ ns) = ap suc (spread_length bits ns)
spread_length (false ∷ bits) ns = ap suc (spread_length bits ns)

pub spread_below : (p : ℕ) (bits : List Bool) (ns : List ℕ) → 0 < p → Below p ns → Below p (spread bits ns)
unfolding spread
spread_below p [] ns z h = λ i l. absurd (not-suc-le-zero l)
spread_below p (true ∷ bits) [] z h = below_cons p 0 (spread bits []) z (spread_below p bits [] z h)
spread_below p (true ∷ bits) (x ∷ ns) z h =
    below_cons p x (spread bits ns) (below_head p x ns h) (spread_below p bits ns z (below_tail p x ns h))
spread_below p (false ∷ bits) ns z h = below_cons p 0 (spread bits ns) z (spread_below p bits ns z h)

-- numbers that are not 0, one for each standing bit, stand where the bits do, and all of them are kept
pub spread_stands :
    (bits : List Bool) (ns : List ℕ) → length ns ≡ standing bits → Positive ns
    → (stands (spread bits ns) ≡ bits) × (kept (spread bits ns) ≡ ns)
unfolding spread stands kept standing
spread_stands [] [] e h = (refl, refl)
spread_stands [] (x ∷ ns) e h = absurd (omega arith)
spread_stands (true ∷ bits) [] e h = absurd (omega arith)
spread_stands (true ∷ bits) (zero ∷ ns) e h = absurd (omega (arith, h 0 (omega arith)))
spread_stands (true ∷ bits) (suc x ∷ ns) e h =
    let rest = spread_stands bits ns (omega arith) (λ i l. h (suc i) (omega arith)) in
    rw (eqb-suc-zero x)
    (ap (λ (bs : List Bool). true ∷ bs) rest.0, ap (λ (ys : List ℕ). suc x ∷ ys) rest.1)
spread_stands (false ∷ bits) ns e h =
    let rest = spread_stands bits ns (omega arith) h in
    (ap (λ (bs : List Bool). false ∷ bs) rest.0, rest.1)

-- ---- what is accepted

-- numbers that pass their checks are from 1 to p - 1, and the values are below p
pub record GoodNumbers (p : ℕ) (ns vs : List ℕ) : Type 0 where
  pub positive : Positive ns
  pub below : Below p ns
  pub values_below : Below p vs

pub good_of_given : (p : ℕ) (ns vs : List ℕ) → Given (number_checks p ns vs) → GoodNumbers p ns vs
good_of_given p [] vs hs =
    record { positive = λ i l. absurd (not-suc-le-zero l); below = λ i l. absurd (not-suc-le-zero l); values_below = hs.0 }
good_of_given p (x ∷ ns) vs hs =
    let rest = good_of_given p ns vs hs.1.1 in
    record {
      positive = positive_cons x ns hs.0 rest.positive;
      below = below_cons p x ns hs.1.0 rest.below;
      values_below = rest.values_below;
    }
  where
    positive_cons : (x : ℕ) (xs : List ℕ) → 0 < x → Positive xs → Positive (x ∷ xs)
    positive_cons x xs h t zero l = h
    positive_cons x xs h t (suc i) l = t i (omega arith)

pub good_hold : (p : ℕ) (ns vs : List ℕ) → GoodNumbers p ns vs → AllHold (number_checks p ns vs)
good_hold p [] vs t = t.values_below and_then none_left
good_hold p (x ∷ ns) vs t =
    holds_and (t.positive 0 (omega arith))
    (λ _.
    holds_and (below_head p x ns t.below)
    (λ _.
    good_hold p ns vs
    (record {
      positive = λ i k. t.positive (suc i) (omega arith);
      below = below_tail p x ns t.below;
      values_below = t.values_below;
    })))
