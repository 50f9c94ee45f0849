-- The bits of a map, and how many of a run of them stand. Runs are counted apart, the eight bits of a byte are its binary
-- digits, and a run of which none stands counts 0.
use mathlib.Core.Path.{◌≡◌, refl, sym, ap, ap₂, ◌∙◌}
use mathlib.Core.Bool.{Bool, true, false}
use mathlib.Core.List.{List, [], ◌∷◌}
use Prim.Native.Nat.{ℕ, zero, suc, ◌+◌, ◌*◌, ◌/◌, ◌%◌, ◌^◌, ◌≤◌, ◌<◌}
use native.Mathlib.Nat.{add-zero, zero-add, div-div-eq-div-mul, pow-suc, mod-lt}
use native.Mathlib.Omega.{arith}
use lib.ListN.{get_or}
use lib.Dec.{eqb}
use lib.Count.{ones, ones_step, ones-le}
use Rattle.algebra.specs.Choice.{choose}
use Rattle.frame.specs.Format.{map_length}
use Rattle.frame.specs.Bitmap.{bit_at, bits_from, standing, record_bits, whole_map}

-- ---- the equations of the bits and of their number

pub bits_none : (bytes : List ℕ) (j : ℕ) → bits_from bytes j 0 ≡ []
unfolding bits_from
bits_none bytes j = refl

pub bits_more : (bytes : List ℕ) (j k : ℕ) → bits_from bytes j (suc k) ≡ bit_at bytes j ∷ bits_from bytes (suc j) k
unfolding bits_from
bits_more bytes j k = refl

-- how many of k bits from bit j on stand
unfoldable pub count : List ℕ → ℕ → ℕ → ℕ
count bytes j k = standing (bits_from bytes j k)

pub count_none : (bytes : List ℕ) (j : ℕ) → count bytes j 0 ≡ 0
unfolding count bits_from standing
count_none bytes j = refl

pub count_more : (bytes : List ℕ) (j k : ℕ) → count bytes j (suc k) ≡ choose (bit_at bytes j) 1 0 + count bytes (suc j) k
unfolding count bits_from standing
count_more bytes j k = refl

pub count_record_bits : (n : ℕ) (bytes : List ℕ) → standing (record_bits n bytes) ≡ count bytes 0 n
unfolding count record_bits
count_record_bits n bytes = refl

pub count_whole_map : (n : ℕ) (bytes : List ℕ) → standing (whole_map n bytes) ≡ count bytes 0 (8 * map_length n)
unfolding count whole_map
count_whole_map n bytes = refl

-- no more bits stand than there are
bit_small : (b : Bool) → choose b 1 0 ≤ 1
bit_small true = omega arith
bit_small false = omega arith

pub count_small : (bytes : List ℕ) (j k : ℕ) → count bytes j k ≤ k
count_small bytes j zero = omega (arith, count_none bytes j)
count_small bytes j (suc k) =
    omega (arith, count_more bytes j k, bit_small (bit_at bytes j), count_small bytes (suc j) k)

-- two runs of bits are counted apart
pub count_runs : (bytes : List ℕ) (j a b : ℕ) → count bytes j (a + b) ≡ count bytes j a + count bytes (j + a) b
count_runs bytes j zero b = rw (zero-add b, add-zero j, count_none) (sym (zero-add (count bytes j b)))
count_runs bytes j (suc a) b =
    let e : suc a + b ≡ suc (a + b) = omega arith in
    let f : suc j + a ≡ j + suc a = omega arith in
    let rest = rw f at (count_runs bytes (suc j) a b) in
    rw e (omega (arith, count_more bytes j (a + b), count_more bytes j a, rest))

-- ---- the bits of a byte

-- a binary digit that is tested counts for itself
pub digit_counts : (d : ℕ) → d < 2 → choose (eqb d 1) 1 0 ≡ d
digit_counts zero h = refl
digit_counts (suc zero) h = refl
digit_counts (suc (suc d)) h = omega arith

-- bit t of byte i is the byte's binary digit t, and counts for it
pub bit_digit : (bytes : List ℕ) (i t : ℕ) → t < 8 → bit_at bytes (8 * i + t) ≡ eqb (get_or bytes i 0 / 2 ^ t % 2) 1
unfolding bit_at
bit_digit bytes i t h =
    let place : (8 * i + t) / 8 ≡ i = omega arith in
    let digit : (8 * i + t) % 8 ≡ t = omega arith in
    rw (place, digit)

pub bit_of_byte : (bytes : List ℕ) (i t : ℕ) → t < 8 → choose (bit_at bytes (8 * i + t)) 1 0 ≡ get_or bytes i 0 / 2 ^ t % 2
bit_of_byte bytes i t h = rw (bit_digit bytes i t h) (digit_counts (get_or bytes i 0 / 2 ^ t % 2) (mod-lt _ (omega arith)))

-- the bits of byte i from bit t on are counted with what stands above them
count_digits : (bytes : List ℕ) (i t k : ℕ) → t + k ≤ 8 → count bytes (8 * i + t) k + ones (get_or bytes i 0 / 2 ^ (t + k)) ≡ ones (get_or bytes i 0 / 2 ^ t)
count_digits bytes i t zero h = rw (count_none, add-zero, zero-add)
count_digits bytes i t (suc k) h =
    let x = get_or bytes i 0 in
    let next : 8 * i + suc t ≡ suc (8 * i + t) = omega arith in
    let same : suc t + k ≡ t + suc k = omega arith in
    let half : x / 2 ^ suc t ≡ x / 2 ^ t / 2 = ap (λ (n : ℕ). x / n) (pow-suc 2 t) ∙ sym (div-div-eq-div-mul x (2 ^ t) 2) in
    let rest = rw (next, same, half) at (count_digits bytes i (suc t) k (omega arith)) in
    let bit = bit_of_byte bytes i t (omega arith) in
    omega (arith, rest, bit, count_more bytes (8 * i + t) k, ones_step (x / 2 ^ t))

-- the standing bits of byte i are the set digits of the byte
pub count_byte : (bytes : List ℕ) (i : ℕ) → get_or bytes i 0 < 256 → count bytes (8 * i) 8 ≡ ones (get_or bytes i 0)
count_byte bytes i h =
    let x = get_or bytes i 0 in
    let e : 8 * i + 0 ≡ 8 * i = omega arith in
    let none : x / 256 ≡ 0 = omega arith in
    let whole : x / 1 ≡ x = omega arith in
    let all = rw (e, none, whole) at (count_digits bytes i 0 8 (omega arith)) in
    omega (arith, all, ones-le 0 0 (omega arith))

-- one byte more
pub count_one_more : (bytes : List ℕ) (b : ℕ) → get_or bytes b 0 < 256 → count bytes 0 (8 * (b + 1)) ≡ count bytes 0 (8 * b) + ones (get_or bytes b 0)
count_one_more bytes b h =
    let e : 8 * (b + 1) ≡ 8 * b + 8 = omega arith in
    rw (e, count_runs bytes 0 (8 * b) 8, zero-add, count_byte bytes b h)

-- ---- runs that agree, and runs that are clear

pub bits_agree : (xs ys : List ℕ) (j k : ℕ) → ((i : ℕ) → j ≤ i → i < j + k → bit_at xs i ≡ bit_at ys i) → bits_from xs j k ≡ bits_from ys j k
bits_agree xs ys j zero h = bits_none xs j ∙ sym (bits_none ys j)
bits_agree xs ys j (suc k) h =
    bits_more xs j k
    ∙ ap₂ ◌∷◌ (h j (omega arith) (omega arith)) (bits_agree xs ys (suc j) k (λ i a b. h i (omega arith) (omega arith)))
    ∙ sym (bits_more ys j k)

-- none is counted where none stands
pub count_clear : (bytes : List ℕ) (j k : ℕ) → ((i : ℕ) → j ≤ i → i < j + k → bit_at bytes i ≡ false) → count bytes j k ≡ 0
count_clear bytes j zero h = count_none bytes j
count_clear bytes j (suc k) h =
    count_more bytes j k
    ∙ rw (h j (omega arith) (omega arith), zero-add) (count_clear bytes (suc j) k (λ i a b. h i (omega arith) (omega arith)))
