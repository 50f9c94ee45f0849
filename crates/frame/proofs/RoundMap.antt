-- The bit map: bit j of the map that is written is record j's, and bytes with no bit at n or above are the map of their own
-- bits. A byte is first seen as a number packed from any eight bits; then the bytes are laid out by j/8 and j mod 8.
use mathlib.Core.Path.{◌≡◌, refl, sym, ap, ◌∙◌}
use mathlib.Core.Bool.{Bool, true, false}
use mathlib.Core.List.{List, ◌++◌}
use Prim.Native.Nat.{ℕ, zero, suc, ◌+◌, ◌*◌, ◌/◌, ◌%◌, ◌^◌, ◌<◌, ◌≤◌}
use native.Mathlib.Nat.{pow-zero, pow-suc, mul_comm, div-one, div-div-eq-div-mul, not-suc-le-zero}
use native.Mathlib.Decide.{dec_lt}
use native.Mathlib.Omega.{arith}
use lib.Dec.{eqb}
use lib.ListN.{length, get_or, take, get_or-append, get_or-eq_default}
use lib.Seq.{ext_get_or, get_or-take, length-take-le}
use Rattle.algebra.specs.Choice.{choose}
use Rattle.words.specs.Words.{Below}
use Rattle.field.specs.Written.{tabulate}
use Rattle.field.proofs.Written.{length_tabulate, get_d_tabulate, is_tabulate}
use Rattle.frame.specs.Format.{map_length, map_byte, map_bytes}
use Rattle.frame.specs.Bitmap.{bit_at, bits_from, record_bits, Unpadded}
use Rattle.frame.proofs.Bits.{digit_counts, bits_none, bits_more, bit_digit}

-- ---- a number packed from bits

-- the number whose bit i is f i, for i below k
pub pack : (ℕ → Bool) → ℕ → ℕ
pack f zero = 0
pack f (suc k) = choose (f 0) 1 0 + 2 * pack (λ i. f (suc i)) k

pack_none : (f : ℕ → Bool) → pack f 0 ≡ 0
unfolding pack
pack_none f = refl

pub pack_more : (f : ℕ → Bool) (k : ℕ) → pack f (suc k) ≡ choose (f 0) 1 0 + 2 * pack (λ i. f (suc i)) k
unfolding pack
pack_more f k = refl

-- a bit as a number, and a number below 2 as a bit
pub bit_small : (b : Bool) → choose b 1 0 < 2
bit_small true = omega arith
bit_small false = omega arith

bit_back : (b : Bool) → eqb (choose b 1 0) 1 ≡ b
bit_back true = refl
bit_back false = refl

pub pack_same : (f g : ℕ → Bool) (k : ℕ) → ((i : ℕ) → i < k → f i ≡ g i) → pack f k ≡ pack g k
pack_same f g zero h = pack_none f ∙ sym (pack_none g)
pack_same f g (suc k) h =
    simp pack_more (rw (h 0 (omega arith), pack_same (λ i. f (suc i)) (λ i. g (suc i)) k (λ i l. h (suc i) (omega arith))))

pub pack_below : (f : ℕ → Bool) (k : ℕ) → pack f k < 2 ^ k
pack_below f zero = rw (pack_none, pow-zero) (omega arith)
pack_below f (suc k) =
    rw (pack_more, pow-suc) (omega (arith, bit_small (f 0), pack_below (λ i. f (suc i)) k))

-- bit i of the packed number is f i
pub pack_bit : (f : ℕ → Bool) (k i : ℕ) → i < k → pack f k / 2 ^ i % 2 ≡ choose (f i) 1 0
pack_bit f zero i h = absurd (not-suc-le-zero h)
pack_bit f (suc k) zero h = rw (pack_more, pow-zero, div-one) (omega (arith, bit_small (f 0)))
pack_bit f (suc k) (suc i) h =
    let rest = pack (λ j. f (suc j)) k in
    let half : (choose (f 0) 1 0 + 2 * rest) / 2 ≡ rest = omega (arith, bit_small (f 0)) in
    rw (pack_more, pow-suc, mul_comm (2 ^ i) 2, ← (div-div-eq-div-mul (choose (f 0) 1 0 + 2 * rest) 2 (2 ^ i)), half)
    (pack_bit (λ j. f (suc j)) k i (omega arith))

-- a number is packed from its own bits
pub pack_of_bits : (x k : ℕ) → x < 2 ^ k → pack (λ i. eqb (x / 2 ^ i % 2) 1) k ≡ x
pack_of_bits x zero h = rw pack_none (omega (arith, pow-zero 2))
pack_of_bits x (suc k) h =
    let next : pack (λ i. eqb (x / 2 ^ suc i % 2) 1) k ≡ pack (λ i. eqb (x / 2 / 2 ^ i % 2) 1) k =
    pack_same _ _ k (λ i l. rw (pow-suc, mul_comm (2 ^ i) 2, ← (div-div-eq-div-mul x 2 (2 ^ i)))) in
    rw (pack_more, next, pack_of_bits (x / 2) k (omega (arith, pow-suc 2 k)), pow-zero, div-one, digit_counts (x % 2) (omega arith))
    (omega arith)

-- ---- the bytes of the map

-- byte b of the map is packed from bits 8 × b to 8 × b + 7
pub map_byte_lem : (bits : List Bool) (b : ℕ) → map_byte bits b ≡ pack (λ i. get_or bits (8 * b + i) false) 8
unfolding map_byte pack
map_byte_lem bits b = refl

pub map_length_lem : (n : ℕ) (bits : List Bool) → length (map_bytes n bits) ≡ map_length n
unfolding map_bytes
map_length_lem n bits = length_tabulate (map_length n) (map_byte bits)

-- the map has a bit for every record
pub map_room : (n : ℕ) → n ≤ 8 * map_length n
unfolding map_length
map_room n = omega arith

-- bit j of the map that is written is record j's, and does not stand where there is no record
pub map_bit :
    (n : ℕ) (bits : List Bool) (rest : List ℕ) (j : ℕ) → j < 8 * map_length n → bit_at (map_bytes n bits ++ rest) j ≡ get_or bits j false
unfolding bit_at map_bytes
map_bit n bits rest j h =
    let f = map_byte bits in
    let place : 8 * (j / 8) + j % 8 ≡ j = omega arith in
    let at : get_or (tabulate (map_length n) f ++ rest) (j / 8) 0 ≡ f (j / 8) =
    get_or-append (tabulate (map_length n) f) rest 0 (j / 8) (omega (arith, length_tabulate (map_length n) f))
    ∙ get_d_tabulate (map_length n) f (j / 8) (omega arith) in
    rw (at, map_byte_lem, pack_bit (λ i. get_or bits (8 * (j / 8) + i) false) 8 (j % 8) (omega arith), place)
    (bit_back (get_or bits j false))

-- ---- the bits that are read

bits_length : (bytes : List ℕ) (j k : ℕ) → length (bits_from bytes j k) ≡ k
bits_length bytes j zero = rw bits_none
bits_length bytes j (suc k) = rw bits_more (ap suc (bits_length bytes (suc j) k))

bits_at : (bytes : List ℕ) (j k i : ℕ) → i < k → get_or (bits_from bytes j k) i false ≡ bit_at bytes (j + i)
bits_at bytes j zero i h = absurd (not-suc-le-zero h)
bits_at bytes j (suc k) zero h = rw bits_more (ap (bit_at bytes) (omega arith))
bits_at bytes j (suc k) (suc i) h =
    let e : suc j + i ≡ j + suc i = omega arith in
    rw bits_more (bits_at bytes (suc j) k i (omega arith) ∙ ap (bit_at bytes) e)

pub record_bits_length : (n : ℕ) (bytes : List ℕ) → length (record_bits n bytes) ≡ n
unfolding record_bits
record_bits_length n bytes = bits_length bytes 0 n

pub record_bit : (n : ℕ) (bytes : List ℕ) (j : ℕ) → j < n → get_or (record_bits n bytes) j false ≡ bit_at bytes j
unfolding record_bits
record_bit n bytes j h = bits_at bytes 0 n j h ∙ ap (bit_at bytes) (omega arith)

-- the bits of the records are read from the map that is written for them
pub bits_of_map : (n : ℕ) (bits : List Bool) (rest : List ℕ) → length bits ≡ n → record_bits n (map_bytes n bits ++ rest) ≡ bits
bits_of_map n bits rest e =
    let bytes = map_bytes n bits ++ rest in
    ext_get_or false (record_bits n bytes) bits (record_bits_length n bytes ∙ sym e)
    (λ j h.
    let l : j < n = omega (arith, record_bits_length n bytes) in
    record_bit n bytes j l ∙ map_bit n bits rest j (omega (arith, map_room n)))

-- and no bit stands at n or above
pub map_unpadded : (n : ℕ) (bits : List Bool) (rest : List ℕ) → length bits ≡ n → Unpadded n (map_bytes n bits ++ rest)
map_unpadded n bits rest e j h l = map_bit n bits rest j h ∙ get_or-eq_default bits false (omega arith)

-- every bit of an unpadded map is that of a record, or does not stand
unpadded_bit :
    (n : ℕ) (bytes : List ℕ) → Unpadded n bytes → (j : ℕ) → j < 8 * map_length n → get_or (record_bits n bytes) j false ≡ bit_at bytes j
unpadded_bit n bytes u j h = by_place (dec_lt j n)
  where
    by_place : Dec (j < n) → get_or (record_bits n bytes) j false ≡ bit_at bytes j
    by_place (yes l) = record_bit n bytes j l
    by_place (no f) =
        get_or-eq_default (record_bits n bytes) false (omega (arith, record_bits_length n bytes)) ∙ sym (u j h (omega arith))

-- an unpadded map is the map of the bits that are read from it
pub map_of_bits :
    (n : ℕ) (bytes : List ℕ) → Below 256 bytes → map_length n ≤ length bytes → Unpadded n bytes
    → map_bytes n (record_bits n bytes) ≡ take (map_length n) bytes
unfolding map_bytes
map_of_bits n bytes small long u =
    let bits = record_bits n bytes in
    sym
    (is_tabulate (map_length n) (map_byte bits) (take (map_length n) bytes) (length-take-le (map_length n) bytes long)
    (λ b h.
    get_or-take (map_length n) bytes b 0 h
    ∙ sym
    (map_byte_lem bits b
    ∙ pack_same _ _ 8 (λ i l. unpadded_bit n bytes u (8 * b + i) (omega arith) ∙ bit_digit bytes b i l)
    ∙ pack_of_bits (get_or bytes b 0) 8 (small b (omega arith)))))
