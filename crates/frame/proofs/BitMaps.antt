-- The map of eight bytes and the bytes that it was built from: the same bits where the bytes reach and none past them. So as many
-- stand as in the frame's whole map; none stands at n or above exactly if the bytes are unpadded, and then all are the records'.
use mathlib.Core.Path.{◌≡◌, refl, sym, ap, ◌∙◌}
use mathlib.Core.Bool.{false}
use mathlib.Core.List.{List, ◌++◌}
use Prim.Native.Nat.{ℕ, zero, suc, ◌+◌, ◌*◌, ◌-◌, ◌/◌, ◌≤◌, ◌<◌}
use native.Mathlib.Nat.{add-zero, zero-add, zero-div}
use native.Mathlib.Decide.{dec_lt}
use native.Mathlib.Omega.{arith}
use lib.ListN.{length, get_or, take, drop, replicate, get_or-append}
use lib.Seq.{length-take-le, get_or-append-add, get_or-take}
use Rattle.checks.specs.Largest.{largest}
use Rattle.codec.specs.Placed.{placed}
use Rattle.codec.proofs.Placed.{placed_front}
use Rattle.frame.specs.Width.{width}
use Rattle.frame.specs.Format.{map_length}
use Rattle.frame.specs.Bitmap.{bit_at, standing, record_bits, whole_map, ClearFrom, Unpadded, map_from, map_bits}
use Rattle.frame.specs.Reading.{frame_length}
use Rattle.frame.proofs.Bits.{count, count_record_bits, count_whole_map, count_small, count_runs, count_clear, bits_agree}

-- ---- building the map

same : (m n : ℕ) → m ≡ n → replicate {A = ℕ} m 0 ≡ replicate n 0
same m n e = ap (λ (k : ℕ). replicate {A = ℕ} k 0) e

drop_zeros : (k n : ℕ) → drop {A = ℕ} k (replicate n 0) ≡ replicate (n - k) 0
drop_zeros zero n = same n (n - 0) (omega arith)
drop_zeros (suc k) zero = same 0 (0 - suc k) (omega arith)
drop_zeros (suc k) (suc n) = drop_zeros k n ∙ same (n - k) (suc n - suc k) (omega arith)

-- the front of the bytes, put at the front of eight zeros
pub map_put : (len : ℕ) (bytes : List ℕ) → len ≤ length bytes → placed 0 (take len bytes) (replicate 8 0) ≡ map_from len bytes
unfolding map_from
map_put len bytes h = placed_front (take len bytes) (replicate 8 0) ∙ rw (length-take-le len bytes h, drop_zeros len 8)

-- ---- what stands in it

zeros_at : (n i : ℕ) → ◌≡◌ {A = ℕ} (get_or (replicate n 0) i 0) 0
zeros_at zero i = refl
zeros_at (suc n) zero = refl
zeros_at (suc n) (suc i) = zeros_at n i

module _ (len : ℕ) (bytes : List ℕ) (fits : len ≤ length bytes) where
  map_at : (i : ℕ) → i < len → get_or (map_from len bytes) i 0 ≡ get_or bytes i 0
  unfolding map_from
  map_at i h =
      let l : i < length (take len bytes) = rw (length-take-le len bytes fits) h in
      get_or-append (take len bytes) (replicate (8 - len) 0) 0 i l ∙ get_or-take len bytes i 0 h

  map_past : (i : ℕ) → len ≤ i → get_or (map_from len bytes) i 0 ≡ 0
  unfolding map_from
  map_past i h =
      let place : i ≡ length (take len bytes) + (i - len) = omega (arith, length-take-le len bytes fits) in
      ap (λ (k : ℕ). get_or (take len bytes ++ replicate (8 - len) 0) k 0) place
      ∙ get_or-append-add (take len bytes) (replicate (8 - len) 0) (i - len) 0
      ∙ zeros_at (8 - len) (i - len)

  bit_of_map : (j : ℕ) → j < 8 * len → bit_at (map_from len bytes) j ≡ bit_at bytes j
  unfolding bit_at
  bit_of_map j h = rw (map_at (j / 8) (omega arith))

  bit_past_map : (j : ℕ) → 8 * len ≤ j → bit_at (map_from len bytes) j ≡ false
  unfolding bit_at
  bit_past_map j h = rw (map_past (j / 8) (omega arith), zero-div)

-- ---- its standing bits

pub standing_small : (map : List ℕ) → standing (map_bits map) ≤ largest
standing_small map = rw count_record_bits (count_small map 0 64)

-- where none of the first k stands at n or above, as many stand as of the first n
count_first : (n k : ℕ) (bytes : List ℕ) → n ≤ k → ClearFrom n k bytes → count bytes 0 k ≡ count bytes 0 n
count_first n k bytes small clear =
    let all : k ≡ n + (k - n) = omega arith in
    let none = count_clear bytes n (k - n) (λ j h l. clear j (omega arith) h) in
    ap (count bytes 0) all ∙ count_runs bytes 0 n (k - n) ∙ rw (zero-add n, none, add-zero)

-- where none stands at n or above, the standing bits of the map are those of the first n
pub standing_first : (n : ℕ) (map : List ℕ) → n ≤ largest → ClearFrom n largest map → standing (map_bits map) ≡ standing (record_bits n map)
standing_first n map small clear = rw (count_record_bits largest map, count_record_bits n map) (count_first n largest map small clear)

-- and those of a frame's whole map are those of its records, so that they tell the same length
unpadded_standing : (n : ℕ) (bytes : List ℕ) → Unpadded n bytes → standing (whole_map n bytes) ≡ standing (record_bits n bytes)
unfolding map_length
unpadded_standing n bytes clear =
    rw (count_whole_map, count_record_bits) (count_first n (8 * map_length n) bytes (omega arith) (λ j h l. clear j (omega arith) l))

-- the length that the records' bits tell
abbrev pub record_length : (p n s : ℕ) → List ℕ → ℕ
record_length p n s bytes = map_length n + width p * standing (record_bits n bytes) + width p * s

pub unpadded_length : (p n s : ℕ) (bytes : List ℕ) → Unpadded n bytes → frame_length p n s bytes ≡ record_length p n s bytes
unfolding frame_length
unpadded_length p n s bytes clear = ap (λ (k : ℕ). map_length n + width p * k + width p * s) (unpadded_standing n bytes clear)

-- ---- the map of the front of a frame of n records

module _ (n : ℕ) (bytes : List ℕ) (fits : map_length n ≤ length bytes) where
  -- the records' bits are in the map as they are in the bytes
  pub map_record_bits : record_bits n (map_from (map_length n) bytes) ≡ record_bits n bytes
  unfolding record_bits map_length
  map_record_bits =
      bits_agree (map_from (map_length n) bytes) bytes 0 n
      (λ i _ h. bit_of_map (map_length n) bytes fits i (omega arith))

  -- as many bits stand in it as in the frame's whole map
  pub standing_whole : n ≤ largest → standing (map_bits (map_from (map_length n) bytes)) ≡ standing (whole_map n bytes)
  unfolding map_length whole_map count
  standing_whole small =
      let map = map_from (map_length n) bytes in
      let k = 8 * map_length n in
      let agree = bits_agree map bytes 0 k (λ i _ h. bit_of_map (map_length n) bytes fits i (omega arith)) in
      let beyond : ClearFrom k largest map = λ j _ h. bit_past_map (map_length n) bytes fits j h in
      count_record_bits largest map ∙ count_first k largest map (omega arith) beyond ∙ ap standing agree

  -- none stands at n or above exactly if the bytes are unpadded
  pub clear_unpadded : n ≤ largest → ClearFrom n largest (map_from (map_length n) bytes) → Unpadded n bytes
  unfolding map_length
  clear_unpadded small clear j h l = sym (bit_of_map (map_length n) bytes fits j (omega arith)) ∙ clear j (omega arith) l

  pub unpadded_clear : Unpadded n bytes → ClearFrom n largest (map_from (map_length n) bytes)
  unpadded_clear clear j _ l = by_place (dec_lt j (8 * map_length n))
    where
      by_place : Dec (j < 8 * map_length n) → bit_at (map_from (map_length n) bytes) j ≡ false
      by_place (yes k) = bit_of_map (map_length n) bytes fits j k ∙ clear j (omega arith) l
      by_place (no k) = bit_past_map (map_length n) bytes fits j (omega arith)
