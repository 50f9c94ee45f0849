-- Frames go round: what is written reads as what it was written from, and a frame that is read is the one that is written for
-- what was read. So the frames that reading accepts are exactly those that some multipliers and values write. The map, the numbers
-- and the bytes have their laws in RoundMap, RoundNumbers and Bytes; how long a frame is stands in Lengths.
use mathlib.Core.Path.{◌≡◌, sym, ap, ◌∙◌}
use mathlib.Core.Logic.{◌↔◌}
use mathlib.Core.List.{List, ◌++◌, append_assoc}
use Prim.Native.Nat.{ℕ, ◌+◌, ◌*◌, ◌^◌, ◌<◌, ◌≤◌}
use native.Mathlib.Omega.{arith}
use lib.ListN.{length, take, drop, length-append, length-drop, take-append-drop}
use lib.Seq.{drop_at, drop-drop}
use Rattle.checks.specs.Prime.{IsModulus}
use Rattle.checks.proofs.InOrder.{in_order_done, in_order_elim, ◌and_then◌}
use Rattle.words.specs.Words.{Below}
use Rattle.codec.proofs.BigEndian.{below_drop}
use Rattle.frame.specs.Width.{width}
use Rattle.frame.specs.Format.{map_length, stands, map_bytes, value_bytes, frame_in, frame_of}
use Rattle.frame.specs.Bitmap.{standing, record_bits, Unpadded}
use Rattle.frame.specs.Reading.{accepted, frame_length, frame_numbers, frame_multipliers, frame_values, read_frame}
use Rattle.frame.proofs.Widths.{width_fits}
use Rattle.frame.proofs.BitMaps.{record_length, unpadded_length}
use Rattle.frame.proofs.Bytes.{value_bytes_length, numbers_length, numbers_of_values, numbers_of_all, values_of_numbers, all_of_numbers}
use Rattle.frame.proofs.RoundMap.{map_length_lem, bits_of_map, map_unpadded, map_of_bits, record_bits_length}
use Rattle.frame.proofs.RoundNumbers.{kept, packed_kept, standing_kept, stands_length, spread_kept, kept_below, kept_positive}
use Rattle.frame.proofs.RoundNumbers.{spread_length, spread_below, spread_stands, GoodNumbers, good_of_given, good_hold}

-- ---- a frame in three parts

-- numbers below a modulus fit its bytes
numbers_fit : (p : ℕ) (xs : List ℕ) → p ≤ 2147483647 → Below p xs → Below (256 ^ width p) xs
numbers_fit p xs range below i h = omega (arith, width_fits p range, below i h)

module _ (w n : ℕ) (xs vs : List ℕ) where
  -- the bit map, the multipliers that are not 0, the values
  pub frame_parts : frame_in w n xs vs ≡ map_bytes n (stands xs) ++ (value_bytes w (kept xs) ++ value_bytes w vs)
  unfolding frame_in
  frame_parts =
      let map = map_bytes n (stands xs) in
      ap (λ (ys : List ℕ). map ++ ys ++ value_bytes w vs) (packed_kept w xs)
      ∙ append_assoc map (value_bytes w (kept xs)) (value_bytes w vs)

  pub frame_length_lem : length (frame_in w n xs vs) ≡ map_length n + w * length (kept xs) + w * length vs
  frame_length_lem =
      rw (frame_parts, length-append, length-append, map_length_lem, value_bytes_length w (kept xs), value_bytes_length w vs) (omega arith)

  -- its map is that of the multipliers, whatever the width
  module _ (long : length xs ≡ n) where
    written_bits : record_bits n (frame_in w n xs vs) ≡ stands xs
    written_bits = rw frame_parts (bits_of_map n (stands xs) _ (stands_length xs ∙ long))

    pub written_unpadded : Unpadded n (frame_in w n xs vs)
    written_unpadded = rw frame_parts (map_unpadded n (stands xs) _ (stands_length xs ∙ long))

-- ---- written frames are read

-- the length that the map of a frame of any width and of any number of values tells a reader who expects s values
pub told_length : (p w n s : ℕ) (xs vs : List ℕ) → length xs ≡ n
    → frame_length p n s (frame_in w n xs vs) ≡ map_length n + width p * length (kept xs) + width p * s
told_length p w n s xs vs long =
    unpadded_length p n s (frame_in w n xs vs) (written_unpadded w n xs vs long) ∙ rw (written_bits w n xs vs long, standing_kept)

-- the numbers that are read are those kept
pub written_numbers : (p n : ℕ) (xs vs : List ℕ) → length xs ≡ n → Below (256 ^ width p) xs → frame_numbers p n (frame_of p n xs vs) ≡ kept xs
unfolding frame_numbers
written_numbers p n xs vs long fit =
    let w = width p in
    rw (written_bits w n xs vs long, standing_kept, frame_parts, drop_at (map_bytes n (stands xs)) _ (map_length n) (map_length_lem n (stands xs)))
    (numbers_of_values w (kept xs) (value_bytes w vs) (kept_below (256 ^ w) xs fit))

module _ (p n s : ℕ) (xs vs : List ℕ) (long : length xs ≡ n) (values_long : length vs ≡ s) where
  abbrev w : ℕ
  w = width p

  pub written_length : length (frame_of p n xs vs) ≡ frame_length p n s (frame_of p n xs vs)
  written_length =
      frame_length_lem w n xs vs ∙ ap (λ (k : ℕ). map_length n + w * length (kept xs) + w * k) values_long ∙ sym (told_length p w n s xs vs long)

  -- and the values
  pub written_values : Below (256 ^ width p) vs → frame_values p n s (frame_of p n xs vs) ≡ vs
  unfolding frame_values
  written_values fit =
      let front = map_bytes n (stands xs) ++ value_bytes w (kept xs) in
      let reach : length front ≡ map_length n + w * length (kept xs) =
      length-append (map_bytes n (stands xs)) (value_bytes w (kept xs)) ∙ rw (map_length_lem, value_bytes_length) in
      let joined = append_assoc (map_bytes n (stands xs)) (value_bytes w (kept xs)) (value_bytes w vs) in
      let dropped = drop_at front (value_bytes w vs) (map_length n + w * length (kept xs)) reach in
      rw (written_bits w n xs vs long, standing_kept, frame_parts, ← joined, dropped, ← values_long) (numbers_of_all w vs fit)

-- n multipliers and s values, all below p
pub record Numbers (p n s : ℕ) (xs vs : List ℕ) : Type 0 where
  pub long : length xs ≡ n
  pub below : Below p xs
  pub values_long : length vs ≡ s
  pub values_below : Below p vs

-- what is written for multipliers and values below p passes all checks, and reads as these multipliers and these values
pub written_reads_back : (p n s : ℕ) (xs vs : List ℕ) → p ≤ 2147483647 → Numbers p n s xs vs → read_frame p n s (frame_of p n xs vs) ≡ accepted xs vs
unfolding read_frame frame_multipliers
written_reads_back p n s xs vs range g =
    let numbers = written_numbers p n xs vs g.long (numbers_fit p xs range g.below) in
    let values = written_values p n s xs vs g.long g.values_long (numbers_fit p vs range g.values_below) in
    let good = good_hold p (kept xs) vs (record { positive = kept_positive xs; below = kept_below p xs g.below; values_below = g.values_below }) in
    in_order_done _ _ _
    ((omega (arith, frame_length_lem (width p) n xs vs)) and_then written_length p n s xs vs g.long g.values_long
    and_then written_unpadded (width p) n xs vs g.long
    and_then rw (numbers, values) good)
    (λ _. rw (numbers, values, written_bits (width p) n xs vs g.long, spread_kept))

-- ---- frames that are read are written

-- the bytes are what n multipliers and s values, all below p, write
pub record Writes (p n s : ℕ) (xs vs bytes : List ℕ) : Type 0 where
  pub numbers : Numbers p n s xs vs
  pub bytes_are : frame_of p n xs vs ≡ bytes

-- what an accepted frame has passed, and what is found in it
record Sound (p n s : ℕ) (bytes xs vs : List ℕ) : Type 0 where
  map_fits : map_length n ≤ length bytes
  right_length : length bytes ≡ frame_length p n s bytes
  unpadded : Unpadded n bytes
  passed : GoodNumbers p (frame_numbers p n bytes) (frame_values p n s bytes)
  multipliers : frame_multipliers p n bytes ≡ xs
  values : frame_values p n s bytes ≡ vs

accepted_sound : (p n s : ℕ) (bytes xs vs : List ℕ) → read_frame p n s bytes ≡ accepted xs vs → Sound p n s bytes xs vs
unfolding read_frame
accepted_sound p n s bytes xs vs =
    in_order_elim _ _ (λ f. f ≡ accepted xs vs → Sound p n s bytes xs vs)
    (λ hs e.
    record {
      map_fits = hs.0;
      right_length = hs.1.0;
      unpadded = hs.1.1.0;
      passed = good_of_given p (frame_numbers p n bytes) (frame_values p n s bytes) hs.1.1.1;
      multipliers = cc;
      values = cc;
    })
    (λ k _ e. absurd (let z : ◌≡◌ {A = ℕ} 0 1 = cc in omega arith))

-- what reading accepts is what is found in the bytes
pub accepted_found : (p n s : ℕ) (bytes xs vs : List ℕ) → read_frame p n s bytes ≡ accepted xs vs
    → (frame_multipliers p n bytes ≡ xs) × (frame_values p n s bytes ≡ vs)
accepted_found p n s bytes xs vs e = let f = accepted_sound p n s bytes xs vs e in (f.multipliers, f.values)

-- n multipliers and s values
pub accepted_lengths : (p n s : ℕ) (bytes xs vs : List ℕ) → read_frame p n s bytes ≡ accepted xs vs → (length xs ≡ n) × (length vs ≡ s)
unfolding frame_multipliers frame_values
accepted_lengths p n s bytes xs vs e =
    let f = accepted_sound p n s bytes xs vs e in (
      rw (← f.multipliers) (spread_length (record_bits n bytes) (frame_numbers p n bytes) ∙ record_bits_length n bytes),
      rw (← f.values) (numbers_length (width p) s _),
    )

-- all below p, those that are not sent being 0
pub accepted_numbers : (p n s : ℕ) (bytes xs vs : List ℕ) → 0 < p → read_frame p n s bytes ≡ accepted xs vs → Numbers p n s xs vs
unfolding frame_multipliers
accepted_numbers p n s bytes xs vs positive e =
    let f = accepted_sound p n s bytes xs vs e in
    let g = f.passed in
    let long = accepted_lengths p n s bytes xs vs e in
    let values : Below p vs = rw f.values at g.values_below in
    record {
      long = long.0;
      below = rw (← f.multipliers) (spread_below p (record_bits n bytes) (frame_numbers p n bytes) positive g.below);
      values_long = long.1;
      values_below = values;
    }

-- the last bytes of a frame of the length that its records' bits tell are those of its values
value_bytes_lem :
    (p n s : ℕ) (bytes : List ℕ) → Below 256 bytes → length bytes ≡ record_length p n s bytes
    → value_bytes (width p) (frame_values p n s bytes) ≡ drop (map_length n + width p * standing (record_bits n bytes)) bytes
unfolding frame_values
value_bytes_lem p n s bytes small e =
    let at = map_length n + width p * standing (record_bits n bytes) in
    let last : length (drop at bytes) ≡ width p * s = omega (arith, length-drop at bytes) in
    all_of_numbers (width p) s (drop at bytes) (below_drop 256 at bytes small) last

-- and the bytes between are those of its numbers
number_bytes :
    (p n s : ℕ) (bytes : List ℕ) → Below 256 bytes → length bytes ≡ record_length p n s bytes
    → value_bytes (width p) (frame_numbers p n bytes) ≡ take (width p * standing (record_bits n bytes)) (drop (map_length n) bytes)
unfolding frame_numbers
number_bytes p n s bytes small e =
    values_of_numbers (width p) (standing (record_bits n bytes)) (drop (map_length n) bytes) (below_drop 256 (map_length n) bytes small)
    (omega (arith, length-drop (map_length n) bytes))

counted : (p n : ℕ) (bytes : List ℕ) → length (frame_numbers p n bytes) ≡ standing (record_bits n bytes)
unfolding frame_numbers
counted p n bytes = numbers_length (width p) (standing (record_bits n bytes)) (drop (map_length n) bytes)

-- a frame that reads as multipliers and values has the bytes that they write
pub accepted_bytes : (p n s : ℕ) (bytes xs vs : List ℕ) → Below 256 bytes → read_frame p n s bytes ≡ accepted xs vs → frame_of p n xs vs ≡ bytes
unfolding frame_multipliers
accepted_bytes p n s bytes xs vs small e =
    let f = accepted_sound p n s bytes xs vs e in
    let bits = record_bits n bytes in
    let ns = frame_numbers p n bytes in
    let again = spread_stands bits ns (counted p n bytes) f.passed.positive in
    let m = map_length n in
    let k = width p * standing bits in
    let l = f.right_length ∙ unpadded_length p n s bytes f.unpadded in
    let map = map_of_bits n bytes small f.map_fits f.unpadded in
    let whole : take m bytes ++ (take k (drop m bytes) ++ drop (m + k) bytes) ≡ bytes =
    rw (← (drop-drop k m bytes), take-append-drop k (drop m bytes)) (take-append-drop m bytes) in
    frame_parts (width p) n xs vs
    ∙ rw (← f.multipliers, ← f.values, again.0, again.1, map, number_bytes p n s bytes small l, value_bytes_lem p n s bytes small l) whole

-- so it is what they write
pub accepted_rewrites :
    (p n s : ℕ) (bytes xs vs : List ℕ) → 0 < p → Below 256 bytes → read_frame p n s bytes ≡ accepted xs vs → Writes p n s xs vs bytes
accepted_rewrites p n s bytes xs vs positive small e =
    record { numbers = accepted_numbers p n s bytes xs vs positive e; bytes_are = accepted_bytes p n s bytes xs vs small e }

-- reading accepts exactly what is written, and finds exactly what it is written from
pub accepted_as : (p n s : ℕ) (bytes xs vs : List ℕ) → IsModulus p → Below 256 bytes
    → (read_frame p n s bytes ≡ accepted xs vs) ↔ Writes p n s xs vs bytes
accepted_as p n s bytes xs vs ok small = (
  accepted_rewrites p n s bytes xs vs (omega (arith, ok.prime.two_or_more)) small,
  λ w. rw (← w.bytes_are) (written_reads_back p n s xs vs ok.in_range w.numbers),
)

-- a frame is accepted exactly if it is what some multipliers and values write
pub accepted_exactly :
    (p n s : ℕ) (bytes : List ℕ) → IsModulus p → Below 256 bytes
    → ((xs vs : List ℕ) × (read_frame p n s bytes ≡ accepted xs vs)) ↔ ((xs vs : List ℕ) × Writes p n s xs vs bytes)
accepted_exactly p n s bytes ok small = (
  λ a. (a.0, a.1, (accepted_as p n s bytes a.0 a.1 ok small).0 a.2),
  λ w. (w.0, w.1, (accepted_as p n s bytes w.0 w.1 ok small).1 w.2),
)
