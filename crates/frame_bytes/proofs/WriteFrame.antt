-- The writer's three steps, one behind the other, leave the frame at the front of the lent bytes and the rest as it was. The
-- lent bytes have room for each step, since no frame is longer than the longest one.
use mathlib.Core.Path.{◌≡◌, refl, ap, ◌∙◌}
use mathlib.Core.List.{List, ◌∷◌, ◌++◌}
use Prim.Native.Nat.{ℕ, zero, suc, ◌+◌, ◌*◌, ◌≤◌}
use native.Mathlib.Nat.{mul-le-mul_right}
use native.Mathlib.Omega.{arith}
use lib.ListN.{length, take, length-append}
use Rattle.codec.specs.Placed.{placed}
use Rattle.codec.proofs.Placed.{placed_length, placed_next}
use Rattle.field.specs.Written.{tabulate}
use Rattle.frame.specs.Format.{map_length, longest, stands, map_byte, map_bytes, packed, value_bytes, frame_in}
use Rattle.frame.specs.Bitmap.{standing, map_of, map_bits}
use Rattle.frame.proofs.Widths.{few_bytes}
use Rattle.frame.proofs.Bytes.{value_bytes_length}
use Rattle.frame.proofs.RoundMap.{map_length_lem}
use Rattle.frame_bytes.proofs.WriteNumbers.{packed_length, packed_short}
use Rattle.frame_bytes.proofs.WriteMap.{standing_of}

take_tabulate : (k n : ℕ) (f : ℕ → ℕ) → k ≤ n → take k (tabulate n f) ≡ tabulate k f
unfolding tabulate
take_tabulate zero n f h = refl
take_tabulate (suc k) zero f h = absurd (omega arith)
take_tabulate (suc k) (suc n) f h = ap (λ (bs : List ℕ). f 0 ∷ bs) (take_tabulate k n (λ i. f (suc i)) (omega arith))

-- the map of up to 64 records has at most eight bytes, and is the front of the map as eight bytes
pub map_short : (n : ℕ) → n ≤ 64 → map_length n ≤ 8
unfolding map_length
map_short n h = omega arith

pub map_front : (n : ℕ) (xs : List ℕ) → n ≤ 64 → take (map_length n) (map_of xs) ≡ map_bytes n (stands xs)
unfolding map_bytes map_of
map_front n xs h = take_tabulate (map_length n) 8 (map_byte (stands xs)) (map_short n h)

module _
    (w n : ℕ) (xs vs : List ℕ) (few : w ≤ 4) (size : n ≤ 64) (long : length xs ≡ n) (old : List ℕ) (lent : length old ≡ longest (length vs))
  where
    abbrev with_map : List ℕ
    with_map = placed 0 (map_bytes n (stands xs)) old

    abbrev with_numbers : List ℕ
    with_numbers = placed (map_length n) (packed w xs) with_map

    -- the lent bytes keep their length, so every step has room
    map_long : length with_map ≡ longest (length vs)
    unfolding longest
    map_long = placed_length 0 (map_bytes n (stands xs)) old (omega (arith, map_length_lem n (stands xs), map_short n size)) ∙ lent

    -- as many numbers as there are records have at most 256 bytes
    numbers_short : w * length xs ≤ 256
    numbers_short = few_bytes w (length xs) few (omega arith)

    pub numbers_room : map_length n + w * length xs ≤ length with_map
    unfolding longest
    numbers_room = omega (arith, map_long, map_short n size, numbers_short)

    numbers_long : length with_numbers ≡ longest (length vs)
    numbers_long =
        placed_length (map_length n) (packed w xs) with_map (omega (arith, packed_short w xs, numbers_room)) ∙ map_long

    -- the steps put the frame at once
    front : with_numbers ≡ placed 0 (map_bytes n (stands xs) ++ packed w xs) old
    front =
        let map = map_bytes n (stands xs) in
        let at : map_length n ≡ 0 + length map = omega (arith, map_length_lem n (stands xs)) in
        ap (λ (k : ℕ). placed k (packed w xs) with_map) at
        ∙ placed_next 0 map (packed w xs) old (omega arith)

    parts : frame_in w n xs vs ≡ map_bytes n (stands xs) ++ packed w xs ++ value_bytes w vs
    unfolding frame_in
    parts = refl

    -- the values stand where the map's count says
    module _ (count : ℕ) (counted : count ≡ standing (map_bits (map_of xs))) where
      place : map_length n + w * count ≡ map_length n + length (packed w xs)
      place = rw (counted, standing_of xs (omega arith), packed_length)

      pub values_room : map_length n + w * count + w * length vs ≤ length with_numbers
      unfolding longest
      values_room =
          omega (arith, place, numbers_long, map_short n size, packed_short w xs, numbers_short, mul-le-mul_right (length vs) few)

      -- and what is left is the frame, and behind it what stood there
      pub frame_written : placed (map_length n + w * count) (value_bytes w vs) with_numbers ≡ placed 0 (frame_in w n xs vs) old
      frame_written =
          let done = map_bytes n (stands xs) ++ packed w xs in
          let at : map_length n + w * count ≡ 0 + length done =
          omega (arith, place, map_length_lem n (stands xs), length-append (map_bytes n (stands xs)) (packed w xs)) in
          rw (front, at, parts) (placed_next 0 done (value_bytes w vs) old (omega arith))

      pub frame_end : map_length n + w * count + w * length vs ≡ 0 + length (frame_in w n xs vs)
      frame_end = rw (place, parts, length-append, length-append, map_length_lem, value_bytes_length w vs) (omega arith)
