-- 01, "Frame bytes", with 02, #103 and #111: what the bytes of a frame are, from its multipliers and its values.
use Rattle.std.specs.Prelude.{Bool, false, not, List, [], ◌∷◌, ◌++◌, map, ℕ, zero, suc, ◌+◌, ◌*◌, ◌/◌, get_or, eqb}
use Rattle.algebra.specs.Choice.{choose}
use Rattle.codec.specs.BigEndian.{bytes_of}
use Rattle.field.specs.Written.{tabulate}
use Rattle.frame.specs.Width.{width}

-- the bytes of the bit map of n records: (n + 7)/8, rounded down
unfoldable pub map_length : ℕ → ℕ
map_length n = (n + 7) / 8

-- the longest frame with s words a record, 64 records with a multiplier each and s values, all of four bytes; what writing is lent,
-- whatever the modulus: "writing takes s and lends exactly 264 + 4 × s bytes" (02, #103), "the lent 264 + 4 × s bytes stay" (02, #111)
unfoldable pub longest : (s : ℕ) → ℕ
longest s = 264 + 4 * s

-- the most bytes that a frame of n records modulo p has: its map, a multiplier for each record, and s values
unfoldable pub most_bytes : (p n s : ℕ) → ℕ
most_bytes p n s = map_length n + width p * n + width p * s

-- record j's bit stands where its multiplier is not 0
unfoldable pub stands : List ℕ → List Bool
stands = map (λ x. not (eqb x 0))

-- byte b of the bit map: record j owns bit j mod 8 of byte j/8, bit 0 being the least
unfoldable pub map_byte : List Bool → ℕ → ℕ
map_byte bits b = octet 8 0
  where
    -- the first k bits from bit i of the byte on
    octet : ℕ → ℕ → ℕ
    octet zero i = 0
    octet (suc k) i = choose (get_or bits (8 * b + i) false) 1 0 + 2 * octet k (suc i)

unfoldable pub map_bytes : ℕ → List Bool → List ℕ
map_bytes n bits = tabulate (map_length n) (map_byte bits)

-- the multipliers under standing bits, rising j, each as w bytes
unfoldable pub packed : ℕ → List ℕ → List ℕ
packed w [] = []
packed w (x ∷ xs) = choose (eqb x 0) [] (bytes_of w x) ++ packed w xs

-- the values, each as w bytes
unfoldable pub value_bytes : ℕ → List ℕ → List ℕ
value_bytes w [] = []
value_bytes w (v ∷ vs) = bytes_of w v ++ value_bytes w vs

-- the frame of n multipliers and its values with numbers of w bytes: the bit map, the multipliers under standing bits, the values
unfoldable pub frame_in : (w n : ℕ) → List ℕ → List ℕ → List ℕ
frame_in w n xs vs = map_bytes n (stands xs) ++ packed w xs ++ value_bytes w vs

-- the frame modulo p: "A number in a frame now has the fewest bytes that hold p - 1"
abbrev pub frame_of : (p n : ℕ) → List ℕ → List ℕ → List ℕ
frame_of p n xs vs = frame_in (width p) n xs vs
