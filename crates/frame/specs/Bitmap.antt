-- 01, "Frame bytes": the bits of a bit map, and which of them stand. "The bit map is worked on as eight bytes, whichever n is
-- given": such a map is built from the front of a frame or from multipliers.
use Rattle.std.specs.Prelude.{◌≡◌, Bool, true, false, List, [], ◌∷◌, ◌++◌, ℕ, zero, suc, ◌+◌, ◌-◌, ◌*◌, ◌/◌, ◌%◌, ◌^◌, ◌≤◌, ◌<◌, get_or, take, replicate, eqb}
use Rattle.algebra.specs.Choice.{choose}
use Rattle.checks.specs.Largest.{largest}
use Rattle.field.specs.Written.{tabulate}
use Rattle.frame.specs.Format.{map_length, stands, map_byte}

-- bit j of the bit map at the front of the bytes
unfoldable pub bit_at : List ℕ → ℕ → Bool
bit_at bytes j = eqb (get_or bytes (j / 8) 0 / 2 ^ (j % 8) % 2) 1

-- bits j, j + 1, .., k of them
unfoldable pub bits_from : List ℕ → ℕ → ℕ → List Bool
bits_from bytes j zero = []
bits_from bytes j (suc k) = bit_at bytes j ∷ bits_from bytes (suc j) k

-- the bits of the n records
unfoldable pub record_bits : ℕ → List ℕ → List Bool
record_bits n bytes = bits_from bytes 0 n

-- the bits of a frame's whole map, padding included: eight for each of its bytes
unfoldable pub whole_map : ℕ → List ℕ → List Bool
whole_map n bytes = bits_from bytes 0 (8 * map_length n)

-- the number of standing bits
unfoldable pub standing : List Bool → ℕ
standing [] = 0
standing (b ∷ bs) = choose b 1 0 + standing bs

-- no bit of the first k stands at n or above
abbrev pub ClearFrom : (n k : ℕ) → List ℕ → Type 0
ClearFrom n k bytes = (j : ℕ) → j < k → n ≤ j → bit_at bytes j ≡ false

-- a bit of the first k stands at n or above
abbrev pub StandsFrom : (n k : ℕ) → List ℕ → Type 0
StandsFrom n k bytes = (j : ℕ) × (n ≤ j) × (j < k) × (bit_at bytes j ≡ true)

-- no bit of a frame's map stands at n or above
abbrev pub Unpadded : ℕ → List ℕ → Type 0
Unpadded n bytes = ClearFrom n (8 * map_length n) bytes

-- ---- the map as eight bytes

-- the map whose first len bytes stand at the front of the bytes; the others are 0
unfoldable pub map_from : ℕ → List ℕ → List ℕ
map_from len bytes = take len bytes ++ replicate (8 - len) 0

-- the map of multipliers, whose bits stand where they are not 0
unfoldable pub map_of : List ℕ → List ℕ
map_of xs = tabulate 8 (map_byte (stands xs))

-- all of its bits, one for every record that there can be
abbrev pub map_bits : List ℕ → List Bool
map_bits map = record_bits largest map
