-- Numbers as bytes, most significant first, in as many bytes as are asked for: 02, #111, "from 1 to 4, most significant first", and the
-- sheet's "p and lengths have the most significant byte first".
use Rattle.std.specs.Prelude.{List, [], ◌∷◌, ℕ, zero, suc, ◌+◌, ◌*◌, ◌/◌, ◌%◌, ◌^◌, take, drop}

-- the last k bytes of x
unfoldable pub bytes_of : ℕ → ℕ → List ℕ
bytes_of zero x = []
bytes_of (suc k) x = x / 256 ^ k % 256 ∷ bytes_of k x

-- the number whose bytes these are, behind the number read so far
unfoldable pub number_from : ℕ → List ℕ → ℕ
number_from acc [] = acc
number_from acc (b ∷ bs) = number_from (acc * 256 + b) bs

-- the number whose k bytes stand at a place
unfoldable pub number_at : ℕ → List ℕ → ℕ → ℕ
number_at k bytes at = number_from 0 (take k (drop at bytes))
