-- Numbers as decimal digits, each number as its list of ASCII bytes.
use Rattle.std.specs.Prelude.{List, [], ◌∷◌, ◌++◌, ℕ, zero, suc, ◌+◌, ◌-◌, ◌*◌, ◌/◌, ◌%◌, ltb, ℤ, pos, negsuc}
use Rattle.algebra.specs.Choice.{choose}

-- the digit d, "0" to "9" for 0 to 9
abbrev pub digit : ℕ → ℕ
digit d = 48 + d

-- the digits of n, most significant first: below 10 the one digit, from 10 on those of n / 10 and then the last.
-- The first number bounds how many there are.
unfoldable pub digits_within : ℕ → ℕ → List ℕ
digits_within zero n = []
digits_within (suc k) n =
    let longer : List ℕ = digits_within k (n / 10) ++ digit (n % 10) ∷ [] in
    choose (ltb n 10) (digit n ∷ []) longer

-- the shortest decimal digits of n, "0" for 0: there are at most n + 1
unfoldable pub decimal : ℕ → List ℕ
decimal n = digits_within (suc n) n

-- the number that decimal digits give, read from the left
unfoldable pub read_digits : ℕ → List ℕ → ℕ
read_digits n [] = n
read_digits n (d ∷ ds) = read_digits (n * 10 + (d - 48)) ds

-- "-"
unfoldable pub minus : List ℕ
minus = 45 ∷ []

-- a number with a sign: a minus before a negative one
unfoldable pub signed_decimal : ℤ → List ℕ
signed_decimal (pos n) = decimal n
signed_decimal (negsuc n) = minus ++ decimal (suc n)
