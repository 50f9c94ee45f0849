-- What is read of a list of zeros; a list whose numbers are all 0 is 0 past its end, too, and is a list of zeros.
use mathlib.Core.Path.{◌≡◌, refl, sym, ◌∙◌}
use mathlib.Core.List.{List}
use Prim.Native.Nat.{ℕ, zero, suc, ◌<◌}
use native.Mathlib.Decide.{dec_lt}
use native.Mathlib.Omega.{arith}
use lib.ListN.{length, get_or, replicate, length-replicate, get_or-eq_default}
use lib.Seq.{ext_get_or}
use Rattle.words.specs.Words.{Blank}

pub zeros_at : (n j : ℕ) → ◌≡◌ {A = ℕ} (get_or (replicate n 0) j 0) 0
zeros_at zero j = refl
zeros_at (suc n) zero = refl
zeros_at (suc n) (suc j) = zeros_at n j

pub blank_inside : (xs : List ℕ) → ((j : ℕ) → j < length xs → get_or xs j 0 ≡ 0) → Blank xs
blank_inside xs h j = by_place (dec_lt j (length xs))
  where
    by_place : Dec (j < length xs) → get_or xs j 0 ≡ 0
    by_place (yes l) = h j l
    by_place (no l) = get_or-eq_default xs 0 (omega arith)

-- numbers that are all 0
pub zeros_written : (k : ℕ) (xs : List ℕ) → length xs ≡ k → Blank xs → xs ≡ replicate k 0
zeros_written k xs long z =
    ext_get_or 0 xs (replicate k 0) (long ∙ sym (length-replicate k 0))
    (λ j h. z j ∙ sym (zeros_at k j))
