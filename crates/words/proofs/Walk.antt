-- A loop that goes over a list from the front and writes one number a turn: what it has written, and what it has left.
use mathlib.Core.Path.{◌≡◌, refl, ◌∙◌}
use mathlib.Core.List.{List}
use Prim.Native.Nat.{ℕ, ◌+◌, ◌<◌, ◌≤◌}
use native.Mathlib.Decide.{dec_lt}
use native.Mathlib.Omega.{arith}
use lib.ListN.{length, get_or, set, length-set}
use lib.Seq.{get_or-set_same, get_or-set_other}
use borrow.Author.Count.{below_more}

-- after has g's numbers at its first n places, and the numbers of before at the others
pub record Walked (n : ℕ) (g : ℕ → ℕ) (before after : List ℕ) : Type 0 where
  pub long : length after ≡ length before
  pub passed : (j : ℕ) → j < n → get_or after j 0 ≡ g j
  pub left : (j : ℕ) → n ≤ j → get_or after j 0 ≡ get_or before j 0

pub walked_none : (g : ℕ → ℕ) (xs : List ℕ) → Walked 0 g xs xs
walked_none g xs = record { long = refl; passed = λ j h. omega arith; left = λ j h. refl }

-- places that have g's numbers already
pub walked_front : (n : ℕ) (g : ℕ → ℕ) (xs : List ℕ) → ((j : ℕ) → j < n → get_or xs j 0 ≡ g j) → Walked n g xs xs
walked_front n g xs e = record { long = refl; passed = e; left = λ j h. refl }

-- one place more
pub walked_more : (n : ℕ) (g : ℕ → ℕ) (xs ys : List ℕ) (v : ℕ) → Walked n g xs ys → n < length xs → v ≡ g n → Walked (n + 1) g xs (set ys n v)
walked_more n g xs ys v w h e =
    record {
      long = length-set ys n v ∙ w.long;
      passed =
          below_more (λ j. get_or (set ys n v) j 0 ≡ g j) n (λ j k. get_or-set_other ys n j v 0 (omega arith) ∙ w.passed j k)
          (get_or-set_same ys n v 0 (omega arith) ∙ e);
      left = λ j k. get_or-set_other ys n j v 0 (omega arith) ∙ w.left j (omega arith);
    }

-- or one that has g's number already
pub walked_same : (n : ℕ) (g : ℕ → ℕ) (xs ys : List ℕ) → Walked n g xs ys → get_or xs n 0 ≡ g n → Walked (n + 1) g xs ys
walked_same n g xs ys w e =
    record {
      long = w.long;
      passed = below_more (λ j. get_or ys j 0 ≡ g j) n w.passed (w.left n (omega arith) ∙ e);
      left = λ j k. w.left j (omega arith);
    }

-- where g agrees with before past n, after has g's numbers at every place
pub walked_all : (n : ℕ) (g : ℕ → ℕ) (xs ys : List ℕ) → Walked n g xs ys → ((j : ℕ) → n ≤ j → get_or xs j 0 ≡ g j) → (j : ℕ) → get_or ys j 0 ≡ g j
walked_all n g xs ys w past j = by_place (dec_lt j n)
  where
    by_place : Dec (j < n) → get_or ys j 0 ≡ g j
    by_place (yes h) = w.passed j h
    by_place (no h) = w.left j (omega arith) ∙ past j (omega arith)
