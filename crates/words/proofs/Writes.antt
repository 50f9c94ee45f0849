-- What a loop that writes numbers from a place on has written: what then stands at every place.
use mathlib.Core.Path.{◌≡◌, refl, ◌∙◌}
use mathlib.Core.List.{List}
use Prim.Native.Nat.{ℕ, ◌+◌, ◌≤◌, ◌<◌}
use native.Mathlib.Nat.{zero-add}
use native.Mathlib.Omega.{arith}
use lib.ListN.{length, get_or, set, length-set}
use lib.Seq.{get_or-set_same, get_or-set_other, ext_get_or}
use borrow.Author.Count.{below_more}

-- after has the first n numbers of xs from the place on, and the numbers of before at the others
pub record Put (xs : List ℕ) (at n : ℕ) (before after : List ℕ) : Type 0 where
  pub long : length after ≡ length before
  pub passed : (j : ℕ) → j < n → get_or after (at + j) 0 ≡ get_or xs j 0
  pub front : (q : ℕ) → q < at → get_or after q 0 ≡ get_or before q 0
  pub behind : (q : ℕ) → at + n ≤ q → get_or after q 0 ≡ get_or before q 0

-- before the first number
pub put_none : (xs : List ℕ) (at : ℕ) (before : List ℕ) → Put xs at 0 before before
put_none xs at before = record { long = refl; passed = λ j h. omega arith; front = λ q h. refl; behind = λ q h. refl }

-- one number more
pub put_more : (xs : List ℕ) (at n : ℕ) (before after : List ℕ) → Put xs at n before after → at + n < length before
    → Put xs at (n + 1) before (set after (at + n) (get_or xs n 0))
put_more xs at n before after w h =
    record {
      long = length-set after (at + n) x ∙ w.long;
      passed =
          below_more (λ j. get_or (set after (at + n) x) (at + j) 0 ≡ get_or xs j 0) n
          (λ j l. get_or-set_other after (at + n) (at + j) x 0 (omega arith) ∙ w.passed j l)
          (get_or-set_same after (at + n) x 0 (omega (arith, w.long)));
      front = λ q l. get_or-set_other after (at + n) q x 0 (omega arith) ∙ w.front q l;
      behind = λ q l. get_or-set_other after (at + n) q x 0 (omega arith) ∙ w.behind q (omega arith);
    }
  where
    x : ℕ
    x = get_or xs n 0

-- numbers that fill a list are what it then holds
pub put_whole : (xs before after : List ℕ) → length after ≡ length before → length before ≡ length xs
    → ((j : ℕ) → j < length xs → get_or after (0 + j) 0 ≡ get_or xs j 0) → after ≡ xs
put_whole xs before after l e passed = ext_get_or 0 after xs (l ∙ e) (λ j h. rw zero-add at (passed j (omega arith)))
