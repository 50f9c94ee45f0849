-- What stands at each place of what was written, and how long it is; and that a list is written so if its numbers are.
use mathlib.Core.Path.{◌≡◌, refl, sym, ap, ◌∙◌}
use mathlib.Core.Bool.{true, false, not}
use mathlib.Core.List.{List}
use Prim.Native.Nat.{ℕ, zero, suc, ◌<◌}
use native.Mathlib.Nat.{not-suc-le-zero, le_of_suc-le-suc}
use lib.ListN.{length, get_or}
use lib.Seq.{ext_get_or}
use borrow.Author.Tests.{eq-eqb, ne_eqb}
use Rattle.field.specs.Written.{tabulate, marked}

pub length_tabulate : (n : ℕ) (f : ℕ → ℕ) → length (tabulate n f) ≡ n
unfolding tabulate
length_tabulate zero f = refl
length_tabulate (suc n) f = ap suc (length_tabulate n (λ k. f (suc k)))

pub get_d_tabulate : (n : ℕ) (f : ℕ → ℕ) (i : ℕ) → i < n → get_or (tabulate n f) i 0 ≡ f i
unfolding tabulate
get_d_tabulate zero f i h = absurd (not-suc-le-zero h)
get_d_tabulate (suc n) f zero h = refl
get_d_tabulate (suc n) f (suc i) h = get_d_tabulate n (λ k. f (suc k)) i (le_of_suc-le-suc h)

-- a list of n numbers with f i at each place i
pub is_tabulate : (n : ℕ) (f : ℕ → ℕ) (xs : List ℕ) → length xs ≡ n → ((i : ℕ) → i < n → get_or xs i 0 ≡ f i) → xs ≡ tabulate n f
is_tabulate n f xs l h =
    ext_get_or 0 xs (tabulate n f) (l ∙ sym (length_tabulate n f))
    (λ i b. h i (rw l at b) ∙ sym (get_d_tabulate n f i (rw l at b)))

-- a position is marked exactly if its number is not 0
pub marked_no : (xs : List ℕ) (c : ℕ) → get_or xs c 0 ≡ 0 → marked xs c ≡ false
unfolding marked
marked_no xs c e = ap not (eq-eqb (get_or xs c 0) 0 e)

pub marked_yes : (xs : List ℕ) (c : ℕ) → (get_or xs c 0 ≡ 0 → ⊥) → marked xs c ≡ true
unfolding marked
marked_yes xs c e = ap not (ne_eqb (get_or xs c 0) 0 e)
