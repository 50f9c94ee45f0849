-- Rows are independent exactly if all are in J. Then A D is the identity, so that the multipliers of a combination are
-- unique: v = u A gives u = u A D = v D. For any rows, v is a combination of them exactly if (v D) A = v.
use mathlib.Core.Path.{◌≡◌, refl, sym, ap, ap₂, ◌∙◌}
use mathlib.Core.Logic.{⊎_elim}
use mathlib.Core.Bool.{Bool, true, false}
use Prim.Native.Nat.{ℕ, suc, ◌+◌, ◌≤◌, ◌<◌}
use native.Mathlib.Nat.{not-suc-le-zero, le_refl, lt-suc_self, le_step, le_of_suc-le-suc, eq-or-lt_of_le}
use native.Mathlib.Numerals.{add-one}
use native.Mathlib.Omega.{arith}
use Rattle.algebra.specs.Choice.{choose}
use Rattle.algebra.specs.Ring.{Ring, IsCommutativeRing}
use Rattle.algebra.specs.Matrix.{Vector, Matrix, unit, product, mixed}
use Rattle.algebra.specs.Span.{Combines, Independent}
use Rattle.algebra.specs.Quasiinverse.{Marks, count, Absorbs, IsPivotInverse}
use Rattle.algebra.specs.Solve.{mix_of}
use Rattle.algebra.proofs.Sums as sums
use Rattle.algebra.proofs.Applied as applied
use Rattle.algebra.proofs.Marks.{is_true}
use Rattle.algebra.proofs.Unique.{absorbs_mixed}
use Rattle.algebra.proofs.Solve.{mix_kills, mix_own}

-- one position more
pub count_next : (n : ℕ) (I : Marks) → count (suc n) I ≡ count n I + choose (I n) 1 0
unfolding count
count_next n I = refl

-- at most all positions are members
pub count_most : (n : ℕ) (I : Marks) → count n I ≤ n
unfolding count
count_most ℕ.zero I = le_refl 0
count_most (suc n) I = omega (arith, count_most n I, at_most_one (I n))
  where
    at_most_one : (b : Bool) → choose b 1 0 ≤ 1
    at_most_one true = le_refl 1
    at_most_one false = omega arith

-- m members among the first m positions are all of them
pub all_marked : (m : ℕ) (J : Marks) → count m J ≡ m → (y : ℕ) → y < m → J y ≡ true
all_marked ℕ.zero J e y l = absurd (not-suc-le-zero l)
all_marked (suc m) J e y l =
    ⊎_elim (λ d. ap J d ∙ last) (λ k. all_marked m J before y k) (eq-or-lt_of_le (le_of_suc-le-suc l))
  where
    -- the count with m's mark known
    known : (b : Bool) → J m ≡ b → count m J + choose b 1 0 ≡ suc m
    known b f = ap (λ a. count m J + choose a 1 0) (sym f) ∙ sym (count_next m J) ∙ e

    last : J m ≡ true
    last = is_true (J m) (λ f. omega (arith, known false f, count_most m J))

    before : count m J ≡ m
    before = omega (arith, known true last)

-- and all of them are m members
pub all_counted : (m : ℕ) (J : Marks) → ((y : ℕ) → y < m → J y ≡ true) → count m J ≡ m
unfolding count
all_counted ℕ.zero J h = refl
all_counted (suc m) J h =
    ap₂ (λ k b. k + choose b 1 0) (all_counted m J (λ y l. h y (le_step l))) (h m (lt-suc_self m)) ∙ add-one m

module _ (R : Ring) (L : IsCommutativeRing R) where
  open R use {times as ◌⊗◌}

  infixl 70 ◌⊗◌
  -- independent rows are all in J: for a row outside J, 1 - A D has a zero mix of the rows with 1 at that row
  pub independent_chosen : (R.one ≡ R.zero → ⊥) → {m n : ℕ} {A D : Matrix R} {I J : Marks}
      → IsPivotInverse R m n A D I J → Independent R m n A → (y : ℕ) → y < m → J y ≡ true
  independent_chosen proper {m} {n} {A} {D} {I} {J} Q free y l =
      is_true (J y)
      (λ e.
      proper
      (sym (mix_own R L Q y y e ∙ sums.unit_same R y)
      ∙ free (mix_of R n A D y) (λ j k. sym (mix_kills R L Q.absorbs y l j k)) y l))

  -- v is a combination of the rows exactly if (v D) A = v
  pub combination_found : {m n : ℕ} {A D : Matrix R} → Absorbs R m n A D
      → (v u : Vector R) → Combines R m n A u v → Combines R m n A (mixed R n v D) v
  combination_found {m} {n} {A} {D} E v u h j l =
      h j l
      ∙ sym (absorbs_mixed R L E u j)
      ∙ applied.mixed_same R m (mixed R n (mixed R m u A) D) (mixed R n v D) A
      (λ t k. applied.mixed_same R n (mixed R m u A) v D (λ c g. sym (h c g)) t) j

  -- where all rows are in J
  module _ {m n : ℕ} {A D : Matrix R} {I J : Marks} (Q : IsPivotInverse R m n A D I J) (full : (y : ℕ) → y < m → J y ≡ true) where
    -- A D is the identity
    pub independent_inverse : (y j : ℕ) → y < m → j < m → product R n A D y j ≡ unit R y j
    independent_inverse y j l k = Q.fixes_row y j (full y l)

    -- the multipliers of a combination are v D
    pub combination_unique : (v u : Vector R) → Combines R m n A u v → (t : ℕ) → t < m → u t ≡ mixed R n v D t
    unfolding mixed
    combination_unique v u h t l =
        sym
        (applied.mixed_same R n v (mixed R m u A) D h t
        ∙ applied.mixed_product R L n m u A D t
        ∙ sums.sum_same R m (λ y. u y ⊗ product R n A D y t) (λ y. u y ⊗ unit R y t)
        (λ y k. ap (λ a. u y ⊗ a) (independent_inverse y t k l))
        ∙ sums.sum_unit R L m u t l)

    -- the rows are independent
    pub chosen_independent : Independent R m n A
    chosen_independent u h t l =
        combination_unique (λ j. R.zero) u h t l ∙ applied.zeros_mixed R L n (λ j. R.zero) D t (λ c k. refl)
