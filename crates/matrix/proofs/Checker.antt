-- A checker of pivot inverses. `is_pivot_inverse` is a test that computes: it compares the entries inside the sizes, which are
-- finitely many. Where it passes, D is a pivot inverse of A with the marks I and J (`checked`), since A and D are zero outside
-- their sizes and the marks end there. It is over any ring whose entries can be compared.
use mathlib.Core.Path.{◌≡◌, refl, sym, ap, ◌∙◌, subst}
use mathlib.Core.Bool.{Bool, true, false, not, ◌&&◌, and-eq-true_iff}
use mathlib.Core.List.{List, [], ◌∷◌, Memᴰ}
use mathlib.Core.Logic.{⊎_elim}
use Prim.Native.Nat.{ℕ, zero, suc, ◌<◌}
use native.Mathlib.Nat.{not-suc-le-zero, le_of_suc-le-suc, eq-or-lt_of_le, le_step, lt-suc_self}
use native.Mathlib.Omega.{arith}
use lib.Dec.{eqb}
use borrow.Author.Tests.{eqb-true}
use Rattle.algebra.specs.Ring.{Ring, IsCommutativeRing}
use Rattle.algebra.specs.Matrix.{Matrix, Sized, unit, product}
use Rattle.algebra.specs.Quasiinverse.{Marks, count, IsPivotInverse}
use Rattle.algebra.proofs.Sums.{unit_other}
use Rattle.algebra.proofs.Sized.{by_size, sized_zero, product_sized, absorbs_inside}

-- ---- tests

infixr 37 ◌implies◌
-- the second test where the first is true
abbrev pub ◌implies◌ : Bool → Bool → Bool
true implies b = b
false implies b = true

infixl 35 ◌and◌
-- both tests; shut, so that a passed test comes apart by `both`
unfoldable pub ◌and◌ : Bool → Bool → Bool
◌and◌ a b = a && b

-- the test is true of every number below n
unfoldable pub every_below : ℕ → (ℕ → Bool) → Bool
every_below zero f = true
every_below (suc n) f = every_below n f and f n

-- of every row i below m and every column j below n
abbrev pub every_place : ℕ → ℕ → (ℕ → ℕ → Bool) → Bool
every_place m n f = every_below m (λ i. every_below n (λ j. f i j))

-- of every member of a list
unfoldable pub every : {A : Type 0} → (A → Bool) → List A → Bool
every f [] = true
every f (x ∷ xs) = f x and every f xs

-- D, n rows and m columns, is a pivot inverse of A, m rows and n columns, with the marks I and J: clause by clause as the
-- definition has it, with `same` for the equality of entries
unfoldable pub is_pivot_inverse : (R : Ring) → (R.Carrier → R.Carrier → Bool) → (m n : ℕ) → Matrix R → Matrix R → Marks → Marks → Bool
is_pivot_inverse R same m n A D I J =
    every_place n m (λ i j. not (I i) implies same (D i j) R.zero)
    and every_place n m (λ i j. not (J j) implies same (D i j) R.zero)
    and every_place n n (λ i c. I c implies same (product R m D A i c) (unit R i c))
    and every_place m m (λ y j. J y implies same (product R n A D y j) (unit R y j))
    and every_place m n (λ i j. same (product R n A (product R m D A) i j) (A i j))
    and every_below n (λ i. every_below i (λ c. same (product R m D A i c) R.zero))
    and every_below m (λ j. every_below j (λ y. same (product R n A D y j) R.zero))
    and eqb (count n I) (count m J)

-- ---- what passed tests tell

pub both : (a b : Bool) → a and b ≡ true → (a ≡ true) × (b ≡ true)
unfolding ◌and◌
both a b = (and-eq-true_iff a b).0

pub implied : {a b : Bool} → a implies b ≡ true → a ≡ true → b ≡ true
implied {a} {b} t e = subst (λ x. x implies b ≡ true) e t

pub every_below_lem : (n : ℕ) (f : ℕ → Bool) → every_below n f ≡ true → (k : ℕ) → k < n → f k ≡ true
unfolding every_below
every_below_lem zero f t k h = absurd (not-suc-le-zero h)
every_below_lem (suc n) f t k h =
    let (before, last) = both (every_below n f) (f n) t in
    ⊎_elim (λ e. ap f e ∙ last) (λ l. every_below_lem n f before k l) (eq-or-lt_of_le (le_of_suc-le-suc h))

-- and back
pub below_every : (n : ℕ) (f : ℕ → Bool) → ((k : ℕ) → k < n → f k ≡ true) → every_below n f ≡ true
unfolding every_below ◌and◌
below_every zero f h = refl
below_every (suc n) f h = (and-eq-true_iff (every_below n f) (f n)).1 (below_every n f (λ k l. h k (le_step l)), h n (lt-suc_self n))

pub every_place_lem : (m n : ℕ) (f : ℕ → ℕ → Bool) → every_place m n f ≡ true → (i j : ℕ) → i < m → j < n → f i j ≡ true
every_place_lem m n f t i j h l = every_below_lem n (f i) (every_below_lem m (λ k. every_below n (f k)) t i h) j l

pub every_member : {A : Type 0} (f : A → Bool) (xs : List A) → every f xs ≡ true → (x : A) → Memᴰ x xs → f x ≡ true
unfolding every
every_member {A = A} f [] t y i = elim i [ ]
every_member f (x ∷ xs) t y (Memᴰ.head e) = ap f e ∙ (both _ _ t).0
every_member f (x ∷ xs) t y (Memᴰ.tail i) = every_member f xs (both _ _ t).1 y i

-- ---- the checker

module _ (R : Ring) (L : IsCommutativeRing R) (same : R.Carrier → R.Carrier → Bool)
    (sound : (x y : R.Carrier) → same x y ≡ true → x ≡ y) where
  -- each test is a clause of the definition, where A and D have entries
  pub checked : {m n : ℕ} {A D : Matrix R} {I J : Marks} → Sized R m n A → Sized R n m D
      → ((c : ℕ) → I c ≡ true → c < n) → ((y : ℕ) → J y ≡ true → y < m)
      → is_pivot_inverse R same m n A D I J ≡ true → IsPivotInverse R m n A D I J
  unfolding is_pivot_inverse
  checked {m} {n} {A} {D} {I} {J} sA sD columns rows t =
      let (t, many) = both _ _ t in
      let (t, lower) = both _ _ t in
      let (t, upper) = both _ _ t in
      let (t, absorbs) = both _ _ t in
      let (t, fixes_row) = both _ _ t in
      let (t, fixes_column) = both _ _ t in
      let (row_outside, column_outside) = both _ _ t in
      let DA : Sized R n n (product R m D A) = product_sized R L sD sA in
      let AD : Sized R m m (product R n A D) = product_sized R L sA sD in
      record {
        row_outside = λ i j e. sized_zero R sD i j (λ h l. sound _ _ (implied (every_place_lem n m _ row_outside i j h l) (ap not e)));
        column_outside = λ i j e. sized_zero R sD i j (λ h l. sound _ _ (implied (every_place_lem n m _ column_outside i j h l) (ap not e)));
        fixes_column = λ i c e.
            by_size i n (λ h. sound _ _ (implied (every_place_lem n n _ fixes_column i c h (columns c e)) e))
            (λ h. DA.rows_end i c h ∙ sym (unit_other R i c (λ q. omega (arith, columns c e))));
        fixes_row = λ y j e.
            by_size j m (λ h. sound _ _ (implied (every_place_lem m m _ fixes_row y j (rows y e) h) e))
            (λ h. AD.columns_end y j h ∙ sym (unit_other R y j (λ q. omega (arith, rows y e))));
        absorbs = absorbs_inside R L sA D (λ i j h l. sound _ _ (every_place_lem m n _ absorbs i j h l));
        upper = λ i c k. sized_zero R DA i c (λ h l. sound _ _ (every_below_lem i _ (every_below_lem n _ upper i h) c k));
        lower = λ y j k. sized_zero R AD y j (λ h l. sound _ _ (every_below_lem j _ (every_below_lem m _ lower j l) y k));
        columns = columns;
        rows = rows;
        equally_many = eqb-true _ _ many;
      }
