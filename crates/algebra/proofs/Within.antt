-- Combinations of the chosen rows of a table (`Within`). A row with a multiple of another added, and a mix of such rows, are such
-- combinations too. With a pivot inverse D the multipliers can be read off: x = u A gives u = u A D = x D.
use mathlib.Core.Path.{◌≡◌, refl, sym, ap, ◌∙◌}
use mathlib.Core.Bool.{true, false}
use Prim.Native.Nat.{ℕ, zero, suc, ◌≤◌, ◌<◌}
use native.Mathlib.Nat.{lt-suc_self, le_step, ne_of_lt, lt_of_lt_of_le}
use native.Mathlib.Decide.{dec_lt}
use native.Mathlib.Omega.{arith}
use Rattle.algebra.specs.Ring.{Ring, IsCommutativeRing}
use Rattle.algebra.specs.Matrix.{Vector, Matrix, unit, product, mixed, cut}
use Rattle.algebra.specs.Quasiinverse.{Marks, IsPivotInverse}
use Rattle.algebra.specs.Echelon.{Within}
use Rattle.algebra.proofs.Rings as rings
use Rattle.algebra.proofs.Sums as sums
use Rattle.algebra.proofs.Applied as applied
use Rattle.algebra.proofs.Marks.{by_test}
use Rattle.algebra.proofs.Chosen.{row_end}
use Rattle.algebra.proofs.Decide.{mixed_cut}

module _ (R : Ring) (L : IsCommutativeRing R) where
  open R use {Carrier, zero as 𝟘, plus as ◌⊕◌, times as ◌⊗◌}

  infixl 60 ◌⊕◌
  infixl 70 ◌⊗◌
  module _ {m width : ℕ} {M : Matrix R} {J : Marks} where
    pub within_same : {x z : Vector R} → Within R m width M J x → ((j : ℕ) → j < width → z j ≡ x j) → Within R m width M J z
    within_same W h = record { by = W.by; supported = W.supported; combines = λ j l. h j l ∙ W.combines j l }

    pub within_zero : Within R m width M J (λ j. 𝟘)
    within_zero =
        record {
          by = λ t. 𝟘;
          supported = λ t e. refl;
          combines = λ j l. sym (applied.zeros_mixed R L m (λ t. 𝟘) M j (λ t b. refl));
        }

    -- x + a y
    pub within_added : {x y : Vector R} (a : Carrier) → Within R m width M J x → Within R m width M J y
        → Within R m width M J (λ j. x j ⊕ a ⊗ y j)
    within_added {x} {y} a W U =
        record {
          by = λ t. W.by t ⊕ a ⊗ U.by t;
          supported = λ t e. (λ k. W.supported t e k ⊕ a ⊗ U.supported t e k) ∙ ap (λ b. 𝟘 ⊕ b) (rings.times_zero R L a) ∙ L.plus_zero 𝟘;
          combines = λ j l.
              (λ k. W.combines j l k ⊕ a ⊗ U.combines j l k)
              ∙ ap (λ b. mixed R m W.by M j ⊕ b) (sym (applied.times_mixed R L m a U.by M j))
              ∙ sym (applied.plus_mixed R L m W.by (λ t. a ⊗ U.by t) M j);
        }

    -- u E
    pub within_mixed : (r : ℕ) (u : Vector R) (E : Matrix R) → ((t : ℕ) → t < r → Within R m width M J (E t))
        → Within R m width M J (mixed R r u E)
    unfolding mixed
    within_mixed zero u E h = within_same within_zero (λ j l. sums.sum_none R (λ t. u t ⊗ E t j))
    within_mixed (suc r) u E h =
        within_same (within_added (u r) (within_mixed r u E (λ t l. h t (le_step l))) (h r (lt-suc_self r)))
        (λ j l. sums.sum_next R r (λ t. u t ⊗ E t j))

  -- more rows, and more of them chosen
  pub within_wider : {m m' width : ℕ} {M : Matrix R} {J J' : Marks} {x : Vector R}
      → m ≤ m' → ((t : ℕ) → m ≤ t → J t ≡ false) → ((t : ℕ) → J' t ≡ false → J t ≡ false)
      → Within R m width M J x → Within R m' width M J' x
  within_wider {m} {m'} {M = M} l ends less W =
      record {
        by = W.by;
        supported = λ t e. W.supported t (less t e);
        combines = λ j b. W.combines j b ∙ sym (applied.mixed_ends R L m m' W.by M j l (λ t k. W.supported t (ends t k)));
      }

  -- a chosen row itself
  pub within_row : {m width : ℕ} {M : Matrix R} {J : Marks} (i : ℕ) → i < m → ((t : ℕ) → J t ≡ false → i ≡ t → ⊥)
      → Within R m width M J (M i)
  within_row {m} {M = M} i l h =
      record {
        by = unit R i;
        supported = λ t e. sums.unit_other R i t (h t e);
        combines = λ j b. sym (applied.unit_mixed R L m M i j l);
      }

  module _ {m n : ℕ} {A D : Matrix R} {I J : Marks} (Q : IsPivotInverse R m n A D I J) where
    -- u A D = u, for u that is zero outside J
    pub multipliers_back : (u : Vector R) → ((t : ℕ) → J t ≡ false → u t ≡ 𝟘) → (y : ℕ) → mixed R n (mixed R m u A) D y ≡ u y
    unfolding mixed
    multipliers_back u h y =
        applied.mixed_product R L n m u A D y
        ∙ sums.sum_same R m (λ t. u t ⊗ product R n A D t y) (λ t. u t ⊗ unit R t y) (λ t l. term t)
        ∙ last (dec_lt y m)
      where
        zero_term : (t : ℕ) (a : Carrier) → J t ≡ false → u t ⊗ a ≡ 𝟘
        zero_term t a e = ap (λ b. b ⊗ a) (h t e) ∙ rings.zero_times R L a

        term : (t : ℕ) → u t ⊗ product R n A D t y ≡ u t ⊗ unit R t y
        term t =
            by_test (J t) (λ e. ap (λ a. u t ⊗ a) (Q.fixes_row t y e))
            (λ e. zero_term t (product R n A D t y) e ∙ sym (zero_term t (unit R t y) e))

        last : Dec (y < m) → mixed R m u (unit R) y ≡ u y
        last (yes l) = sums.sum_unit R L m u y l
        last (no l) =
            let b : m ≤ y = omega arith in
            sums.sum_zeros R L m (λ t. u t ⊗ unit R t y)
            (λ t k. ap (λ a. u t ⊗ a) (sums.unit_other R t y (ne_of_lt (lt_of_lt_of_le k b))) ∙ rings.times_zero R L (u t))
            ∙ sym (h y (row_end R L Q y b))

    -- x D = 0, for x that is zero at the columns of I
    pub zero_at_columns : (x : Vector R) → ((c : ℕ) → I c ≡ true → x c ≡ 𝟘) → (y : ℕ) → mixed R n x D y ≡ 𝟘
    unfolding mixed
    zero_at_columns x h y =
        sums.sum_zeros R L n (λ c. x c ⊗ D c y)
        (λ c l.
        by_test (I c) (λ e. ap (λ a. a ⊗ D c y) (h c e) ∙ rings.zero_times R L (D c y))
        (λ e. ap (λ a. x c ⊗ a) (Q.row_outside c y e) ∙ rings.times_zero R L (x c)))

  -- x D is the multipliers of x
  pub within_back : {m n width : ℕ} {M D : Matrix R} {I J : Marks} {x : Vector R} → n ≤ width → IsPivotInverse R m n (cut R m n M) D I J
      → (W : Within R m width M J x) → (y : ℕ) → mixed R n x D y ≡ W.by y
  within_back {m} {n} {M = M} {D = D} {x = x} narrow Q W y =
      applied.mixed_same R n x (mixed R m W.by (cut R m n M)) D
      (λ j l. W.combines j (lt_of_lt_of_le l narrow) ∙ sym (mixed_cut R m n M W.by j l)) y
      ∙ multipliers_back Q W.by W.supported y
