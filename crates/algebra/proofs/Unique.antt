-- A pivot inverse is document 01's D: the inverse of A on its chosen rows and columns, and zero elsewhere. There is only one,
-- as D = D A D' = D' for two of them; for D' = D this is D A D = D, so it is a quasiinverse. A D A = A is said of columns and
-- of rows.
use mathlib.Core.Path.{◌≡◌, sym, ap, ◌∙◌}
use mathlib.Core.Bool.{true, false}
use Prim.Native.Nat.{ℕ, ◌<◌}
use Rattle.algebra.specs.Ring.{Ring, IsCommutativeRing}
use Rattle.algebra.specs.Matrix.{Vector, Matrix, unit, product, apply, mixed, transpose}
use Rattle.algebra.specs.Quasiinverse.{Marks, Absorbs, IsQuasiinverse, IsInverseOn, IsPivotInverse}
use Rattle.algebra.proofs.Rings as rings
use Rattle.algebra.proofs.Sums as sums
use Rattle.algebra.proofs.Matrices as matrices
use Rattle.algebra.proofs.Applied as applied
use Rattle.algebra.proofs.Marks.{by_test}
use Rattle.algebra.proofs.Transpose.{transpose_product, inverse_transposed}

module _ (R : Ring) (L : IsCommutativeRing R) where
  open R use {Carrier, zero as 𝟘, times as ◌⊗◌}

  infixl 70 ◌⊗◌
  -- a pivot inverse is the inverse on its marks
  pub inverse_on : {m n : ℕ} {A D : Matrix R} {I J : Marks} → IsPivotInverse R m n A D I J → IsInverseOn R m n A D I J
  inverse_on Q =
      record {
        row_outside = Q.row_outside;
        column_outside = Q.column_outside;
        left_inverse = λ i c e f. Q.fixes_column i c f;
        right_inverse = λ y j e f. Q.fixes_row y j e;
      }

  -- D A D' = D for two inverses on the same marks
  pub keeps_left : {m n : ℕ} {A D D' : Matrix R} {I J : Marks} → ((y : ℕ) → J y ≡ true → y < m)
      → IsInverseOn R m n A D I J → IsInverseOn R m n A D' I J → product R m D (product R n A D') ≡ D
  unfolding product
  keeps_left {m} {n} {A} {D} {D'} {I} {J} rows N N' =
      matrices.entries R (product R m D (product R n A D')) D (λ i j. by_test (J j) (inside i j) (outside i j))
    where
      zero_term : (i y : ℕ) (a : Carrier) → J y ≡ false → D i y ⊗ a ≡ 𝟘
      zero_term i y a f = ap (λ b. b ⊗ a) (N.column_outside i y f) ∙ rings.zero_times R L a

      term : (i j y : ℕ) → J j ≡ true → D i y ⊗ product R n A D' y j ≡ D i y ⊗ unit R y j
      term i j y e =
          by_test (J y) (λ f. ap (λ a. D i y ⊗ a) (N'.right_inverse y j f e))
          (λ f. zero_term i y (product R n A D' y j) f ∙ sym (zero_term i y (unit R y j) f))

      inside : (i j : ℕ) → J j ≡ true → product R m D (product R n A D') i j ≡ D i j
      inside i j e =
          sums.sum_same R m (λ y. D i y ⊗ product R n A D' y j) (λ y. D i y ⊗ unit R y j) (λ y l. term i j y e)
          ∙ sums.sum_unit R L m (D i) j (rows j e)

      -- a column outside J is zero on both sides
      outside : (i j : ℕ) → J j ≡ false → product R m D (product R n A D') i j ≡ D i j
      outside i j e =
          applied.product_column R m D (product R n A D') i j
          ∙ applied.apply_zeros R L m D (λ y. product R n A D' y j) i
          (λ y l.
          applied.product_column R n A D' y j
          ∙ applied.apply_zeros R L n A (λ c. D' c j) y (λ c k. N'.column_outside c j e))
          ∙ sym (N.column_outside i j e)

  -- D A D' = D'
  pub keeps_right : {m n : ℕ} {A D D' : Matrix R} {I J : Marks} → ((c : ℕ) → I c ≡ true → c < n)
      → IsInverseOn R m n A D I J → IsInverseOn R m n A D' I J → product R n (product R m D A) D' ≡ D'
  unfolding transpose
  keeps_right {m} {n} {A} {D} {D'} columns N N' =
      ap (transpose R)
      (transpose_product R L n (product R m D A) D'
      ∙ ap (product R n (transpose R D')) (transpose_product R L m D A)
      ∙ keeps_left columns (inverse_transposed R L N') (inverse_transposed R L N))

  -- the inverse on given marks is one only
  pub inverse_unique : {m n : ℕ} {A D D' : Matrix R} {I J : Marks}
      → ((c : ℕ) → I c ≡ true → c < n) → ((y : ℕ) → J y ≡ true → y < m)
      → IsInverseOn R m n A D I J → IsInverseOn R m n A D' I J → D ≡ D'
  inverse_unique {m} {n} {A} {D} {D'} columns rows N N' =
      sym (keeps_left rows N N') ∙ sym (matrices.product_assoc R L n m D A D') ∙ keeps_right columns N N'

  -- a pivot inverse is a quasiinverse
  pub is_quasiinverse : {m n : ℕ} {A D : Matrix R} {I J : Marks} → IsPivotInverse R m n A D I J → IsQuasiinverse R m n A D
  is_quasiinverse Q =
      record { absorbs = Q.absorbs; reflects = record { equation = keeps_left Q.rows (inverse_on Q) (inverse_on Q) } }

  module _ {m n : ℕ} {A D : Matrix R} (E : Absorbs R m n A D) where
    -- (A D) A = A
    pub absorbs_left : product R m (product R n A D) A ≡ A
    absorbs_left = matrices.product_assoc R L m n A D A ∙ E.equation

    -- A D A = A on a column
    pub absorbs_apply : (x : Vector R) (i : ℕ) → apply R n A (apply R m D (apply R n A x)) i ≡ apply R n A x i
    absorbs_apply x i =
        sym (applied.apply_product R L m n A D (apply R n A x) i)
        ∙ sym (applied.apply_product R L n m (product R n A D) A x i)
        ∙ ap (λ X. apply R n X x i) absorbs_left

    -- A D A = A on a row
    pub absorbs_mixed : (u : Vector R) (j : ℕ) → mixed R m (mixed R n (mixed R m u A) D) A j ≡ mixed R m u A j
    absorbs_mixed u j =
        applied.mixed_product R L m n (mixed R m u A) D A j
        ∙ applied.mixed_product R L n m u A (product R m D A) j
        ∙ ap (λ X. mixed R m u X j) E.equation
