-- Rows and columns change places. The ring being commutative, the transpose of a product is the product of the
-- transposes in the other order, and so the transpose of a pivot inverse is the pivot inverse of the transpose: what is
-- proved of columns elsewhere holds of rows by `transposed`.
use mathlib.Core.Path.{◌≡◌, sym, ap, ◌∙◌}
use Prim.Native.Nat.{ℕ}
use native.Mathlib.Decide.{ℕ_discrete}
use Rattle.algebra.specs.Ring.{Ring, IsCommutativeRing}
use Rattle.algebra.specs.Matrix.{Vector, Matrix, unit, product, apply, mixed, transpose}
use Rattle.algebra.specs.Quasiinverse.{Marks, Absorbs, IsInverseOn, IsPivotInverse}
use Rattle.algebra.proofs.Sums as sums
use Rattle.algebra.proofs.Matrices as matrices

module _ (R : Ring) where
  -- the identity is its own transpose
  pub unit_swap : (i j : ℕ) → unit R i j ≡ unit R j i
  unit_swap i j = go (ℕ_discrete i j)
    where
      go : Dec (i ≡ j) → unit R i j ≡ unit R j i
      go (yes e) = λ k. unit R (e k) (sym e k)
      go (no d) = sums.unit_other R i j d ∙ sym (sums.unit_other R j i (λ e. d (sym e)))

module _ (R : Ring) (L : IsCommutativeRing R) where
  open R use {times as ◌⊗◌}

  infixl 70 ◌⊗◌
  -- the transpose of X Y
  pub transpose_product : (k : ℕ) (X Y : Matrix R)
      → transpose R (product R k X Y) ≡ product R k (transpose R Y) (transpose R X)
  unfolding transpose product
  transpose_product k X Y =
      matrices.entries R (transpose R (product R k X Y)) (product R k (transpose R Y) (transpose R X))
      (λ i j. sums.sum_same R k (λ t. X j t ⊗ Y t i) (λ t. Y t i ⊗ X j t) (λ t l. L.times_comm (X j t) (Y t i)))

  -- an entry of the product of transposes
  pub product_transposes : (k : ℕ) (X Y : Matrix R) (i j : ℕ)
      → product R k (transpose R Y) (transpose R X) i j ≡ product R k X Y j i
  unfolding transpose
  product_transposes k X Y i j = matrices.entry R (sym (transpose_product k X Y)) i j

  -- the mix of columns is the matrix applied to the multipliers
  pub mixed_transpose : (k : ℕ) (u : Vector R) (X : Matrix R) (i : ℕ) → mixed R k u (transpose R X) i ≡ apply R k X u i
  unfolding mixed apply transpose
  mixed_transpose k u X i = sums.sum_same R k (λ t. u t ⊗ X i t) (λ t. X i t ⊗ u t) (λ t l. L.times_comm (u t) (X i t))

  -- A D A = A of the transposes
  pub absorbs_transposed : {m n : ℕ} {A D : Matrix R} → Absorbs R m n A D → Absorbs R n m (transpose R A) (transpose R D)
  absorbs_transposed {m} {n} {A} {D} E =
      record {
        equation =
            ap (product R m (transpose R A)) (sym (transpose_product n A D))
            ∙ sym (transpose_product m (product R n A D) A)
            ∙ ap (transpose R) (matrices.product_assoc R L m n A D A ∙ E.equation);
      }

  -- the transpose of D is a pivot inverse of the transpose of A, with the marks of rows and columns exchanged
  pub transposed : {m n : ℕ} {A D : Matrix R} {I J : Marks} → IsPivotInverse R m n A D I J
      → IsPivotInverse R n m (transpose R A) (transpose R D) J I
  unfolding transpose
  transposed {m} {n} {A} {D} Q =
      record {
        row_outside = λ i j e. Q.column_outside j i e;
        column_outside = λ i j e. Q.row_outside j i e;
        fixes_column = λ i c e. product_transposes n A D i c ∙ Q.fixes_row c i e ∙ unit_swap R c i;
        fixes_row = λ y j e. product_transposes m D A y j ∙ Q.fixes_column j y e ∙ unit_swap R j y;
        absorbs = absorbs_transposed Q.absorbs;
        upper = λ i c l. product_transposes n A D i c ∙ Q.lower c i l;
        lower = λ y j l. product_transposes m D A y j ∙ Q.upper j y l;
        columns = Q.rows;
        rows = Q.columns;
        equally_many = sym Q.equally_many;
      }

  -- and so for document 01's own description of D
  pub inverse_transposed : {m n : ℕ} {A D : Matrix R} {I J : Marks} → IsInverseOn R m n A D I J
      → IsInverseOn R n m (transpose R A) (transpose R D) J I
  unfolding transpose
  inverse_transposed {m} {n} {A} {D} N =
      record {
        row_outside = λ i j e. N.column_outside j i e;
        column_outside = λ i j e. N.row_outside j i e;
        left_inverse = λ i c e f. product_transposes n A D i c ∙ N.right_inverse c i f e ∙ unit_swap R c i;
        right_inverse = λ y j e f. product_transposes m D A y j ∙ N.left_inverse j y f e ∙ unit_swap R j y;
      }
