-- The kernel of A: every column of 1 - D A is in it, as A D A = A. For a pivot inverse D those of the columns outside I are a
-- basis of it: their entries outside I are those of unit columns, and x = (1 - D A) x for x in the kernel.
use mathlib.Core.Path.{◌≡◌, sym, ap, ap₂, ◌∙◌}
use mathlib.Core.Bool.{true, false}
use Prim.Native.Nat.{ℕ, ◌<◌}
use Rattle.algebra.specs.Choice.{choose}
use Rattle.algebra.specs.Ring.{Ring, IsCommutativeRing}
use Rattle.algebra.specs.Matrix.{Vector, Matrix, unit, product, apply}
use Rattle.algebra.specs.Span.{InKernel}
use Rattle.algebra.specs.Quasiinverse.{Marks, Absorbs, IsPivotInverse}
use Rattle.algebra.specs.Kernel.{kernel_vector, combined}
use Rattle.algebra.proofs.Rings as rings
use Rattle.algebra.proofs.Sums as sums
use Rattle.algebra.proofs.Matrices as matrices
use Rattle.algebra.proofs.Applied as applied
use Rattle.algebra.proofs.Marks.{by_test}
use Rattle.algebra.proofs.Chosen.{zero_row}

module _ (R : Ring) (L : IsCommutativeRing R) where
  open R use {zero as 𝟘, plus as ◌⊕◌, times as ◌⊗◌, minus}

  infixl 60 ◌⊕◌
  infixl 70 ◌⊗◌
  -- a kernel vector is in the kernel
  pub kernel_vector_in : {m n : ℕ} {A D : Matrix R} → Absorbs R m n A D → (c : ℕ) → c < n → InKernel R m n A (kernel_vector R m D A c)
  unfolding kernel_vector
  kernel_vector_in {m} {n} {A} {D} E c l i k =
      applied.apply_difference R L n A (λ t. unit R t c) (λ t. product R m D A t c) i
      ∙ ap₂ (λ a b. a ⊕ minus b) (applied.apply_unit R L n A i c l)
      (sym (applied.product_column R n A (product R m D A) i c) ∙ matrices.entry R E.equation i c)
      ∙ L.plus_minus (A i c)

  module _ {m n : ℕ} {A D : Matrix R} {I J : Marks} (Q : IsPivotInverse R m n A D I J) where
    -- outside I it is a unit column: 1 at c, 0 at the other columns outside I
    pub kernel_vector_own : (c j : ℕ) → I j ≡ false → kernel_vector R m D A c j ≡ unit R j c
    unfolding kernel_vector
    kernel_vector_own c j e = applied.less_zero R L (unit R j c) (product R m D A j c) (zero_row R L Q j c e)

    -- the kernel vector of a column of I is zero
    pub kernel_vector_chosen : (c j : ℕ) → I c ≡ true → kernel_vector R m D A c j ≡ 𝟘
    unfolding kernel_vector
    kernel_vector_chosen c j e = ap (λ a. unit R j c ⊕ minus a) (Q.fixes_column j c e) ∙ L.plus_minus (unit R j c)

    -- the combination with multipliers y is y - D (A y)
    pub combined_is : (y : Vector R) (j : ℕ) → j < n
        → combined R n I D A m y j ≡ y j ⊕ minus (apply R m D (apply R n A y) j)
    unfolding combined kernel_vector apply
    combined_is y j l =
        sums.sum_same R n (λ c. choose (I c) 𝟘 (y c ⊗ v c)) (λ c. v c ⊗ y c)
        (λ c k. by_test (I c) (inside c) (outside c))
        ∙ applied.difference_apply R L n (unit R) (product R m D A) y j
        ∙ ap₂ (λ a b. a ⊕ minus b) (applied.unit_apply R L n y j l) (applied.apply_product R L n m D A y j)
      where
        v : Vector R
        v c = kernel_vector R m D A c j

        inside : (c : ℕ) → I c ≡ true → choose (I c) 𝟘 (y c ⊗ v c) ≡ v c ⊗ y c
        inside c e =
            ap (λ b. choose b 𝟘 (y c ⊗ v c)) e
            ∙ sym (rings.zero_times R L (y c))
            ∙ ap (λ a. a ⊗ y c) (sym (kernel_vector_chosen c j e))

        outside : (c : ℕ) → I c ≡ false → choose (I c) 𝟘 (y c ⊗ v c) ≡ v c ⊗ y c
        outside c e = ap (λ b. choose b 𝟘 (y c ⊗ v c)) e ∙ L.times_comm (y c) (v c)

    -- each vector that A sends to zero is the combination of the basis with its own entries as multipliers
    pub kernel_spanned : (x : Vector R) → InKernel R m n A x → (j : ℕ) → j < n → x j ≡ combined R n I D A m x j
    kernel_spanned x h j l =
        sym
        (combined_is x j l
        ∙ applied.less_zero R L (x j) (apply R m D (apply R n A x) j) (applied.apply_zeros R L m D (apply R n A x) j h))

    -- and with no other multipliers: those of a combination are its entries outside I
    pub kernel_spanned_once : (x y : Vector R) → ((j : ℕ) → j < n → x j ≡ combined R n I D A m y j)
        → (c : ℕ) → c < n → I c ≡ false → y c ≡ x c
    kernel_spanned_once x y h c l e =
        sym
        (h c l
        ∙ combined_is y c l
        ∙ applied.less_zero R L (y c) (apply R m D (apply R n A y) c)
        (applied.zero_row_apply R L m D (apply R n A y) c (λ t k. Q.row_outside c t e)))
