-- The nearest fit of a right side w by a pivot inverse D: z = D w and the remainder w - A z. A D fixes the rows of J, so nothing is
-- left over there; D is zero in the rows outside I, so z is. There is no other such pair: D takes w = A z + rest to z, since D A fixes
-- what is zero outside I and D sends to zero what is zero on J. The remainder is zero in exactly the rows where A z is w.
use mathlib.Core.Path.{◌≡◌, sym, ap, ap₂, ◌∙◌}
use mathlib.Core.Bool.{true}
use Prim.Native.Nat.{ℕ, ◌<◌}
use Rattle.algebra.specs.Ring.{Ring, IsCommutativeRing}
use Rattle.algebra.specs.Matrix.{Vector, Matrix, unit, product, apply}
use Rattle.algebra.specs.Quasiinverse.{Marks, IsPivotInverse}
use Rattle.algebra.specs.Solve.{remainder, IsFit}
use Rattle.algebra.proofs.Rings as rings
use Rattle.algebra.proofs.Sums as sums
use Rattle.algebra.proofs.Applied as applied
use Rattle.algebra.proofs.Marks.{by_test}

module _ (R : Ring) where
  -- only the numbers of z below n count
  pub remainder_same : (n : ℕ) (A : Matrix R) (x z w : Vector R) (i : ℕ) → ((t : ℕ) → t < n → x t ≡ z t) → remainder R n A x w i ≡ remainder R n A z w i
  unfolding remainder
  remainder_same n A x z w i h = ap (λ a. R.plus (w i) (R.minus a)) (applied.apply_same R n A x z h i)

module _ (R : Ring) (L : IsCommutativeRing R) where
  open R use {Carrier, zero as 𝟘, plus as ◌⊕◌, times as ◌⊗◌, minus}

  infixl 60 ◌⊕◌
  infixl 70 ◌⊗◌
  -- the remainder is zero in a row exactly if A z is w there
  pub remainder_zero : (n : ℕ) (A : Matrix R) (z w : Vector R) (i : ℕ) → apply R n A z i ≡ w i → remainder R n A z w i ≡ 𝟘
  unfolding remainder
  remainder_zero n A z w i e = ap (λ a. w i ⊕ minus a) e ∙ L.plus_minus (w i)

  pub zero_remainder : (n : ℕ) (A : Matrix R) (z w : Vector R) (i : ℕ) → remainder R n A z w i ≡ 𝟘 → apply R n A z i ≡ w i
  unfolding remainder
  zero_remainder n A z w i e = sym (rings.difference_zero R L (w i) (apply R n A z i) e)

  -- w = A z + (w - A z), and nothing else is added to A z to give w
  pub remainder_sums : (n : ℕ) (A : Matrix R) (z w : Vector R) (i : ℕ) → w i ≡ apply R n A z i ⊕ remainder R n A z w i
  unfolding remainder
  remainder_sums n A z w i = sym (rings.plus_difference R L (apply R n A z i) (w i))

  pub remainder_only : (n : ℕ) (A : Matrix R) (z w : Vector R) (i : ℕ) (e : Carrier) → w i ≡ apply R n A z i ⊕ e → e ≡ remainder R n A z w i
  unfolding remainder
  remainder_only n A z w i e h =
      let b = apply R n A z i in
      sym (ap (λ a. a ⊕ minus b) (h ∙ L.plus_comm b e) ∙ L.plus_assoc e b (minus b) ∙ ap (λ a. e ⊕ a) (L.plus_minus b) ∙ L.plus_zero e)

  module _ {m n : ℕ} {A D : Matrix R} {I J : Marks} (Q : IsPivotInverse R m n A D I J) where
    -- on the rows of J, A (D w) is w, whatever w is
    pub rows_fit : (w : Vector R) (y : ℕ) → J y ≡ true → apply R n A (apply R m D w) y ≡ w y
    unfolding apply
    rows_fit w y e =
        sym (applied.apply_product R L m n A D w y)
        ∙ sums.sum_same R m (λ t. product R n A D y t ⊗ w t) (λ t. unit R y t ⊗ w t) (λ t l. ap (λ a. a ⊗ w t) (Q.fixes_row y t e))
        ∙ applied.unit_apply R L m w y (Q.rows y e)

    -- D w and what it leaves over are a fit
    pub fits : (w : Vector R) → IsFit R m n A I J w (apply R m D w) (remainder R n A (apply R m D w) w)
    fits w =
        record {
          outside_zero = λ c l e. applied.zero_row_apply R L m D w c (λ t k. Q.row_outside c t e);
          rows_zero = λ y l e. remainder_zero n A (apply R m D w) w y (rows_fit w y e);
          sums = λ i l. remainder_sums n A (apply R m D w) w i;
        }

    module _ {w z rest : Vector R} (F : IsFit R m n A I J w z rest) where
      -- D sends the remainder to zero, and D A leaves z as it is
      rest_dropped : (c : ℕ) → apply R m D rest c ≡ 𝟘
      unfolding apply
      rest_dropped c =
          sums.sum_zeros R L m (λ t. D c t ⊗ rest t)
          (λ t l.
          by_test (J t)
          (λ e. ap (λ a. D c t ⊗ a) (F.rows_zero t l e) ∙ rings.times_zero R L (D c t))
          (λ e. ap (λ a. a ⊗ rest t) (Q.column_outside c t e) ∙ rings.zero_times R L (rest t)))

      z_kept : (c : ℕ) → c < n → apply R n (product R m D A) z c ≡ z c
      unfolding apply
      z_kept c l =
          sums.sum_same R n (λ t. product R m D A c t ⊗ z t) (λ t. unit R c t ⊗ z t)
          (λ t k.
          by_test (I t)
          (λ e. ap (λ a. a ⊗ z t) (Q.fixes_column c t e))
          (λ e.
          ap (λ a. product R m D A c t ⊗ a) (F.outside_zero t k e)
          ∙ rings.times_zero R L (product R m D A c t)
          ∙ sym (ap (λ a. unit R c t ⊗ a) (F.outside_zero t k e) ∙ rings.times_zero R L (unit R c t))))
          ∙ applied.unit_apply R L n z c l

      -- so z is D w, and the remainder what that leaves over
      pub fit_column : (c : ℕ) → c < n → z c ≡ apply R m D w c
      fit_column c l =
          sym
          (applied.apply_same R m D w (λ i. apply R n A z i ⊕ rest i) F.sums c
          ∙ applied.apply_plus R L m D (apply R n A z) rest c
          ∙ ap₂ ◌⊕◌ (sym (applied.apply_product R L n m D A z c) ∙ z_kept c l) (rest_dropped c)
          ∙ L.plus_zero (z c))

      pub fit_rest : (i : ℕ) → i < m → rest i ≡ remainder R n A (apply R m D w) w i
      fit_rest i l = remainder_only n A z w i (rest i) (F.sums i l) ∙ remainder_same R n A z (apply R m D w) w i fit_column
