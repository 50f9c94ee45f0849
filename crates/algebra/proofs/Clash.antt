-- Rows of A x = w that contradict each other, by a pivot inverse D of A. Let y be a row where A (D w) is not w. It is outside J, and it
-- is one combination of rows of J before it: row y of A D has the multipliers. The rows with a multiplier that is not 0, and y, have no
-- common solution, since the mix of row y, row y of 1 - A D, is zero on A and not on w. Without any one of them they have: without y it
-- is D w; without k it is D w with a multiple of column k of D added, which moves row y, and no row of J but k.
use mathlib.Core.Path.{◌≡◌, sym, ap, ap₂, ◌∙◌}
use mathlib.Core.Bool.{true, false}
use mathlib.Core.Logic.{◌⊎◌, inl, inr, ⊎_elim}
use Prim.Native.Nat.{ℕ, ◌≤◌, ◌<◌}
use native.Mathlib.Nat.{eq-or-lt_of_le, le_of_lt}
use native.Mathlib.Decide.{dec_lt, ℕ_discrete}
use native.Mathlib.Omega.{arith}
use lib.Dec.{ltb}
use borrow.Author.Tests.{lt-ltb, le-ltb}
use Rattle.algebra.specs.Choice.{choose}
use Rattle.algebra.specs.Ring.{Ring, IsCommutativeRing, IsField}
use Rattle.algebra.specs.Matrix.{Vector, Matrix, unit, product, apply, mixed}
use Rattle.algebra.specs.Span.{Combines}
use Rattle.algebra.specs.Quasiinverse.{Marks, IsPivotInverse}
use Rattle.algebra.specs.Solve.{mix_of, remainder}
use Rattle.algebra.proofs.Rings as rings
use Rattle.algebra.proofs.Sums as sums
use Rattle.algebra.proofs.Matrices as matrices
use Rattle.algebra.proofs.Applied as applied
use Rattle.algebra.proofs.Marks.{is_false}
use Rattle.algebra.proofs.Chosen.{zero_column}
use Rattle.algebra.proofs.Unique.{absorbs_left}
use Rattle.algebra.proofs.Within.{multipliers_back}
use Rattle.algebra.proofs.Solve.{mix_kills, mix_shows}
use Rattle.algebra.proofs.Fit.{rows_fit, zero_remainder}

module _ (R : Ring) (F : IsField R) where
  open R use {Carrier, zero as 𝟘, plus as ◌⊕◌, times as ◌⊗◌, minus}

  infixl 60 ◌⊕◌
  infixl 70 ◌⊗◌
  L : IsCommutativeRing R
  L = F.ring

  module _ {m n : ℕ} {A D : Matrix R} {I J : Marks} (Q : IsPivotInverse R m n A D I J) where
    -- ---- a row outside J is a combination of the rows of J before it

    module _ (y : ℕ) (row : y < m) (outside : J y ≡ false) where
      -- row y of A D is zero from y on
      pub multipliers_end : (t : ℕ) → y ≤ t → product R n A D y t ≡ 𝟘
      multipliers_end t h =
          ⊎_elim (λ e. zero_column R L Q y t (ap J (sym e) ∙ outside)) (λ l. Q.lower y t l) (eq-or-lt_of_le h)

      -- its numbers make row y of A of the rows before it
      pub row_combined : Combines R y n A (product R n A D y) (A y)
      row_combined j l =
          sym (matrices.entry R (absorbs_left R L Q.absorbs) y j)
          ∙ applied.product_row R m (product R n A D) A y j
          ∙ applied.mixed_ends R L y m (product R n A D y) A j (le_of_lt row) multipliers_end

      -- and no others that are zero outside J do
      pub row_combined_once : (u : Vector R) → ((t : ℕ) → t < y → J t ≡ false → u t ≡ 𝟘) → Combines R y n A u (A y)
          → (t : ℕ) → t < y → u t ≡ product R n A D y t
      row_combined_once u supported combines t l =
          sym (short_at t l)
          ∙ sym (multipliers_back R L Q short short_supported t)
          ∙ applied.mixed_same R n (mixed R m short A) (A y) D (λ j b. sym (combined j b)) t
          ∙ sym (applied.product_row R n A D y t)
        where
          -- u, cut off at y
          short : Vector R
          short i = choose (ltb i y) (u i) 𝟘

          short_at : (i : ℕ) → i < y → short i ≡ u i
          short_at i h = ap (λ b. choose b (u i) 𝟘) (lt-ltb i y h)

          short_end : (i : ℕ) → y ≤ i → short i ≡ 𝟘
          short_end i h = ap (λ b. choose b (u i) 𝟘) (le-ltb i y h)

          short_supported : (i : ℕ) → J i ≡ false → short i ≡ 𝟘
          short_supported i e = go (dec_lt i y)
            where
              go : Dec (i < y) → short i ≡ 𝟘
              go (yes h) = short_at i h ∙ supported i h e
              go (no h) = short_end i (omega arith)

          combined : (j : ℕ) → j < n → A y j ≡ mixed R m short A j
          combined j b =
              combines j b
              ∙ applied.mixed_same R y u short A (λ i h. sym (short_at i h)) j
              ∙ sym (applied.mixed_ends R L y m short A j (le_of_lt row) short_end)

    -- ---- the rows that contradict each other

    module _ (w : Vector R) (y : ℕ) (row : y < m) (differs : apply R n A (apply R m D w) y ≡ w y → ⊥) where
      pub differing_outside : J y ≡ false
      differing_outside = is_false (J y) (λ e. differs (rows_fit R L Q w y e))

      -- the mix of row y is zero elsewhere than at y and where row y of A D is not
      mix_zero : (i : ℕ) → (i ≡ y → ⊥) → product R n A D y i ≡ 𝟘 → mix_of R n A D y i ≡ 𝟘
      unfolding mix_of
      mix_zero i d e = applied.less_zero R L (unit R y i) (product R n A D y i) e ∙ sums.unit_other R y i (λ q. d (sym q))

      -- no x solves row y and the rows that it combines from
      pub no_common_solution : (x : Vector R) → ((i : ℕ) → i < m → (i ≡ y) ⊎ (product R n A D y i ≡ 𝟘 → ⊥) → apply R n A x i ≡ w i) → ⊥
      no_common_solution x solves =
          differs
          (zero_remainder R L n A (apply R m D w) w y
          (sym (mix_shows R L m n A D w y row)
          ∙ sums.sum_same R m (λ i. mix_of R n A D y i ⊗ w i) (λ i. mix_of R n A D y i ⊗ apply R n A x i) term
          ∙ sym (applied.mixed_apply R L n m (mix_of R n A D y) A x)
          ∙ sums.sum_zeros R L n (λ j. mixed R m (mix_of R n A D y) A j ⊗ x j)
          (λ j b. ap (λ a. a ⊗ x j) (mix_kills R L Q.absorbs y row j b) ∙ rings.zero_times R L (x j))))
        where
          term : (i : ℕ) → i < m → mix_of R n A D y i ⊗ w i ≡ mix_of R n A D y i ⊗ apply R n A x i
          term i l = go (ℕ_discrete i y) (F.equal? (product R n A D y i) 𝟘)
            where
              go : Dec (i ≡ y) → Dec (product R n A D y i ≡ 𝟘) → mix_of R n A D y i ⊗ w i ≡ mix_of R n A D y i ⊗ apply R n A x i
              go (yes e) _ = ap (λ a. mix_of R n A D y i ⊗ a) (sym (solves i l (inl e)))
              go (no d) (no f) = ap (λ a. mix_of R n A D y i ⊗ a) (sym (solves i l (inr f)))
              go (no d) (yes e) =
                  ap (λ a. a ⊗ w i) (mix_zero i d e)
                  ∙ rings.zero_times R L (w i)
                  ∙ sym (ap (λ a. a ⊗ apply R n A x i) (mix_zero i d e) ∙ rings.zero_times R L (apply R n A x i))

    -- ---- without row k

    module _ (y k : ℕ) (used : product R n A D y k ≡ 𝟘 → ⊥) (w : Vector R) where
      -- what is left over in row y, by the multiplier of k
      step : Carrier
      step = F.inverse (product R n A D y k) ⊗ remainder R n A (apply R m D w) w y

      -- D w, moved by so much of column k of D
      pub moved : Vector R
      moved t = apply R m D w t ⊕ D t k ⊗ step

      moved_row : (i : ℕ) → apply R n A moved i ≡ apply R n A (apply R m D w) i ⊕ product R n A D i k ⊗ step
      unfolding apply product moved
      moved_row i =
          applied.apply_plus R L n A (apply R m D w) (λ t. D t k ⊗ step) i
          ∙ ap (λ a. apply R n A (apply R m D w) i ⊕ a)
          (sums.sum_same R n (λ t. A i t ⊗ (D t k ⊗ step)) (λ t. A i t ⊗ D t k ⊗ step) (λ t l. sym (L.times_assoc (A i t) (D t k) step))
          ∙ sym (sums.sum_times R L n (λ t. A i t ⊗ D t k) step))

      -- it solves the rows of J but k
      pub moved_keeps : (i : ℕ) → J i ≡ true → (i ≡ k → ⊥) → apply R n A moved i ≡ w i
      moved_keeps i e d =
          moved_row i
          ∙ ap₂ ◌⊕◌ (rows_fit R L Q w i e)
          (ap (λ a. a ⊗ step) (Q.fixes_row i k e ∙ sums.unit_other R i k d) ∙ rings.zero_times R L step)
          ∙ L.plus_zero (w i)

      -- and row y
      pub moved_solves : apply R n A moved y ≡ w y
      unfolding remainder step
      moved_solves =
          let a = apply R n A (apply R m D w) y in
          let c = product R n A D y k in
          moved_row y
          ∙ ap (λ b. a ⊕ b)
          (sym (L.times_assoc c (F.inverse c) (w y ⊕ minus a))
          ∙ ap (λ b. b ⊗ (w y ⊕ minus a)) (F.times_inverse c used)
          ∙ rings.one_times R L (w y ⊕ minus a))
          ∙ rings.plus_difference R L a (w y)
