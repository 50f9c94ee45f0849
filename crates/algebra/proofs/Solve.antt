-- Solving A x = w by a D with A D A = A: if there is a solution then D w is one. If D w leaves something over at row y then row y of
-- 1 - A D, a mix of A's rows that is zero, is not zero on w: it is just what is left over.
use mathlib.Core.Path.{◌≡◌, sym, ap₂, ◌∙◌}
use mathlib.Core.Bool.{false}
use Prim.Native.Nat.{ℕ, ◌<◌}
use Rattle.algebra.specs.Ring.{Ring, IsCommutativeRing}
use Rattle.algebra.specs.Matrix.{Vector, Matrix, sum, unit, product, apply, mixed}
use Rattle.algebra.specs.Span.{Solves}
use Rattle.algebra.specs.Quasiinverse.{Marks, Absorbs, IsPivotInverse}
use Rattle.algebra.specs.Solve.{mix_of, remainder}
use Rattle.algebra.proofs.Matrices as matrices
use Rattle.algebra.proofs.Applied as applied
use Rattle.algebra.proofs.Chosen.{zero_column}
use Rattle.algebra.proofs.Unique.{absorbs_left, absorbs_apply}

module _ (R : Ring) (L : IsCommutativeRing R) where
  open R use {zero as 𝟘, plus as ◌⊕◌, times as ◌⊗◌, minus}

  infixl 60 ◌⊕◌
  infixl 70 ◌⊗◌
  module _ {m n : ℕ} {A D : Matrix R} (E : Absorbs R m n A D) where
    -- if the system has a solution, D w is one
    pub candidate_solves : (x w : Vector R) → Solves R m n A x w → Solves R m n A (apply R m D w) w
    candidate_solves x w h i l =
        applied.apply_same R n A (apply R m D w) (apply R m D (apply R n A x))
        (λ c k. applied.apply_same R m D w (apply R n A x) (λ t g. sym (h t g)) c) i
        ∙ absorbs_apply R L E x i
        ∙ h i l

    -- the mix of row y makes zero of A's rows
    pub mix_kills : (y : ℕ) → y < m → (j : ℕ) → j < n → mixed R m (mix_of R n A D y) A j ≡ 𝟘
    unfolding mix_of
    mix_kills y l j k =
        applied.difference_mixed R L m (unit R y) (product R n A D y) A j
        ∙ ap₂ (λ a b. a ⊕ minus b) (applied.unit_mixed R L m A y j l)
        (sym (applied.product_row R m (product R n A D) A y j) ∙ matrices.entry R (absorbs_left R L E) y j)
        ∙ L.plus_minus (A y j)

  -- outside J it is the unit row of y
  pub mix_own : {m n : ℕ} {A D : Matrix R} {I J : Marks} → IsPivotInverse R m n A D I J
      → (y t : ℕ) → J t ≡ false → mix_of R n A D y t ≡ unit R y t
  unfolding mix_of
  mix_own {n = n} {A = A} {D = D} Q y t e = applied.less_zero R L (unit R y t) (product R n A D y t) (zero_column R L Q y t e)

  -- on w it is what D w leaves over at row y
  pub mix_shows : (m n : ℕ) (A D : Matrix R) (w : Vector R) (y : ℕ) → y < m
      → sum R m (λ t. mix_of R n A D y t ⊗ w t) ≡ remainder R n A (apply R m D w) w y
  unfolding mix_of apply remainder
  mix_shows m n A D w y l =
      applied.difference_apply R L m (unit R) (product R n A D) w y
      ∙ ap₂ (λ a b. a ⊕ minus b) (applied.unit_apply R L m w y l) (applied.apply_product R L m n A D w y)
