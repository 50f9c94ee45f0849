-- The solutions of A x = v where all rows of A are in J: D v is one of them, and all of them have the same number at j exactly if
-- row j of D A is the unit row of j.
use mathlib.Core.Path.{◌≡◌, sym, ap, ◌∙◌}
use mathlib.Core.Bool.{true}
use Prim.Native.Nat.{ℕ, ◌<◌}
use Rattle.algebra.specs.Ring.{Ring, IsCommutativeRing}
use Rattle.algebra.specs.Matrix.{Vector, Matrix, unit, product, apply}
use Rattle.algebra.specs.Span.{Solves, AgreeAt}
use Rattle.algebra.specs.Kernel.{kernel_vector}
use Rattle.algebra.specs.Quasiinverse.{Marks, IsPivotInverse}
use Rattle.algebra.proofs.Rings as rings
use Rattle.algebra.proofs.Sums as sums
use Rattle.algebra.proofs.Applied as applied
use Rattle.algebra.proofs.Independent.{independent_inverse}
use Rattle.algebra.proofs.Settled.{agree_if, agree_only_if}

module _
    (R : Ring)
    (L : IsCommutativeRing R)
    {m n : ℕ}
    {A D : Matrix R}
    {I J : Marks}
    (Q : IsPivotInverse R m n A D I J)
    (full : (y : ℕ) → y < m → J y ≡ true)
    (v : Vector R)
  where
    -- A (D v) = (A D) v = v
    pub inverse_solves : Solves R m n A (apply R m D v) v
    unfolding apply
    inverse_solves i l =
        sym (applied.apply_product R L m n A D v i)
        ∙ sums.sum_same R m (λ t. R.times (product R n A D i t) (v t)) (λ t. R.times (unit R i t) (v t))
        (λ t h. ap (λ a. R.times a (v t)) (independent_inverse R L Q full i t l h))
        ∙ applied.unit_apply R L m v i l

    -- row j of D A is the unit row of j: every solution has (D v) j at j
    pub unit_agree : (j : ℕ) → j < n → ((c : ℕ) → c < n → product R m D A j c ≡ unit R j c) → AgreeAt R m n A v j (apply R m D v j)
    unfolding kernel_vector
    unit_agree j l row =
        agree_if R L Q.absorbs v j l (λ c h. ap (λ a. R.plus (unit R j c) (R.minus a)) (row c h) ∙ L.plus_minus (unit R j c))

    -- and the other way round
    pub agree_unit : (j : ℕ) → ((x y : Vector R) → Solves R m n A x v → Solves R m n A y v → x j ≡ y j)
        → (c : ℕ) → c < n → product R m D A j c ≡ unit R j c
    unfolding kernel_vector
    agree_unit j agree c h =
        sym
        (rings.difference_zero R L (unit R j c) (product R m D A j c)
        (agree_only_if R L Q.absorbs v (apply R m D v) inverse_solves j c h (apply R m D v j)
        (λ x s. agree x (apply R m D v) s inverse_solves)))
