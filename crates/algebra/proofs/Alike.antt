-- Tables that have the same k rows of n numbers, whatever they have elsewhere, have the same combinations, and one is independent if the other is.
use mathlib.Core.Path.{◌≡◌, sym, ap, ◌∙◌}
use Prim.Native.Nat.{ℕ, ◌<◌}
use Rattle.algebra.specs.Ring.{Ring}
use Rattle.algebra.specs.Matrix.{Vector, Matrix, mixed}
use Rattle.algebra.specs.Span.{IsCombination, Independent}
use Rattle.algebra.proofs.Sums as sums

module _ (R : Ring) where
  abbrev pub Alike : (k n : ℕ) → Matrix R → Matrix R → Type 0
  Alike k n X Y = (i j : ℕ) → i < k → j < n → X i j ≡ Y i j

  pub alike_back : {k n : ℕ} (X Y : Matrix R) → Alike k n X Y → Alike k n Y X
  alike_back X Y same i j h l = sym (same i j h l)

  pub mixed_alike : (k n : ℕ) (X Y : Matrix R) → Alike k n X Y → (u : Vector R) (j : ℕ) → j < n → mixed R k u X j ≡ mixed R k u Y j
  unfolding mixed
  mixed_alike k n X Y same u j l =
      sums.sum_same R k (λ t. R.times (u t) (X t j)) (λ t. R.times (u t) (Y t j)) (λ t h. ap (R.times (u t)) (same t j h l))

  pub combination_alike : {k n : ℕ} (X Y : Matrix R) → Alike k n X Y
      → (v w : Vector R) → ((j : ℕ) → j < n → v j ≡ w j) → IsCombination R k n X v → IsCombination R k n Y w
  combination_alike {k} {n} X Y same v w e (u, c) = (u, λ j l. sym (e j l) ∙ c j l ∙ mixed_alike k n X Y same u j l)

  pub independent_alike : (k n : ℕ) (X Y : Matrix R) → Alike k n X Y → Independent R k n X → Independent R k n Y
  independent_alike k n X Y same free u h = free u (λ j l. h j l ∙ sym (mixed_alike k n X Y same u j l))
