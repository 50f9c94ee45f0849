-- The laws of matrix sums and products, as equations of functions, and of matrices put together from blocks. The inner
-- size of a product is a label: associativity and distributivity hold whatever it is.
use mathlib.Core.Path.{◌≡◌, sym, ap, ◌∙◌, fun_ext}
use Prim.Native.Nat.{ℕ}
use Rattle.algebra.specs.Ring.{Ring, IsCommutativeRing}
use Rattle.algebra.specs.Matrix.{Matrix, sum, zeros, add, negative, product}
use Rattle.algebra.proofs.Rings as rings
use Rattle.algebra.proofs.Sums as sums

-- two matrices with equal entries are equal
pub entries : (R : Ring) (X Y : Matrix R) → ((i j : ℕ) → X i j ≡ Y i j) → X ≡ Y
entries R X Y h = fun_ext (λ i. fun_ext (λ j. h i j))

-- the entry of equal matrices
pub entry : (R : Ring) {X Y : Matrix R} → X ≡ Y → (i j : ℕ) → X i j ≡ Y i j
entry R e i j = λ k. e k i j

module _ (R : Ring) (L : IsCommutativeRing R) where
  open R use {Carrier, zero as 𝟘, one as 𝟙, plus as ◌⊕◌, times as ◌⊗◌, minus}

  infixl 60 ◌⊕◌
  infixl 70 ◌⊗◌
  pub add_assoc : (X Y Z : Matrix R) → add R (add R X Y) Z ≡ add R X (add R Y Z)
  unfolding add
  add_assoc X Y Z = λ k i j. L.plus_assoc (X i j) (Y i j) (Z i j) k

  pub add_comm : (X Y : Matrix R) → add R X Y ≡ add R Y X
  unfolding add
  add_comm X Y = λ k i j. L.plus_comm (X i j) (Y i j) k

  pub add_zeros : (X : Matrix R) → add R X (zeros R) ≡ X
  unfolding add zeros
  add_zeros X = λ k i j. L.plus_zero (X i j) k

  pub zeros_add : (X : Matrix R) → add R (zeros R) X ≡ X
  zeros_add X = add_comm (zeros R) X ∙ add_zeros X

  pub add_negative : (X : Matrix R) → add R X (negative R X) ≡ zeros R
  unfolding add negative zeros
  add_negative X = λ k i j. L.plus_minus (X i j) k

  pub negative_zeros : negative R (zeros R) ≡ zeros R
  unfolding negative zeros
  negative_zeros = λ k i j. rings.minus_zero R L k

  -- X + (Y - X) = Y
  pub add_difference : (X Y : Matrix R) → add R X (add R Y (negative R X)) ≡ Y
  unfolding add negative
  add_difference X Y = λ k i j. rings.plus_difference R L (X i j) (Y i j) k

  pub product_assoc : (k l : ℕ) (X Y Z : Matrix R) → product R k (product R l X Y) Z ≡ product R l X (product R k Y Z)
  unfolding product
  product_assoc k l X Y Z =
      entries R (product R k (product R l X Y) Z) (product R l X (product R k Y Z))
      (λ i j.
      sums.sum_same R k (λ t. sum R l (λ s. X i s ⊗ Y s t) ⊗ Z t j) (λ t. sum R l (λ s. X i s ⊗ (Y s t ⊗ Z t j)))
      (λ t h.
      sums.sum_times R L l (λ s. X i s ⊗ Y s t) (Z t j)
      ∙ sums.sum_same R l (λ s. X i s ⊗ Y s t ⊗ Z t j) (λ s. X i s ⊗ (Y s t ⊗ Z t j)) (λ s g. L.times_assoc (X i s) (Y s t) (Z t j)))
      ∙ sums.sum_swap R L k l (λ t s. X i s ⊗ (Y s t ⊗ Z t j))
      ∙ sums.sum_same R l (λ s. sum R k (λ t. X i s ⊗ (Y s t ⊗ Z t j))) (λ s. X i s ⊗ sum R k (λ t. Y s t ⊗ Z t j))
      (λ s g. sym (sums.times_sum R L k (X i s) (λ t. Y s t ⊗ Z t j))))

  pub product_add : (k : ℕ) (X Y Z : Matrix R) → product R k X (add R Y Z) ≡ add R (product R k X Y) (product R k X Z)
  unfolding product add
  product_add k X Y Z =
      entries R (product R k X (add R Y Z)) (add R (product R k X Y) (product R k X Z))
      (λ i j.
      sums.sum_same R k (λ t. X i t ⊗ (Y t j ⊕ Z t j)) (λ t. X i t ⊗ Y t j ⊕ X i t ⊗ Z t j) (λ t h. L.times_plus (X i t) (Y t j) (Z t j))
      ∙ sums.sum_plus R L k (λ t. X i t ⊗ Y t j) (λ t. X i t ⊗ Z t j))

  pub add_product : (k : ℕ) (X Y Z : Matrix R) → product R k (add R X Y) Z ≡ add R (product R k X Z) (product R k Y Z)
  unfolding product add
  add_product k X Y Z =
      entries R (product R k (add R X Y) Z) (add R (product R k X Z) (product R k Y Z))
      (λ i j.
      sums.sum_same R k (λ t. (X i t ⊕ Y i t) ⊗ Z t j) (λ t. X i t ⊗ Z t j ⊕ Y i t ⊗ Z t j) (λ t h. rings.plus_times R L (X i t) (Y i t) (Z t j))
      ∙ sums.sum_plus R L k (λ t. X i t ⊗ Z t j) (λ t. Y i t ⊗ Z t j))

  pub product_negative : (k : ℕ) (X Y : Matrix R) → product R k X (negative R Y) ≡ negative R (product R k X Y)
  unfolding product negative
  product_negative k X Y =
      entries R (product R k X (negative R Y)) (negative R (product R k X Y))
      (λ i j.
      sums.sum_same R k (λ t. X i t ⊗ minus (Y t j)) (λ t. minus (X i t ⊗ Y t j)) (λ t h. rings.times_minus R L (X i t) (Y t j))
      ∙ sym (sums.minus_sum R L k (λ t. X i t ⊗ Y t j)))

  pub negative_product : (k : ℕ) (X Y : Matrix R) → product R k (negative R X) Y ≡ negative R (product R k X Y)
  unfolding product negative
  negative_product k X Y =
      entries R (product R k (negative R X) Y) (negative R (product R k X Y))
      (λ i j.
      sums.sum_same R k (λ t. minus (X i t) ⊗ Y t j) (λ t. minus (X i t ⊗ Y t j)) (λ t h. rings.minus_times R L (X i t) (Y t j))
      ∙ sym (sums.minus_sum R L k (λ t. X i t ⊗ Y t j)))

  pub zeros_product : (k : ℕ) (Y : Matrix R) → product R k (zeros R) Y ≡ zeros R
  unfolding product zeros
  zeros_product k Y =
      entries R (product R k (zeros R) Y) (zeros R)
      (λ i j. sums.sum_zeros R L k (λ t. 𝟘 ⊗ Y t j) (λ t h. rings.zero_times R L (Y t j)))

  -- X (Y - Z) and (X - Y) Z
  pub product_difference : (k : ℕ) (X Y Z : Matrix R)
      → product R k X (add R Y (negative R Z)) ≡ add R (product R k X Y) (negative R (product R k X Z))
  product_difference k X Y Z = product_add k X Y (negative R Z) ∙ ap (add R (product R k X Y)) (product_negative k X Z)

  pub difference_product : (k : ℕ) (X Y Z : Matrix R)
      → product R k (add R X (negative R Y)) Z ≡ add R (product R k X Z) (negative R (product R k Y Z))
  difference_product k X Y Z = add_product k X (negative R Y) Z ∙ ap (add R (product R k X Z)) (negative_product k Y Z)
