-- The laws of a matrix applied to a column and of a row mixing a matrix's rows, from those of the product: both are
-- products with a matrix of one column, or of one row. Below them, what zero rows and columns and the identity do.
use mathlib.Core.Path.{◌≡◌, refl, sym, ap, ◌∙◌}
use Prim.Native.Nat.{ℕ, ◌+◌, ◌-◌, ◌≤◌, ◌<◌}
use native.Mathlib.Nat.{le-add_right, add-sub_of_le}
use Rattle.algebra.specs.Ring.{Ring, IsCommutativeRing}
use Rattle.algebra.specs.Matrix.{Vector, Matrix, sum, unit, add, negative, product, apply, mixed}
use Rattle.algebra.proofs.Rings as rings
use Rattle.algebra.proofs.Sums as sums
use Rattle.algebra.proofs.Matrices as matrices

module _ (R : Ring) where
  open R use {times as ◌⊗◌}

  infixl 70 ◌⊗◌
  -- the product's column is the left matrix applied to the right one's column
  pub product_column : (k : ℕ) (X Y : Matrix R) (i j : ℕ) → product R k X Y i j ≡ apply R k X (λ t. Y t j) i
  unfolding product apply
  product_column k X Y i j = refl

  -- the product's row is the left matrix's row mixing the right one's rows
  pub product_row : (k : ℕ) (X Y : Matrix R) (i j : ℕ) → product R k X Y i j ≡ mixed R k (X i) Y j
  unfolding product mixed
  product_row k X Y i j = refl

  -- only the entries below the bound count
  pub apply_same : (n : ℕ) (X : Matrix R) (x y : Vector R) → ((t : ℕ) → t < n → x t ≡ y t)
      → (i : ℕ) → apply R n X x i ≡ apply R n X y i
  unfolding apply
  apply_same n X x y h i = sums.sum_same R n (λ t. X i t ⊗ x t) (λ t. X i t ⊗ y t) (λ t l. ap (λ a. X i t ⊗ a) (h t l))

  -- likewise for the multipliers of a mix
  pub mixed_same : (m : ℕ) (u v : Vector R) (X : Matrix R) → ((t : ℕ) → t < m → u t ≡ v t)
      → (j : ℕ) → mixed R m u X j ≡ mixed R m v X j
  unfolding mixed
  mixed_same m u v X h j = sums.sum_same R m (λ t. u t ⊗ X t j) (λ t. v t ⊗ X t j) (λ t l. ap (λ a. a ⊗ X t j) (h t l))

module _ (R : Ring) (L : IsCommutativeRing R) where
  open R use {Carrier, zero as 𝟘, plus as ◌⊕◌, times as ◌⊗◌, minus}

  infixl 60 ◌⊕◌
  infixl 70 ◌⊗◌
  -- taking zero away
  pub less_zero : (a b : Carrier) → b ≡ 𝟘 → a ⊕ minus b ≡ a
  less_zero a b e = ap (λ x. a ⊕ minus x) e ∙ ap (λ x. a ⊕ x) (rings.minus_zero R L) ∙ L.plus_zero a

  -- (X Y) x = X (Y x)
  pub apply_product : (k l : ℕ) (X Y : Matrix R) (x : Vector R) (i : ℕ)
      → apply R k (product R l X Y) x i ≡ apply R l X (apply R k Y x) i
  unfolding product apply
  apply_product k l X Y x i = matrices.entry R (matrices.product_assoc R L k l X Y (λ t j. x t)) i i

  -- (u X) Y = u (X Y)
  pub mixed_product : (k l : ℕ) (u : Vector R) (X Y : Matrix R) (j : ℕ)
      → mixed R k (mixed R l u X) Y j ≡ mixed R l u (product R k X Y) j
  unfolding product mixed
  mixed_product k l u X Y j = matrices.entry R (matrices.product_assoc R L k l (λ i. u) X Y) j j

  -- (u X) x = u (X x)
  pub mixed_apply : (k l : ℕ) (u : Vector R) (X : Matrix R) (x : Vector R)
      → sum R k (λ t. mixed R l u X t ⊗ x t) ≡ sum R l (λ s. u s ⊗ apply R k X x s)
  unfolding product mixed apply
  mixed_apply k l u X x = matrices.entry R (matrices.product_assoc R L k l (λ i. u) X (λ t j. x t)) k l

  -- X (x + y)
  pub apply_plus : (n : ℕ) (X : Matrix R) (x y : Vector R) (i : ℕ) → apply R n X (λ t. x t ⊕ y t) i ≡ apply R n X x i ⊕ apply R n X y i
  unfolding product apply add
  apply_plus n X x y i = matrices.entry R (matrices.product_add R L n X (λ t j. x t) (λ t j. y t)) i i

  -- X (x - y), (X - Y) x and (u - v) X
  pub apply_difference : (n : ℕ) (X : Matrix R) (x y : Vector R) (i : ℕ)
      → apply R n X (λ t. x t ⊕ minus (y t)) i ≡ apply R n X x i ⊕ minus (apply R n X y i)
  unfolding product apply add negative
  apply_difference n X x y i = matrices.entry R (matrices.product_difference R L n X (λ t j. x t) (λ t j. y t)) i i

  pub difference_apply : (n : ℕ) (X Y : Matrix R) (x : Vector R) (i : ℕ)
      → apply R n (λ k t. X k t ⊕ minus (Y k t)) x i ≡ apply R n X x i ⊕ minus (apply R n Y x i)
  unfolding product apply add negative
  difference_apply n X Y x i = matrices.entry R (matrices.difference_product R L n X Y (λ t j. x t)) i i

  pub difference_mixed : (m : ℕ) (u v : Vector R) (X : Matrix R) (j : ℕ)
      → mixed R m (λ t. u t ⊕ minus (v t)) X j ≡ mixed R m u X j ⊕ minus (mixed R m v X j)
  unfolding product mixed add negative
  difference_mixed m u v X j = matrices.entry R (matrices.difference_product R L m (λ k. u) (λ k. v) X) j j

  -- (u + v) X, (- u) X and (a u) X
  pub plus_mixed : (m : ℕ) (u v : Vector R) (X : Matrix R) (j : ℕ)
      → mixed R m (λ t. u t ⊕ v t) X j ≡ mixed R m u X j ⊕ mixed R m v X j
  unfolding product mixed add
  plus_mixed m u v X j = matrices.entry R (matrices.add_product R L m (λ k. u) (λ k. v) X) j j

  pub negative_mixed : (m : ℕ) (u : Vector R) (X : Matrix R) (j : ℕ) → mixed R m (λ t. minus (u t)) X j ≡ minus (mixed R m u X j)
  unfolding product mixed negative
  negative_mixed m u X j = matrices.entry R (matrices.negative_product R L m (λ k. u) X) j j

  pub times_mixed : (m : ℕ) (a : Carrier) (u : Vector R) (X : Matrix R) (j : ℕ) → mixed R m (λ t. a ⊗ u t) X j ≡ a ⊗ mixed R m u X j
  unfolding mixed
  times_mixed m a u X j =
      sums.sum_same R m (λ t. a ⊗ u t ⊗ X t j) (λ t. a ⊗ (u t ⊗ X t j)) (λ t l. L.times_assoc a (u t) (X t j))
      ∙ sym (sums.times_sum R L m a (λ t. u t ⊗ X t j))

  -- X (- x) = - X x
  pub apply_negative : (n : ℕ) (X : Matrix R) (x : Vector R) (i : ℕ)
      → apply R n X (λ t. minus (x t)) i ≡ minus (apply R n X x i)
  unfolding product apply negative
  apply_negative n X x i = matrices.entry R (matrices.product_negative R L n X (λ t j. x t)) i i

  -- the identity applied, and the unit columns and rows
  pub unit_apply : (n : ℕ) (x : Vector R) (i : ℕ) → i < n → apply R n (unit R) x i ≡ x i
  unfolding apply
  unit_apply n x i l = sums.unit_sum R L n x i l

  pub apply_unit : (n : ℕ) (X : Matrix R) (i c : ℕ) → c < n → apply R n X (λ t. unit R t c) i ≡ X i c
  unfolding apply
  apply_unit n X i c l = sums.sum_unit R L n (X i) c l

  pub unit_mixed : (m : ℕ) (X : Matrix R) (y j : ℕ) → y < m → mixed R m (unit R y) X j ≡ X y j
  unfolding mixed
  unit_mixed m X y j l = sums.unit_sum R L m (λ t. X t j) y l

  -- a zero column goes to zero
  pub apply_zeros : (n : ℕ) (X : Matrix R) (x : Vector R) (i : ℕ) → ((t : ℕ) → t < n → x t ≡ 𝟘) → apply R n X x i ≡ 𝟘
  unfolding apply
  apply_zeros n X x i h =
      sums.sum_zeros R L n (λ t. X i t ⊗ x t) (λ t l. ap (λ a. X i t ⊗ a) (h t l) ∙ rings.times_zero R L (X i t))

  -- a zero row mixes to zero
  pub zeros_mixed : (m : ℕ) (u : Vector R) (X : Matrix R) (j : ℕ) → ((t : ℕ) → t < m → u t ≡ 𝟘) → mixed R m u X j ≡ 𝟘
  unfolding mixed
  zeros_mixed m u X j h =
      sums.sum_zeros R L m (λ t. u t ⊗ X t j) (λ t l. ap (λ a. a ⊗ X t j) (h t l) ∙ rings.zero_times R L (X t j))

  -- a zero row of the matrix gives zero
  pub zero_row_apply : (n : ℕ) (X : Matrix R) (x : Vector R) (i : ℕ) → ((t : ℕ) → t < n → X i t ≡ 𝟘)
      → apply R n X x i ≡ 𝟘
  unfolding apply
  zero_row_apply n X x i h =
      sums.sum_zeros R L n (λ t. X i t ⊗ x t) (λ t l. ap (λ a. a ⊗ x t) (h t l) ∙ rings.zero_times R L (x t))

  -- entries that are zero from c on do not enter
  pub apply_ends : (c n : ℕ) (X : Matrix R) (x : Vector R) (i : ℕ) → c ≤ n → ((t : ℕ) → c ≤ t → x t ≡ 𝟘)
      → apply R n X x i ≡ apply R c X x i
  unfolding apply
  apply_ends c n X x i l h =
      ap (λ k. sum R k f) (sym (add-sub_of_le l))
      ∙ sums.sum_split R L c (n - c) f
      ∙ ap (λ a. sum R c f ⊕ a)
      (sums.sum_zeros R L (n - c) (λ t. f (c + t)) (λ t k. zero_term (c + t) (le-add_right c t)))
      ∙ L.plus_zero (sum R c f)
    where
      f : Vector R
      f t = X i t ⊗ x t

      zero_term : (t : ℕ) → c ≤ t → f t ≡ 𝟘
      zero_term t k = ap (λ a. X i t ⊗ a) (h t k) ∙ rings.times_zero R L (X i t)

  -- likewise multipliers
  pub mixed_ends : (c n : ℕ) (u : Vector R) (X : Matrix R) (j : ℕ) → c ≤ n → ((t : ℕ) → c ≤ t → u t ≡ 𝟘)
      → mixed R n u X j ≡ mixed R c u X j
  unfolding mixed apply
  mixed_ends c n u X j l h =
      sums.sum_same R n (λ t. u t ⊗ X t j) (λ t. X t j ⊗ u t) (λ t b. L.times_comm (u t) (X t j))
      ∙ apply_ends c n (λ k t. X t j) u j l h
      ∙ sums.sum_same R c (λ t. X t j ⊗ u t) (λ t. u t ⊗ X t j) (λ t b. L.times_comm (X t j) (u t))
