-- Matrices put together from an upper and a lower part, or from a left and a right one: their entries and products. A
-- position is in the first part or behind it (`Part`), which spares index arithmetic.
use mathlib.Core.Path.{◌≡◌, refl, sym, ap, ◌∙◌, subst}
use mathlib.Core.Bool.{Bool, true, false}
use Prim.Native.Nat.{ℕ, ◌+◌, ◌-◌, ◌≤◌, ◌<◌}
use native.Mathlib.Nat.{le-add_right, add-sub_cancel_left, add-sub_of_le, add_left_cancel}
use native.Mathlib.Decide.{dec_lt, ℕ_discrete}
use native.Mathlib.Omega.{arith}
use lib.Dec.{ltb}
use borrow.Author.Tests.{lt-ltb, le-ltb}
use Rattle.algebra.specs.Choice.{choose}
use Rattle.algebra.specs.Ring.{Ring, IsCommutativeRing}
use Rattle.algebra.specs.Matrix.{Matrix, sum, unit, add, product, stack, beside}
use Rattle.algebra.proofs.Sums as sums
use Rattle.algebra.proofs.Matrices.{entries}

-- a position is one of the first m, or the k-th after them
pub data Part (m : ℕ) : ℕ → Type 0 where
  upper : {i : ℕ} → i < m → Part m i
  lower : (k : ℕ) → Part m (m + k)

pub part : (m i : ℕ) → Part m i
part m i = go (dec_lt i m)
  where
    go : Dec (i < m) → Part m i
    go (yes h) = upper h
    go (no h) =
        let l : m ≤ i = omega arith in
        subst (Part m) (add-sub_of_le l) (lower (i - m))

-- what is chosen by the place, in the first part and behind it
pub choose_upper : {A : Type 0} (m i : ℕ) (a b : A) → i < m → choose (ltb i m) a b ≡ a
choose_upper m i a b h = ap (λ t. choose t a b) (lt-ltb i m h)

pub choose_lower : {A : Type 0} (m k : ℕ) (a : A) (b : ℕ → A) → choose (ltb (m + k) m) a (b (m + k - m)) ≡ b k
choose_lower m k a b =
    ap (λ t. choose t a (b (m + k - m))) (le-ltb (m + k) m (le-add_right m k)) ∙ ap b (add-sub_cancel_left m k)

module _ (R : Ring) where
  pub stack_upper : (m : ℕ) (B L : Matrix R) (i j : ℕ) → i < m → stack R m B L i j ≡ B i j
  unfolding stack
  stack_upper m B L i j h = choose_upper m i (B i j) (L (i - m) j) h

  pub stack_lower : (m : ℕ) (B L : Matrix R) (k j : ℕ) → stack R m B L (m + k) j ≡ L k j
  unfolding stack
  stack_lower m B L k j = choose_lower m k (B (m + k) j) (λ r. L r j)

  pub beside_left : (m : ℕ) (X Y : Matrix R) (i j : ℕ) → j < m → beside R m X Y i j ≡ X i j
  unfolding beside
  beside_left m X Y i j h = choose_upper m j (X i j) (Y i (j - m)) h

  pub beside_right : (m : ℕ) (X Y : Matrix R) (i k : ℕ) → beside R m X Y i (m + k) ≡ Y i k
  unfolding beside
  beside_right m X Y i k = choose_lower m k (X i (m + k)) (λ r. Y i r)

  -- unit matrices have unit matrices in their corners
  pub unit_lower : (m i j : ℕ) → unit R (m + i) (m + j) ≡ unit R i j
  unit_lower m i j = go (ℕ_discrete i j)
    where
      go : Dec (i ≡ j) → unit R (m + i) (m + j) ≡ unit R i j
      go (yes e) = subst (λ k. unit R (m + i) (m + k) ≡ unit R i k) e (sums.unit_same R (m + i) ∙ sym (sums.unit_same R i))
      go (no d) = sums.unit_other R (m + i) (m + j) (λ e. d (add_left_cancel m e)) ∙ sym (sums.unit_other R i j d)

module _ (R : Ring) (L : IsCommutativeRing R) where
  open R use {Carrier, plus as ◌⊕◌, times as ◌⊗◌}

  infixl 60 ◌⊕◌
  infixl 70 ◌⊗◌
  -- a product with rows from two parts has its rows from two products
  pub stack_product : (n m : ℕ) (B K X : Matrix R) → product R n (stack R m B K) X ≡ stack R m (product R n B X) (product R n K X)
  unfolding product stack
  stack_product n m B K X =
      entries R (product R n (stack R m B K) X) (stack R m (product R n B X) (product R n K X)) (λ i j. by i j (ltb i m))
    where
      by : (i j : ℕ) (b : Bool)
          → sum R n (λ t. choose b (B i t) (K (i - m) t) ⊗ X t j) ≡ choose b (sum R n (λ t. B i t ⊗ X t j)) (sum R n (λ t. K (i - m) t ⊗ X t j))
      by i j true = refl
      by i j false = refl

  pub product_beside : (n m : ℕ) (X Y Z : Matrix R) → product R n X (beside R m Y Z) ≡ beside R m (product R n X Y) (product R n X Z)
  unfolding product beside
  product_beside n m X Y Z =
      entries R (product R n X (beside R m Y Z)) (beside R m (product R n X Y) (product R n X Z)) (λ i j. by i j (ltb j m))
    where
      by : (i j : ℕ) (b : Bool)
          → sum R n (λ t. X i t ⊗ choose b (Y t j) (Z t (j - m))) ≡ choose b (sum R n (λ t. X i t ⊗ Y t j)) (sum R n (λ t. X i t ⊗ Z t (j - m)))
      by i j true = refl
      by i j false = refl

  -- columns from two parts times rows from two parts: the sum of the two products
  pub beside_stack : (m k : ℕ) (X Y B K : Matrix R)
      → product R (m + k) (beside R m X Y) (stack R m B K) ≡ add R (product R m X B) (product R k Y K)
  unfolding product add
  beside_stack m k X Y B K =
      entries R (product R (m + k) (beside R m X Y) (stack R m B K)) (add R (product R m X B) (product R k Y K))
      (λ i j.
      sums.sum_split R L m k (λ t. beside R m X Y i t ⊗ stack R m B K t j)
      ∙ (λ e.
      sums.sum_same R m (λ t. beside R m X Y i t ⊗ stack R m B K t j) (λ t. X i t ⊗ B t j)
      (λ t h e. beside_left R m X Y i t h e ⊗ stack_upper R m B K t j h e) e
      ⊕ sums.sum_same R k (λ t. beside R m X Y i (m + t) ⊗ stack R m B K (m + t) j) (λ t. Y i t ⊗ K t j)
      (λ t h e. beside_right R m X Y i t e ⊗ stack_lower R m B K t j e) e))
