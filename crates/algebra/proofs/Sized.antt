-- Matrices that are zero outside their sizes: they are equal if their entries inside are, and a product of two is one. So whether
-- A D A = A is a question of finitely many entries, and is decided where equality of entries is.
use mathlib.Core.Path.{◌≡◌, sym, ◌∙◌}
use Prim.Native.Nat.{ℕ, ◌≤◌, ◌<◌}
use native.Mathlib.Decide.{dec_lt}
use native.Mathlib.Omega.{arith}
use Rattle.algebra.specs.Ring.{Ring, IsCommutativeRing}
use Rattle.algebra.specs.Matrix.{Matrix, Sized, product}
use Rattle.algebra.specs.Quasiinverse.{Absorbs}
use Rattle.algebra.proofs.Choice.{all_below?}
use Rattle.algebra.proofs.Matrices.{entry, entries}
use Rattle.algebra.proofs.Step.{product_row, product_column}

-- a position is inside or not
pub by_size : {P : Type 0} (i n : ℕ) → (i < n → P) → (n ≤ i → P) → P
by_size {P} i n f g = go (dec_lt i n)
  where
    go : Dec (i < n) → P
    go (yes h) = f h
    go (no h) = g (omega arith)

module _ (R : Ring) where
  -- entries that agree inside the sizes agree
  sized_same : {m n : ℕ} {X Y : Matrix R} → Sized R m n X → Sized R m n Y → (i j : ℕ) → (i < m → j < n → X i j ≡ Y i j) → X i j ≡ Y i j
  sized_same {m} {n} sX sY i j h =
      by_size i m
      (λ k. by_size j n (h k) (λ l. sX.columns_end i j l ∙ sym (sY.columns_end i j l)))
      (λ k. sX.rows_end i j k ∙ sym (sY.rows_end i j k))

  -- so the matrices are equal
  pub sized_equal : (m n : ℕ) (X Y : Matrix R) → Sized R m n X → Sized R m n Y → ((i j : ℕ) → i < m → j < n → X i j ≡ Y i j) → X ≡ Y
  sized_equal m n X Y sX sY h = entries R X Y (λ i j. sized_same sX sY i j (h i j))

  -- an entry that is zero inside the sizes is zero
  pub sized_zero : {m n : ℕ} {X : Matrix R} → Sized R m n X → (i j : ℕ) → (i < m → j < n → X i j ≡ R.zero) → X i j ≡ R.zero
  sized_zero {m} {n} s i j h = by_size i m (λ k. by_size j n (h k) (s.columns_end i j)) (s.rows_end i j)

module _ (R : Ring) (L : IsCommutativeRing R) where
  pub product_sized : {m k n : ℕ} {X Y : Matrix R} → Sized R m k X → Sized R k n Y → Sized R m n (product R k X Y)
  product_sized {k = k} {X = X} {Y = Y} sX sY =
      record {
        rows_end = λ i j h. product_row R L k X Y i (λ t l. sX.rows_end i t h) j;
        columns_end = λ i j h. product_column R L k X Y j (λ t l. sY.columns_end t j h) i;
      }

  module _ {m n : ℕ} {A : Matrix R} (sA : Sized R m n A) where
    -- whatever D is, A D A has the size of A
    absorbed_sized : (D : Matrix R) → Sized R m n (product R n A (product R m D A))
    absorbed_sized D =
        record {
          rows_end = λ i j h. product_row R L n A (product R m D A) i (λ t l. sA.rows_end i t h) j;
          columns_end = λ i j h.
              product_column R L n A (product R m D A) j (λ t l. product_column R L m D A j (λ s b. sA.columns_end s j h) t) i;
        }

    -- A D A = A if it is so inside the sizes
    pub absorbs_inside : (D : Matrix R) → ((i j : ℕ) → i < m → j < n → product R n A (product R m D A) i j ≡ A i j) → Absorbs R m n A D
    absorbs_inside D h = record { equation = sized_equal R m n (product R n A (product R m D A)) A (absorbed_sized D) sA h }

    -- whether A D A = A
    pub absorbs? : (D : Matrix R) → ((a b : R.Carrier) → Dec (a ≡ b)) → Dec (Absorbs R m n A D)
    absorbs? D equal? =
        go
        (all_below? (λ i. (j : ℕ) → j < n → product R n A (product R m D A) i j ≡ A i j)
        (λ i. all_below? (λ j. product R n A (product R m D A) i j ≡ A i j) (λ j. equal? (product R n A (product R m D A) i j) (A i j)) n) m)
      where
        go : Dec ((i : ℕ) → i < m → (j : ℕ) → j < n → product R n A (product R m D A) i j ≡ A i j) → Dec (Absorbs R m n A D)
        go (yes h) = yes (absorbs_inside D (λ i j k l. h i k j l))
        go (no f) = no (λ a. f (λ i k j l. entry R a.equation i j))
