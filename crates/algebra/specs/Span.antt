-- Linear combinations, independence, kernel and image of a matrix, as document 01 and any textbook say them.
use Rattle.std.specs.Prelude.{◌≡◌, ℕ, ◌<◌}
use Rattle.algebra.specs.Ring.{Ring}
use Rattle.algebra.specs.Matrix.{Vector, Matrix, apply, mixed, transpose}

module _ (R : Ring) where
  -- v, n numbers, is the combination u of the first k rows of X
  abbrev pub Combines : ℕ → ℕ → Matrix R → Vector R → Vector R → Type 0
  Combines k n X u v = (j : ℕ) → j < n → v j ≡ mixed R k u X j

  -- v is some combination of the first k rows of X
  abbrev pub IsCombination : ℕ → ℕ → Matrix R → Vector R → Type 0
  IsCombination k n X v = (u : Vector R) × Combines k n X u v

  -- row y of A, n columns wide, is a combination of the rows before it
  abbrev pub RowDepends : ℕ → Matrix R → ℕ → Type 0
  RowDepends n A y = IsCombination y n A (A y)

  -- column c of A, m rows high, is a combination of the columns before it
  abbrev pub ColumnDepends : ℕ → Matrix R → ℕ → Type 0
  ColumnDepends m A c = IsCombination c m (transpose R A) (transpose R A c)

  -- no combination of the first k rows of X is zero but the one with all multipliers zero
  abbrev pub Independent : ℕ → ℕ → Matrix R → Type 0
  Independent k n X = (u : Vector R) → Combines k n X u (λ j. R.zero) → (t : ℕ) → t < k → u t ≡ R.zero

  -- A, m rows and n columns, sends x to zero
  abbrev pub InKernel : ℕ → ℕ → Matrix R → Vector R → Type 0
  InKernel m n A x = (i : ℕ) → i < m → apply R n A x i ≡ R.zero

  -- A x = w
  abbrev pub Solves : ℕ → ℕ → Matrix R → Vector R → Vector R → Type 0
  Solves m n A x w = (i : ℕ) → i < m → apply R n A x i ≡ w i

  -- all solutions of A x = w have v at j
  abbrev pub AgreeAt : ℕ → ℕ → Matrix R → Vector R → ℕ → R.Carrier → Type 0
  AgreeAt m n A w j v = (x : Vector R) → Solves m n A x w → x j ≡ v

  -- A X = W in the first s columns
  abbrev pub SolvesAll : (m n s : ℕ) → Matrix R → Matrix R → Matrix R → Type 0
  SolvesAll m n s A X W = (i : ℕ) → i < m → (w : ℕ) → w < s → apply R n A (λ t. X t w) i ≡ W i w

  -- all solutions of A X = W have the numbers v in row j
  abbrev pub AgreeInRow : (m n s : ℕ) → Matrix R → Matrix R → ℕ → Vector R → Type 0
  AgreeInRow m n s A W j v = (X : Matrix R) → SolvesAll m n s A X W → (w : ℕ) → w < s → X j w ≡ v w
