-- Matrices over a ring as functions of a row and a column, and what is made of them. A matrix of m rows and n columns
-- is zero elsewhere (`Sized`), so that laws are plain equations of functions.
use Rattle.std.specs.Prelude.{◌≡◌, ℕ, zero, suc, ◌+◌, ◌-◌, ◌≤◌, eqb, ltb}
use Rattle.algebra.specs.Choice.{choose}
use Rattle.algebra.specs.Ring.{Ring}

abbrev pub Vector : Ring → Type 0
Vector R = ℕ → R.Carrier

abbrev pub Matrix : Ring → Type 0
Matrix R = ℕ → ℕ → R.Carrier

module _ (R : Ring) where
  -- f 0 + .. + f (n - 1)
  unfoldable pub sum : ℕ → Vector R → R.Carrier
  sum zero f = R.zero
  sum (suc n) f = R.plus (sum n f) (f n)

  -- the entry of the identity matrix
  unfoldable pub unit : Matrix R
  unit i j = choose (eqb i j) R.one R.zero

  unfoldable pub zeros : Matrix R
  zeros i j = R.zero

  unfoldable pub add : Matrix R → Matrix R → Matrix R
  add X Y i j = R.plus (X i j) (Y i j)

  unfoldable pub negative : Matrix R → Matrix R
  negative X i j = R.minus (X i j)

  -- X Y, where X has k columns and Y has k rows
  unfoldable pub product : ℕ → Matrix R → Matrix R → Matrix R
  product k X Y i j = sum k (λ t. R.times (X i t) (Y t j))

  -- X x, the sum of X's columns times the entries of x
  unfoldable pub apply : ℕ → Matrix R → Vector R → Vector R
  apply k X x i = sum k (λ t. R.times (X i t) (x t))

  -- u X, the sum of X's first k rows times the entries of u
  unfoldable pub mixed : ℕ → Vector R → Matrix R → Vector R
  mixed k u X j = sum k (λ t. R.times (u t) (X t j))

  unfoldable pub transpose : Matrix R → Matrix R
  transpose X i j = X j i

  -- B's first m rows, and below them the rows of L
  unfoldable pub stack : ℕ → Matrix R → Matrix R → Matrix R
  stack m B L i j = choose (ltb i m) (B i j) (L (i - m) j)

  -- X's first m columns, and right of them the columns of Y
  unfoldable pub beside : ℕ → Matrix R → Matrix R → Matrix R
  beside m X Y i j = choose (ltb j m) (X i j) (Y i (j - m))

  -- X's first m rows, and its rows after them
  unfoldable pub upper_rows : ℕ → Matrix R → Matrix R
  upper_rows m X i j = choose (ltb i m) (X i j) R.zero

  unfoldable pub lower_rows : ℕ → Matrix R → Matrix R
  lower_rows m X i j = X (m + i) j

  -- X cut to m rows and n columns
  unfoldable pub cut : (m n : ℕ) → Matrix R → Matrix R
  cut m n X i j = choose (ltb i m) (choose (ltb j n) (X i j) R.zero) R.zero

  -- X is zero outside its m rows and n columns
  pub record Sized (m n : ℕ) (X : Matrix R) : Type 0 where
    pub rows_end : (i j : ℕ) → m ≤ i → X i j ≡ R.zero
    pub columns_end : (i j : ℕ) → n ≤ j → X i j ≡ R.zero
