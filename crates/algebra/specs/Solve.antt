-- The row that shows a system to have no solution; what a column leaves over of a right side, and the nearest fit.
use Rattle.std.specs.Prelude.{◌≡◌, true, false, ℕ, ◌<◌}
use Rattle.algebra.specs.Ring.{Ring}
use Rattle.algebra.specs.Matrix.{Vector, Matrix, unit, product, apply}
use Rattle.algebra.specs.Quasiinverse.{Marks}

module _ (R : Ring) where
  -- row y of 1 - A D, where A has n columns: the unit row of y minus (row y of A) times D
  unfoldable pub mix_of : ℕ → Matrix R → Matrix R → ℕ → Vector R
  mix_of n A D y t = R.plus (unit R y t) (R.minus (product R n A D y t))

  -- w - A z, where A has n columns
  unfoldable pub remainder : ℕ → Matrix R → Vector R → Vector R → Vector R
  remainder n A z w i = R.plus (w i) (R.minus (apply R n A z i))

  -- 02, #102: "z zero outside I, remainder zero on J and w = Az + remainder", where A has m rows and n columns
  pub record IsFit (m n : ℕ) (A : Matrix R) (I J : Marks) (w z rest : Vector R) : Type 0 where
    pub outside_zero : (c : ℕ) → c < n → I c ≡ false → z c ≡ R.zero
    pub rows_zero : (y : ℕ) → y < m → J y ≡ true → rest y ≡ R.zero
    pub sums : (i : ℕ) → i < m → w i ≡ R.plus (apply R n A z i) (rest i)
