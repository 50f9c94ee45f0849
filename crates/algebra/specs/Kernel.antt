-- The basis of the kernel that a quasiinverse gives, and the combinations of that basis.
use Rattle.std.specs.Prelude.{ℕ}
use Rattle.algebra.specs.Choice.{choose}
use Rattle.algebra.specs.Ring.{Ring}
use Rattle.algebra.specs.Matrix.{Vector, Matrix, sum, unit, product}
use Rattle.algebra.specs.Quasiinverse.{Marks}

module _ (R : Ring) where
  -- column c of 1 - D A, where A has m rows
  unfoldable pub kernel_vector : ℕ → Matrix R → Matrix R → ℕ → Vector R
  kernel_vector m D A c j = R.plus (unit R j c) (R.minus (product R m D A j c))

  -- the combination, with multipliers y, of the kernel vectors of the columns outside I
  unfoldable pub combined : ℕ → Marks → Matrix R → Matrix R → ℕ → Vector R → Vector R
  combined n I D A m y j = sum R n (λ c. choose (I c) R.zero (R.times (y c) (kernel_vector m D A c j)))
