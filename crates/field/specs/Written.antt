-- How vectors, matrices and sets of positions are written to memory: number after number, a matrix row by row. 01: entry
-- (row i, column j) of a table stands at i × n + j; a mark is 1 for a member, else 0.
use Rattle.std.specs.Prelude.{not, List, [], ◌∷◌, ℕ, zero, suc, ◌*◌, ◌/◌, ◌%◌, eqb, get_or}
use Rattle.algebra.specs.Choice.{choose}
use Rattle.algebra.specs.Matrix.{Vector, Matrix}
use Rattle.algebra.specs.Quasiinverse.{Marks}
use Rattle.field.specs.Residue.{residues}

-- f 0, f 1, .., f (n - 1)
unfoldable pub tabulate : ℕ → (ℕ → ℕ) → List ℕ
tabulate zero f = []
tabulate (suc n) f = f 0 ∷ tabulate n (λ k. f (suc k))

-- the first n numbers of a vector
abbrev pub numbers : {p : ℕ} → ℕ → Vector (residues p) → List ℕ
numbers n x = tabulate n (λ t. (x t).value)

-- a matrix of m rows and n columns
abbrev pub rows_of : {p : ℕ} (m n : ℕ) → Matrix (residues p) → List ℕ
rows_of m n X = tabulate (m * n) (λ q. (X (q / n) (q % n)).value)

-- the marks of the first n positions
abbrev pub marks_of : ℕ → Marks → List ℕ
marks_of n I = tabulate n (λ c. choose (I c) 1 0)

-- the positions that numbers mark: those whose number is not 0
unfoldable pub marked : List ℕ → Marks
marked xs c = not (eqb (get_or xs c 0) 0)
