-- How numbers in memory are read as vectors and matrices of residues: by a start and a step, or by a start, a stride and
-- sizes. 01: entry (row i, column j) of a table stands at i × n + j.
use Rattle.std.specs.Prelude.{ℕ, ◌+◌, ◌*◌, List, get_or, ltb}
use Rattle.algebra.specs.Choice.{choose}
use Rattle.algebra.specs.Matrix.{Vector, Matrix}
use Rattle.field.specs.Residue.{reduce, residues}

-- the numbers of xs at start, start + step, .. as residues modulo p
unfoldable pub line : (p : ℕ) → List ℕ → ℕ → ℕ → Vector (residues p)
line p xs start step t = reduce p (get_or xs (start + t * step) 0)

-- the m rows of n numbers in xs whose row i starts at start + i × stride; zero outside these sizes
unfoldable pub table : (p : ℕ) → List ℕ → (start stride m n : ℕ) → Matrix (residues p)
table p xs start stride m n i j =
    choose (ltb i m) (choose (ltb j n) (reduce p (get_or xs (start + i * stride + j) 0)) (reduce p 0)) (reduce p 0)
