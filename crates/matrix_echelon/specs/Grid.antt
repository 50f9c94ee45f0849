-- A table that is read in place, with columns that are carried along: column u has the numbers of w at u, u + step, u + 2 × step, .. .
use Rattle.std.specs.Prelude.{List, ℕ, ◌+◌, ◌*◌, ◌-◌, ◌≤◌, ◌<◌, length, get_or, ltb}
use Rattle.algebra.specs.Choice.{choose}
use Rattle.algebra.specs.Matrix.{Matrix, cut}
use Rattle.checks.specs.Prime.{IsModulus}
use Rattle.words.specs.Lengths.{longest_row, most_carried}
use Rattle.field.specs.Residue.{reduce, residues}
use Rattle.field.specs.View.{line}
use Rattle.field.specs.Products.{Reaches}
use Rattle.matrix_echelon.specs.declared.Grid.{Grid}

-- where entry (row i, column j) stands
abbrev pub grid_place : Grid → ℕ → ℕ → ℕ
grid_place g i j = g.start + i * g.down + j * g.along

-- the number there, as a residue
abbrev pub entry_of : (p : ℕ) → Grid → List ℕ → Matrix (residues p)
entry_of p g a i j = reduce p (get_or a (grid_place g i j) 0)

-- the table: zero outside its sizes
unfoldable pub grid_of : (p : ℕ) → Grid → List ℕ → Matrix (residues p)
grid_of p g a = cut (residues p) g.rows g.columns (entry_of p g a)

-- the table with its carried columns behind it
unfoldable pub wide : (p : ℕ) → Grid → List ℕ → List ℕ → ℕ → Matrix (residues p)
wide p g a w step i j = choose (ltb j g.columns) (entry_of p g a i j) (line p w (j - g.columns) step i)

-- the table lies in a
pub record TableReadable (p : ℕ) (g : Grid) (a : List ℕ) : Type 0 where
  pub is_modulus : IsModulus p
  pub rows_most : g.rows ≤ longest_row
  pub columns_most : g.columns ≤ longest_row
  pub inside : (i j : ℕ) → i < g.rows → j < g.columns → grid_place g i j < length a

-- and the carried columns in w
pub record Readable (p : ℕ) (g : Grid) (a w : List ℕ) (step carried : ℕ) : Type 0 where
  pub table : TableReadable p g a
  pub carried_most : carried ≤ most_carried
  pub reaches : (u : ℕ) → u < carried → Reaches g.rows u step (length w)
