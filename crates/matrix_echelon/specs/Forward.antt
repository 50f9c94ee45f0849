-- The worked rows of a table in memory.
use Rattle.std.specs.Prelude.{◌≡◌, List, ℕ, suc, ◌+◌, ◌≤◌, ◌<◌, length}
use Rattle.algebra.specs.Quasiinverse.{Marks, count, IsPivotInverse}
use Rattle.algebra.specs.Matrix.{Matrix}
use Rattle.algebra.specs.Echelon.{Worked, Cleared, Leading}
use Rattle.checks.specs.Prime.{IsModulus}
use Rattle.words.specs.Lengths.{longest_row}
use Rattle.words.specs.Words.{Blank}
use Rattle.field.specs.Residue.{residues}
use Rattle.matrix_mul.specs.Rows.{Ready}
use Rattle.matrix_mul.specs.declared.limbs.Limbs.{Limbs}
use Rattle.matrix_echelon.specs.declared.Grid.{Grid}
use Rattle.matrix_echelon.specs.Grid.{grid_of, wide, Readable}
use Rattle.matrix_echelon.specs.Group.{row_in, worked_rows, pivots_of, WorkedRoom}

-- room for the worked rows and their pivots
pub record Room (p : ℕ) (e pivots : List ℕ) : Type 0 where
  pub rows_in : WorkedRoom p e
  pub pivots_long : length pivots ≡ longest_row

-- limbs of a row of n numbers and the carried ones, and the room x for it beside that for the worked rows
pub record Settleable (p n r : ℕ) (s : Limbs) (x e pivots : List ℕ) : Type 0 where
  pub is_modulus : IsModulus p
  pub narrow : n ≤ length x
  pub few : r < longest_row
  pub ready : Ready (length x) s
  pub x_blank : Blank x
  pub room : Room p e pivots

-- what becomes of the worked rows, of `width` numbers as x, of any table when the row is its next one, cleared at all pivots
pub record RowSettled (p n r : ℕ) (s : Limbs) (x e pivots : List ℕ) (r' : ℕ) (e' pivots' : List ℕ) : Type 0 where
  pub room : Room p e' pivots'
  pub worked :
      (width : ℕ) → length x ≡ width → (i : ℕ) (M : Matrix (residues p))
      → Worked (residues p) i n width M r (worked_rows p e width) (pivots_of pivots)
      → Cleared (residues p) i width M r (worked_rows p e width) (pivots_of pivots) (row_in p s)
      → Worked (residues p) (suc i) n width M r' (worked_rows p e' width) (pivots_of pivots')
  pub leading :
      (width : ℕ) → length x ≡ width → ((t : ℕ) → t < r → pivots_of pivots t < width)
      → Leading (residues p) r (worked_rows p e width) (pivots_of pivots) → Leading (residues p) r' (worked_rows p e' width) (pivots_of pivots')

-- r worked rows have come of the first i rows of the table
pub record Held (p : ℕ) (g : Grid) (i : ℕ) (a w : List ℕ) (step carried r : ℕ) (e pivots : List ℕ) : Type 0 where
  pub room : Room p e pivots
  pub worked :
      Worked (residues p) i g.columns (g.columns + carried) (wide p g a w step) r (worked_rows p e (g.columns + carried)) (pivots_of pivots)
  pub leading : Leading (residues p) r (worked_rows p e (g.columns + carried)) (pivots_of pivots)

-- row i can be worked off: some column has no pivot yet
pub record Workable (p : ℕ) (g : Grid) (i : ℕ) (a w : List ℕ) (step carried r : ℕ) (e pivots : List ℕ) : Type 0 where
  pub readable : Readable p g a w step carried
  pub in_table : i < g.rows
  pub free : r < g.columns
  pub held : Held p g i a w step carried r e pivots

-- r is the number of columns of I, for a pivot inverse of the table
pub record IsRank (p : ℕ) (g : Grid) (a : List ℕ) (r : ℕ) : Type 0 where
  pub D : Matrix (residues p)
  pub I : Marks
  pub J : Marks
  pub inverse : IsPivotInverse (residues p) g.rows g.columns (grid_of p g a) D I J
  pub rank : r ≡ count g.columns I
