-- Products of a row and tables in memory, and the rows of A D A beside those of A: the leaves' contracts, not document 02's.
use Rattle.std.specs.Prelude.{◌≡◌, List, ℕ, ◌*◌, ◌≤◌, ◌<◌, length}
use Rattle.algebra.specs.Matrix.{Vector, product, mixed}
use Rattle.checks.specs.Prime.{largest_modulus}
use Rattle.field.specs.Residue.{residues}
use Rattle.field.specs.View.{line}
use Rattle.words.specs.Lengths.{longest_row}
use Rattle.words.specs.Words.{Below}
use Rattle.matrix_mul.specs.Places.{matrix_of}

-- what a row times a table asks: the table has as many rows as the row has numbers, and they are as long as out
pub record RowFactors (p : ℕ) (row table out : List ℕ) : Type 0 where
  pub positive : 0 < p
  pub in_range : p ≤ largest_modulus
  pub few : length row ≤ longest_row
  pub narrow : length out ≤ longest_row
  pub row_below : Below p row
  pub table_below : Below p table
  pub table_long : length table ≡ length row * length out

-- the row times the table, whose rows have n numbers
abbrev pub row_times : (p : ℕ) (row table : List ℕ) (n : ℕ) → Vector (residues p)
row_times p row table n = mixed (residues p) (length row) (line p row 0 1) (matrix_of p table (length row) n)

-- A, m rows and n columns, in a, and D, n rows and m columns, in d
pub record Pair (p m n : ℕ) (a d : List ℕ) : Type 0 where
  pub positive : 0 < p
  pub in_range : p ≤ largest_modulus
  pub m_most : m ≤ longest_row
  pub n_most : n ≤ longest_row
  pub a_long : length a ≡ m * n
  pub d_long : length d ≡ n * m
  pub a_below : Below p a
  pub d_below : Below p d

-- room for a row of A D and a row of A D A
pub record Rooms (m n : ℕ) (through back : List ℕ) : Type 0 where
  pub through_long : length through ≡ m
  pub back_long : length back ≡ n

-- row i of A D A is row i of A
abbrev pub RowKept : (p m n : ℕ) (a d : List ℕ) → ℕ → Type 0
RowKept p m n a d i =
    (j : ℕ) → j < n
    → product (residues p) n (matrix_of p a m n) (product (residues p) m (matrix_of p d n m) (matrix_of p a m n)) i j ≡ matrix_of p a m n i j

-- the rows before row k are so
abbrev pub RowsKept : (p m n : ℕ) (a d : List ℕ) → ℕ → Type 0
RowsKept p m n a d k = (i : ℕ) → i < k → RowKept p m n a d i
