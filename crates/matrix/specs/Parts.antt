-- What the parts of the calls ask and leave: leaves' contracts over tables in memory, not document 01's.
use Rattle.std.specs.Prelude.{◌≡◌, List, ◌++◌, ℕ, suc, ◌+◌, ◌*◌, ◌-◌, ◌≤◌, ◌<◌, length, get_or, replicate}
use Rattle.algebra.specs.Matrix.{Matrix, product}
use Rattle.algebra.specs.Quasiinverse.{count}
use Rattle.checks.specs.Largest.{largest}
use Rattle.checks.specs.Prime.{IsModulus}
use Rattle.checks.specs.Told.{Told}
use Rattle.checks.specs.Outcome.{outcome}
use Rattle.words.specs.Lengths.{longest_row, widest_table}
use Rattle.words.specs.Words.{Below}
use Rattle.field.specs.Residue.{residues, reduce}
use Rattle.field.specs.View.{table}
use Rattle.field.specs.Written.{numbers, rows_of, marks_of, marked}
use Rattle.matrix_echelon.specs.declared.Grid.{Grid}
use Rattle.matrix.specs.Calls.{columns_of, row_marks_of, table_rank, inverse_of, vectors_from, basis_of, candidate, left_over, solution}

-- a table of m rows and n columns that has passed the checks
pub record Checked (p m n : ℕ) (a : List ℕ) : Type 0 where
  pub is_modulus : IsModulus p
  pub m_most : m ≤ largest
  pub n_most : n ≤ largest
  pub a_long : length a ≡ m * n
  pub a_below : Below p a

-- memory for D, the column marks and the row marks
pub record InverseRoom (m n : ℕ) (d columns rows : List ℕ) : Type 0 where
  pub d_long : length d ≡ n * m
  pub columns_long : length columns ≡ n
  pub rows_long : length rows ≡ m

-- d, columns and rows hold the table's D, I and J
pub record StoresInverse (p : ℕ) (ok : IsModulus p) (m n : ℕ) (a d columns rows : List ℕ) : Type 0 where
  pub is_D : table p d 0 m n m ≡ inverse_of p ok m n a
  pub d_written : d ≡ rows_of n m (inverse_of p ok m n a)
  pub columns_written : columns ≡ marks_of n (columns_of p ok m n a)
  pub rows_written : rows ≡ marks_of m (row_marks_of p ok m n a)

-- the table of m rows and n columns in memory, as it stands and turned
abbrev pub plain : (m n : ℕ) → Grid
plain m n = record { start = 0; down = n; along = 1; rows = m; columns = n }

abbrev pub turned : (m n : ℕ) → Grid
turned m n = record { start = 0; down = 1; along = n; rows = n; columns = m }

-- e has rows of n numbers, the rows of D A that are not zeros: row j is row at[j] - 1 of e, or zeros where at[j] is 0
pub record ReducedRows (p n : ℕ) (at e : List ℕ) : Type 0 where
  pub is_modulus : IsModulus p
  pub n_most : n ≤ largest
  pub at_long : length at ≡ longest_row
  pub at_most : (j : ℕ) → get_or at j 0 ≤ longest_row
  pub e_long : length e ≡ widest_table
  pub e_below : Below p e
  pub m : ℕ
  pub D : Matrix (residues p)
  pub A : Matrix (residues p)
  pub zeros : (j c : ℕ) → get_or at j 0 ≡ 0 → product (residues p) m D A j c ≡ (residues p).zero
  pub row : (j t c : ℕ) → get_or at j 0 ≡ suc t → c < n → reduce p (get_or e (t * n + c) 0) ≡ product (residues p) m D A j c

-- column c has no pivot
abbrev pub IsFree : ℕ → List ℕ → ℕ → Type 0
IsFree n at c = (c < n) × (get_or at c 0 ≡ 0)

-- r vectors of the columns that have no pivot, vector after vector, and 0 after them
pub record KernelVectors {p : ℕ} (m n : ℕ) (D A : Matrix (residues p)) (at basis : List ℕ) (r : ℕ) : Type 0 where
  pub filled : basis ≡ vectors_from m n (marked at) D A 0 n ++ replicate (n * count n (marked at)) 0
  pub many : r + count n (marked at) ≡ n

-- the basis of the table's kernel, with r vectors
pub record StoresBasis (p : ℕ) (ok : IsModulus p) (m n : ℕ) (a basis : List ℕ) (r : ℕ) : Type 0 where
  pub filled : basis ≡ basis_of p ok m n a
  pub many : r ≡ n - table_rank p ok m n a

-- the right side w of a system, and the memory of z and of u, or of the remainder
pub record System (p m n : ℕ) (w z u : List ℕ) : Type 0 where
  pub w_long : length w ≡ m
  pub w_below : Below p w
  pub z_long : length z ≡ n
  pub u_long : length u ≡ m

-- z and rest hold Dw and what it leaves over of w, and r is the rank
pub record StoresFit (p : ℕ) (ok : IsModulus p) (m n : ℕ) (a w : List ℕ) (r : ℕ) (z rest : List ℕ) : Type 0 where
  pub is_rank : r ≡ table_rank p ok m n a
  pub z_written : z ≡ numbers n (candidate p ok m n a w)
  pub rest_written : rest ≡ numbers m (left_over p ok m n a w)

-- what is told and left in z and u is 01's solution of the system
abbrev pub IsSolution : (p m n : ℕ) (a w z : List ℕ) → Told → (z' u' : List ℕ) → Type 0
IsSolution p m n a w z told z' u' = (ok : IsModulus p) → outcome told (z', u') ≡ solution p ok m n a w z
