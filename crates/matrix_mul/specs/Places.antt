-- Blocks of numbers in memory, and what a call that writes one leaves: the leaves' contracts, not document 01's.
use Rattle.std.specs.Prelude.{◌≡◌, List, ℕ, ◌+◌, ◌*◌, ◌≤◌, ◌<◌, length, get_or}
use Rattle.algebra.specs.Matrix.{Matrix, add, product}
use Rattle.field.specs.Residue.{reduce, residues, negated}
use Rattle.checks.specs.Prime.{largest_modulus}
use Rattle.field.specs.View.{table}
use Rattle.words.specs.Lengths.{longest_row}
use Rattle.words.specs.Words.{Below}
use Rattle.matrix_mul.specs.Rows.{Leads, PassesOver}
use Rattle.matrix_mul.specs.declared.Place.{Place}
use Rattle.matrix_mul.specs.declared.Shape.{Shape}

-- a place: where a block begins, and how far the starts of its rows are apart
abbrev pub place : (start stride : ℕ) → Place
place start stride = record { start = start; stride = stride }

-- row i of a block of n columns, as a block of one row
abbrev pub row_at : Place → (i n : ℕ) → Place
row_at X i n = place (X.start + i * X.stride) n

-- the columns of a block from column k on
abbrev pub columns_from : Place → ℕ → Place
columns_from X k = place (X.start + k) X.stride

-- the sizes of X Y: X has m rows and k columns, Y has k rows and n columns
abbrev pub shape : (m k n : ℕ) → Shape
shape m k n = record { rows = m; inner = k; columns = n }

-- the same with m rows
abbrev pub with_rows : ℕ → Shape → Shape
with_rows m s = shape m s.inner s.columns

-- the m rows of n numbers at a place, as residues
abbrev pub matrix_at : (p : ℕ) → List ℕ → Place → (m n : ℕ) → Matrix (residues p)
matrix_at p xs X m n = table p xs X.start X.stride m n

-- the m rows of n numbers from the front of xs, one behind the other, as residues
abbrev pub matrix_of : (p : ℕ) → List ℕ → (m n : ℕ) → Matrix (residues p)
matrix_of p xs m n = table p xs 0 n m n

-- m rows of n numbers lie in xs at a place, one row behind the other, and all numbers of xs are below p
pub record Block (p : ℕ) (xs : List ℕ) (X : Place) (m n : ℕ) : Type 0 where
  pub apart : n ≤ X.stride
  pub inside : (i : ℕ) → i < m → X.start + i * X.stride + n ≤ length xs
  pub below : Below p xs

-- q is no place of that block
abbrev pub Elsewhere : (X : Place) (m n q : ℕ) → Type 0
Elsewhere X m n q = (i j : ℕ) → i < m → j < n → q ≡ X.start + i * X.stride + j → ⊥

-- only the numbers of the block may have changed, and all are still below p
pub record Kept (p : ℕ) (xs ys : List ℕ) (X : Place) (m n : ℕ) : Type 0 where
  pub same_length : length ys ≡ length xs
  pub elsewhere : (q : ℕ) → Elsewhere X m n q → get_or ys q 0 ≡ get_or xs q 0
  pub below : Below p ys

-- what a product of blocks asks: X in x, Y in y and Z in z, each at its place
pub record Factors (p : ℕ) (s : Shape) (x : List ℕ) (X : Place) (y : List ℕ) (Y : Place) (z : List ℕ) (Z : Place) : Type 0 where
  pub positive : 0 < p
  pub in_range : p ≤ largest_modulus
  pub inner : s.inner ≤ longest_row
  pub columns : s.columns ≤ longest_row
  pub left : Block p x X s.rows s.inner
  pub right : Block p y Y s.inner s.columns
  pub target : Block p z Z s.rows s.columns

-- Z has become Z + X Y
pub record Multiplied (p : ℕ) (s : Shape) (x : List ℕ) (X : Place) (y : List ℕ) (Y : Place) (z z' : List ℕ) (Z : Place) : Type 0 where
  pub kept : Kept p z z' Z s.rows s.columns
  pub result :
      matrix_at p z' Z s.rows s.columns
      ≡ add (residues p) (matrix_at p z Z s.rows s.columns)
      (product (residues p) s.inner (matrix_at p x X s.rows s.inner) (matrix_at p y Y s.inner s.columns))

-- each number of xs has become its negative
pub record Negated (p : ℕ) (xs ys : List ℕ) : Type 0 where
  pub same_length : length ys ≡ length xs
  pub below : Below p ys
  pub each : (j : ℕ) → j < length xs → reduce p (get_or ys j 0) ≡ negated (reduce p (get_or xs j 0))

-- the k numbers of xs from the place on are 0
abbrev pub ZerosAt : List ℕ → (at k : ℕ) → Type 0
ZerosAt xs at k = (t : ℕ) → t < k → get_or xs (at + t) 0 ≡ 0

-- marks of k rows of n numbers: where one is 0 the row is zeros
pub record Used (k n : ℕ) (y : List ℕ) (Y : Place) (marks : List ℕ) : Type 0 where
  pub long : k ≤ length marks
  pub zeros : (t : ℕ) → t < k → get_or marks t 0 ≡ 0 → ZerosAt y (Y.start + t * Y.stride) n

-- what a product asks where X lies in the memory of Z, from `start` on: in other columns, and with marks of its rows
pub record FactorsWithin (p : ℕ) (s : Shape) (marks : List ℕ) (start : ℕ) (y : List ℕ) (Y : Place) (z : List ℕ) (Z : Place) : Type 0 where
  pub factors : Factors p s z (place start Z.stride) y Y z Z
  pub other_columns : (j l : ℕ) → j < s.inner → l < s.columns → start + j ≡ Z.start + l → ⊥
  pub left_fits : start + s.inner ≤ Z.stride
  pub target_fits : Z.start + s.columns ≤ Z.stride
  pub used : Used s.rows s.inner z (place start Z.stride) marks

-- the list leads from each row to a later one, or to the end, and passes over none that is marked
pub record Listed (marks next : List ℕ) : Type 0 where
  pub leads : Leads (length marks) next
  pub over : PassesOver (length marks) next (λ u. get_or marks u 0)
