-- The contract of the recursion of Algorithm Q: a quasiinverse of the m rows of n numbers in a is put into the block of D's
-- memory that begins at column `at`, and its columns and rows are marked.
use Rattle.std.specs.Prelude.{◌≡◌, List, ℕ, ◌+◌, ◌*◌, ◌≤◌, ◌<◌, length, get_or, replicate}
use Rattle.std.proofs.Math.Decide.{ℕ_discrete}
use Rattle.words.specs.Lengths.{longest_row}
use Rattle.algebra.specs.Choice.{choose, pick}
use Rattle.algebra.specs.Quasiinverse.{Marks, IsPivotInverse}
use Rattle.checks.specs.Prime.{IsModulus}
use Rattle.field.specs.Residue.{residues}
use Rattle.field.specs.View.{table}
use Rattle.words.specs.Words.{Below}
use Rattle.matrix_mul.specs.Places.{place, Kept}

-- what it asks: the block of D, n rows and m columns from column `at` on, is 0
pub record Eliminable (p m n : ℕ) (a d : List ℕ) (at stride : ℕ) (columns rows : List ℕ) : Type 0 where
  pub is_modulus : IsModulus p
  pub m_most : m ≤ longest_row
  pub n_most : n ≤ longest_row
  pub stride_most : stride ≤ longest_row
  pub a_long : length a ≡ m * n
  pub a_below : Below p a
  pub d_long : length d ≡ n * stride
  pub d_below : Below p d
  pub fits : at + m ≤ stride
  pub blank : (i j : ℕ) → i < n → j < m → get_or d (at + i * stride + j) 0 ≡ 0
  pub columns_long : n ≤ length columns
  pub rows_long : length rows ≡ m

-- 64 marks, none of them set: in these a half of the rows marks its columns
unfoldable pub no_marks : List ℕ
no_marks = replicate longest_row 0

-- marks that were added to those that stood
pub record Marked (n : ℕ) (I : Marks) (xs ys : List ℕ) : Type 0 where
  pub same_length : length ys ≡ length xs
  pub each : (c : ℕ) → c < n → get_or ys c 0 ≡ choose (I c) 1 (get_or xs c 0)

-- at the first n places zs has the marks of xs beside those of ys
pub record BothMarked (n : ℕ) (xs ys zs : List ℕ) : Type 0 where
  pub same_length : length zs ≡ length ys
  pub each : (c : ℕ) → c < n → get_or zs c 0 ≡ pick (ℕ_discrete (get_or xs c 0) 0) (get_or ys c 0) 1

pub record Eliminated (p m n : ℕ) (a d : List ℕ) (at stride : ℕ) (columns rows d' columns' rows' : List ℕ) : Type 0 where
  pub I : Marks
  pub J : Marks
  pub holds : IsPivotInverse (residues p) m n (table p a 0 n m n) (table p d' at stride n m) I J
  pub kept : Kept p d d' (place at stride) n m
  pub columns_marked : Marked n I columns columns'
  pub rows_marked : Marked m J rows rows'
