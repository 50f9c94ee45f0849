-- What a pivot inverse of a table in memory is: 01's D, I, J and r of that table, as the definitions name them, and no other.
use mathlib.Core.Path.{◌≡◌, refl, sym, ap, ◌∙◌, fun_ext, subst}
use mathlib.Core.List.{List}
use Prim.Native.Nat.{ℕ, ◌*◌, ◌≤◌, ◌<◌}
use lib.ListN.{length, get_or}
use Rattle.algebra.specs.Choice.{choose}
use Rattle.algebra.specs.Matrix.{Matrix}
use Rattle.algebra.specs.Quasiinverse.{Marks, count, IsPivotInverse}
use Rattle.algebra.proofs.Independent.{count_most}
use Rattle.algebra.proofs.Marked.{columns_are_chosen, rows_are_chosen, rank_counted, columns_counted, inverse_is, inverse_pivots}
use Rattle.checks.specs.Prime.{IsModulus}
use Rattle.field.specs.Residue.{residues}
use Rattle.field.specs.View.{table}
use Rattle.words.specs.Words.{Below}
use Rattle.field.specs.Written.{marks_of}
use Rattle.field.proofs.Views.{table_sized}
use Rattle.matrix_inverse.specs.Eliminated.{Eliminated}
use Rattle.matrix.specs.Decide.{field, combinations, given_inverse}
use Rattle.matrix.specs.Calls.{table_of, columns_of, row_marks_of, table_rank, inverse_of}
use Rattle.matrix.specs.Parts.{InverseRoom, StoresInverse}
use Rattle.matrix.proofs.Memory.{rows_written, marks_written}

module _ (p : ℕ) (ok : IsModulus p) (m n : ℕ) (a : List ℕ) where
  module _ {D : Matrix (residues p)} {I J : Marks} (Q : IsPivotInverse (residues p) m n (table_of p m n a) D I J) where
    -- its marks are I and J
    pub columns_are : I ≡ columns_of p ok m n a
    columns_are = fun_ext (columns_are_chosen (residues p) (field p ok) (combinations p ok) (table_of p m n a) (λ i j h l. refl) Q)

    pub rows_are : J ≡ row_marks_of p ok m n a
    rows_are = fun_ext (rows_are_chosen (residues p) (field p ok) (combinations p ok) (table_of p m n a) (λ i j h l. refl) Q)

    -- they are r many
    pub rank_is : count n I ≡ table_rank p ok m n a
    rank_is =
        Q.equally_many
        ∙ sym (rank_counted (residues p) (field p ok) (combinations p ok) (table_of p m n a) (λ i j h l. refl) Q)

    -- it is D
    pub inverse_so : D ≡ inverse_of p ok m n a
    inverse_so = inverse_is (residues p) (field p ok) (combinations p ok) (given_inverse p ok m n a) Q

  -- D with I and J is a pivot inverse of the table
  pub table_pivots : IsPivotInverse (residues p) m n (table_of p m n a) (inverse_of p ok m n a) (columns_of p ok m n a) (row_marks_of p ok m n a)
  table_pivots = inverse_pivots (residues p) (field p ok) (combinations p ok) (given_inverse p ok m n a) (table_sized p a 0 n m n)

  -- I has r members, so the rank is at most the number of columns
  pub columns_many : count n (columns_of p ok m n a) ≡ table_rank p ok m n a
  columns_many = columns_counted (residues p) (field p ok) (combinations p ok) m n (table_of p m n a)

  pub rank_most : table_rank p ok m n a ≤ n
  rank_most = subst (λ r. r ≤ n) columns_many (count_most n (columns_of p ok m n a))

  -- memory that a pivot inverse and its marks were written to holds D, I and J
  pub inverted : {I J : Marks} (d columns rows : List ℕ)
      → IsPivotInverse (residues p) m n (table_of p m n a) (table p d 0 m n m) I J
      → Below p d → length d ≡ n * m
      → length columns ≡ n → ((c : ℕ) → c < n → get_or columns c 0 ≡ choose (I c) 1 0)
      → length rows ≡ m → ((y : ℕ) → y < m → get_or rows y 0 ≡ choose (J y) 1 0)
      → StoresInverse p ok m n a d columns rows
  inverted {I} {J} d columns rows Q below ld lc c lr r =
      record {
        is_D = inverse_so Q;
        d_written = rows_written p n m d (inverse_of p ok m n a) below ld (inverse_so Q);
        columns_written = marks_written n I columns lc c ∙ ap (marks_of n) (columns_are Q);
        rows_written = marks_written m J rows lr r ∙ ap (marks_of m) (rows_are Q);
      }

-- what the elimination leaves in memory that was cleared is D, I and J
pub eliminated_inverted : (p : ℕ) (ok : IsModulus p) (m n : ℕ) (a d columns rows d' columns' rows' : List ℕ) → InverseRoom m n d columns rows
    → ((c : ℕ) → get_or columns c 0 ≡ 0) → ((y : ℕ) → get_or rows y 0 ≡ 0)
    → Eliminated p m n a d 0 m columns rows d' columns' rows' → StoresInverse p ok m n a d' columns' rows'
eliminated_inverted p ok m n a d columns rows d' columns' rows' r zc zr e =
    inverted p ok m n a d' columns' rows' e.holds e.kept.below (e.kept.same_length ∙ r.d_long)
    (e.columns_marked.same_length ∙ r.columns_long)
    (λ c l. e.columns_marked.each c l ∙ ap (choose (e.I c) 1) (zc c))
    (e.rows_marked.same_length ∙ r.rows_long)
    (λ y l. e.rows_marked.each y l ∙ ap (choose (e.J y) 1) (zr y))
