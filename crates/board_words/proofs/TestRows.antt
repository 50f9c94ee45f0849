-- The multiplier rows read in place, plain and turned: they lie in the words, and are the table of the board's rows and its
-- transpose, so that a rank of either is the rank of the rows.
use mathlib.Core.Path.{◌≡◌, ◌∙◌, subst}
use mathlib.Core.List.{List}
use Prim.Native.Nat.{ℕ, ◌+◌, ◌*◌, ◌<◌}
use native.Mathlib.Omega.{arith}
use lib.ListN.{length}
use Rattle.algebra.specs.Matrix.{Matrix, transpose}
use Rattle.algebra.specs.Quasiinverse.{Marks, count, IsPivotInverse}
use Rattle.algebra.proofs.Transpose.{transposed}
use Rattle.field.specs.Residue.{residues}
use Rattle.field.proofs.Field.{residues_field}
use Rattle.matrix_echelon.specs.Grid.{grid_place, grid_of, TableReadable}
use Rattle.matrix_echelon.specs.Forward.{IsRank}
use Rattle.matrix_echelon.proofs.Grids.{grid_table, grid_turned}
use Rattle.ledger.specs.Board.{header_length, row_length, modulus_word, size_word, count_word, values_word, multiplier_table}
use Rattle.ledger.proofs.LayoutPlaces.{row_first, row_step, row_ends, row_words_lem}
use Rattle.board_words.specs.Rows.{rows_grid, turned_grid}
use Rattle.board_words.specs.Tested.{HasHeader}
use Rattle.board_words.proofs.TestSizes.{count_most, rows_inside}

-- D is a pivot inverse of the multiplier rows, with r of them in J
pub record RowsRank (ws : List ℕ) (D : Matrix (residues (modulus_word ws))) (r : ℕ) : Type 0 where
  pub I : Marks
  pub J : Marks
  pub inverse : IsPivotInverse (residues (modulus_word ws)) (count_word ws) (size_word ws) (multiplier_table ws) D I J
  pub rank : r ≡ count (count_word ws) J

module _ (ws : List ℕ) where
  -- where entry (i, j) of the rows stands
  plain_place : (i j : ℕ) → grid_place (rows_grid (size_word ws) (values_word ws) (count_word ws)) i j ≡ header_length + i * row_length (size_word ws) (values_word ws) + j
  plain_place i j = omega (arith, row_first (size_word ws) (values_word ws))

  turned_place : (i j : ℕ) → grid_place (turned_grid (size_word ws) (values_word ws) (count_word ws)) j i ≡ header_length + i * row_length (size_word ws) (values_word ws) + j
  turned_place i j = omega (arith, row_first (size_word ws) (values_word ws))

  -- the tables that are read are that of the board's rows and its transpose
  pub grid_rows : grid_of (modulus_word ws) (rows_grid (size_word ws) (values_word ws) (count_word ws)) ws ≡ multiplier_table ws
  grid_rows =
      grid_table (modulus_word ws) (rows_grid (size_word ws) (values_word ws) (count_word ws)) ws header_length (row_length (size_word ws) (values_word ws)) plain_place

  turned_rows :
      grid_of (modulus_word ws) (turned_grid (size_word ws) (values_word ws) (count_word ws)) ws
      ≡ transpose (residues (modulus_word ws)) (multiplier_table ws)
  turned_rows =
      grid_turned (modulus_word ws) (turned_grid (size_word ws) (values_word ws) (count_word ws)) ws header_length (row_length (size_word ws) (values_word ws)) turned_place

  -- a rank of the rows read in place
  pub rows_rank_lem : (r : ℕ) (R : IsRank (modulus_word ws) (rows_grid (size_word ws) (values_word ws) (count_word ws)) ws r) → RowsRank ws R.D r
  rows_rank_lem r R =
      record {
        I = R.I;
        J = R.J;
        inverse =
            subst (λ A. IsPivotInverse (residues (modulus_word ws)) (count_word ws) (size_word ws) A R.D R.I R.J) grid_rows R.inverse;
        rank = R.rank ∙ R.inverse.equally_many;
      }

  module _ (h : HasHeader ws) where
    -- the rows lie in the words
    entry_inside : (i j : ℕ) → i < count_word ws → j < size_word ws → header_length + i * row_length (size_word ws) (values_word ws) + j < length ws
    entry_inside i j l b =
        let n = size_word ws in
        let s = values_word ws in
        omega (arith, row_step n s i, row_ends n s i (count_word ws) l, row_words_lem n s, rows_inside ws h)

    pub rows_readable : TableReadable (modulus_word ws) (rows_grid (size_word ws) (values_word ws) (count_word ws)) ws
    rows_readable =
        record {
          is_modulus = h.prime;
          rows_most = count_most ws h;
          columns_most = h.size.1;
          inside = λ i j l b. rw (plain_place i j) (entry_inside i j l b);
        }

    pub turned_readable : TableReadable (modulus_word ws) (turned_grid (size_word ws) (values_word ws) (count_word ws)) ws
    turned_readable =
        record {
          is_modulus = h.prime;
          rows_most = h.size.1;
          columns_most = count_most ws h;
          inside = λ j i l b. rw (turned_place i j) (entry_inside i j b l);
        }

    -- a rank of the turned rows: what is an inverse of them is one of the rows, turned
    pub turned_rank : (r : ℕ) (R : IsRank (modulus_word ws) (turned_grid (size_word ws) (values_word ws) (count_word ws)) ws r)
        → RowsRank ws (transpose (residues (modulus_word ws)) R.D) r
    unfolding transpose
    turned_rank r R =
        let p = modulus_word ws in
        let turned =
        subst (λ A. IsPivotInverse (residues p) (size_word ws) (count_word ws) A R.D R.I R.J) turned_rows R.inverse in
        record {
          I = R.J;
          J = R.I;
          inverse = transposed (residues p) (residues_field p h.prime.prime).ring turned;
          rank = R.rank;
        }
