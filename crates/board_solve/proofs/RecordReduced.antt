-- The reduced form of a board's rows with their values, from that of the table that is read in place; and what it says of record j:
-- its worked row is the unit row of j exactly if row j of D R is, and the values behind it are then those of D v.
use mathlib.Core.Path.{◌≡◌, sym, ap, ◌∙◌, subst}
use mathlib.Core.List.{List}
use Prim.Native.Nat.{ℕ, ◌+◌, ◌*◌, ◌-◌, ◌<◌}
use native.Mathlib.Decide.{dec_lt}
use native.Mathlib.Omega.{arith}
use lib.Dec.{eqb}
use lib.ListN.{length, get_or, take, drop}
use borrow.Author.Tests.{eqb-true}
use Rattle.algebra.specs.Matrix.{product}
use Rattle.algebra.proofs.Applied.{apply_same}
use Rattle.algebra.proofs.Step.{product_row}
use Rattle.field.specs.Residue.{reduce, residues}
use Rattle.field.specs.View.{line}
use Rattle.field.proofs.Field.{residues_ring}
use Rattle.field.proofs.Residues.{value_unique}
use Rattle.words.proofs.Parts.{part_length, part_at}
use Rattle.matrix_echelon.specs.Grid.{Readable}
use Rattle.matrix_echelon.specs.Forward.{Room}
use Rattle.matrix_echelon.specs.Reduced.{ReducedForm, Pivoting, RowsByPivot}
use Rattle.matrix_echelon.proofs.Grids.{room_fresh}
use Rattle.matrix_echelon.proofs.ReducedRows.{reduced_pivoting, no_pivot_outside}
use Rattle.ledger.specs.Board.{row_length, value_start, modulus_word, size_word, count_word, values_word, multiplier_table}
use Rattle.ledger.proofs.LayoutPlaces.{value_step, value_inside}
use Rattle.board_words.specs.Rows.{rows_grid}
use Rattle.board_words.proofs.TestRows.{grid_rows, rows_readable, rows_rank_lem}
use Rattle.board_words.proofs.TestBoard.{full_board, rank_tells}
use Rattle.board_solve.specs.Records.{values_of, ReducedRoom, BoardReduced, ReducedTold, WorkedRow, worked_place, UnitAt}
use Rattle.board_solve.proofs.Standing.{board_sizes}
use Rattle.board_solve.proofs.RecordRows.{row_inside_lem}
use Rattle.board_solve.proofs.RecordSettled.{UnitIn, value_in}
use Rattle.board_solve.proofs.RecordUnits.{unit_not_zero, numbers_to_residues, residues_to_numbers}

-- ---- the reduced form

-- the words from the first value on, as they are lent
abbrev value_part : List ℕ → List ℕ
value_part ws =
    take (length ws - value_start (size_word ws) (values_word ws) 0) (drop (value_start (size_word ws) (values_word ws) 0) ws)

module _ (ws e₀ pivots₀ : List ℕ) (asked : ReducedRoom ws e₀ pivots₀) where
  -- the values of word w lie in the words
  value_reach : (w t : ℕ) → w < values_word ws → t < size_word ws
      → value_start (size_word ws) (values_word ws) 0 + (w + t * row_length (size_word ws) (values_word ws)) < length ws
  value_reach w t l h =
      let n = size_word ws in
      let s = values_word ws in
      omega (arith, asked.laid.header.long, value_step n s t, value_inside n s t w h l)

  -- the first value among them
  pub first_value : value_start (size_word ws) (values_word ws) 0 < length ws
  first_value = omega (arith, value_reach 0 0 asked.laid.header.words.0 asked.laid.header.size.0)

  part_long : length (value_part ws) ≡ length ws - value_start (size_word ws) (values_word ws) 0
  part_long =
      part_length ws (value_start (size_word ws) (values_word ws) 0) (length ws - value_start (size_word ws) (values_word ws) 0)
      (omega (arith, first_value))

  -- a row of the board is one of its n
  row_of_board : (t : ℕ) → t < count_word ws → t < size_word ws
  row_of_board t h = omega (arith, asked.laid.header.count)

  -- the rows can be read with their values
  pub rows_system :
      Readable (modulus_word ws) (rows_grid (size_word ws) (values_word ws) (count_word ws)) ws (value_part ws)
      (row_length (size_word ws) (values_word ws)) (values_word ws)
  rows_system =
      record {
        table = rows_readable ws asked.laid.header;
        carried_most = asked.laid.header.words.1;
        reaches = λ w l t h. omega (arith, value_reach w t l (row_of_board t h), part_long);
      }

  pub rows_room : Room (modulus_word ws) e₀ pivots₀
  rows_room = room_fresh e₀ pivots₀ asked.laid.header.prime asked.rows_room asked.pivots_room

  module _ (e pivots : List ℕ) (r : ℕ)
      (F : ReducedForm (modulus_word ws) (rows_grid (size_word ws) (values_word ws) (count_word ws)) ws (value_part ws)
      (row_length (size_word ws) (values_word ws)) (values_word ws) r e pivots) where
    -- the carried columns are the values, word by word
    carried_value : (w : ℕ) → w < values_word ws → (t : ℕ) → t < count_word ws
        → line (modulus_word ws) (value_part ws) w (row_length (size_word ws) (values_word ws)) t ≡ values_of ws w t
    unfolding line
    carried_value w l t h =
        let first = value_start (size_word ws) (values_word ws) 0 in
        let step = t * row_length (size_word ws) (values_word ws) in
        let place : first + (w + step) ≡ first + w + step = omega arith in
        ap (reduce (modulus_word ws))
        (part_at ws first (length ws - first) (w + step) (omega (arith, value_reach w t l (row_of_board t h))) ∙ ap (λ q. get_or ws q 0) place)

    board_reduced : r ≡ count_word ws → BoardReduced ws e pivots
    board_reduced full =
        let p = modulus_word ws in
        let inside : (t : ℕ) → t < count_word ws → t < r = λ t l. omega arith in
        record {
          D = F.rank.D;
          inverse = full_board asked.laid (rows_rank_lem ws r F.rank) full;
          long = F.long;
          below = F.below;
          pivoting = subst (λ k. Pivoting k pivots) full (reduced_pivoting F asked.laid.header.size.1);
          no_pivot = λ c none i. F.rank.inverse.row_outside c i (no_pivot_outside F c (λ t l. none t (omega arith)));
          row = λ t c l b.
              F.row t c (inside t l) b
              ∙ ap (λ A. product (residues p) (count_word ws) F.rank.D A (get_or pivots t 0) c) (grid_rows ws);
          value = λ t w l b.
              F.carried t w (inside t l) b
              ∙ apply_same (residues p) (count_word ws) F.rank.D (line p (value_part ws) w (row_length (size_word ws) (values_word ws)))
              (values_of ws w) (carried_value w b) (get_or pivots t 0);
        }

    pub reduced_told : ReducedTold ws e pivots (eqb r (count_word ws))
    reduced_told =
        record {
          tells = rank_tells asked.laid (rows_rank_lem ws r F.rank);
          reduced = λ e. board_reduced (eqb-true r (count_word ws) e);
        }

-- ---- record j, of which `at` has the worked row

module _ (ws e pivots at : List ℕ) (H : BoardReduced ws e pivots) (A : RowsByPivot (count_word ws) pivots at) (j : ℕ) where
  proper : 1 < modulus_word ws
  proper = H.inverse.board.prime.prime.two_or_more

  -- its worked row lies in e
  pub worked : WorkedRow (get_or at j 0) e
  worked = let sizes = board_sizes ws H.inverse.board in record { few = omega (arith, A.few j); long = H.long }

  -- there is one: its numbers are those of row j of D R, and behind them stand those of D v
  module _ (some : 0 < get_or at j 0) where
    abbrev row : ℕ
    row = get_or at j 0 - 1

    pivot_row : (row < count_word ws) × (get_or pivots row 0 ≡ j)
    pivot_row = A.row j row (omega arith)

    below : (c : ℕ) → c < size_word ws + values_word ws → get_or e (worked_place (size_word ws) (values_word ws) (get_or at j 0) c) 0 < modulus_word ws
    below c l = H.below (worked_place (size_word ws) (values_word ws) (get_or at j 0) c) (omega (arith, row_inside_lem H.inverse.board.size.1 H.inverse.board.words.1 worked some))

    number : (c : ℕ) → c < size_word ws
        → get_or e (worked_place (size_word ws) (values_word ws) (get_or at j 0) c) 0
        ≡ (product (residues (modulus_word ws)) (count_word ws) H.D (multiplier_table ws) j c).value
    number c l =
        value_unique (modulus_word ws) _ _ (below c (omega arith))
        (H.row row c pivot_row.0 l
        ∙ ap (λ i. product (residues (modulus_word ws)) (count_word ws) H.D (multiplier_table ws) i c) pivot_row.1)

    pub value_number : (w : ℕ) → w < values_word ws
        → get_or e (worked_place (size_word ws) (values_word ws) (get_or at j 0) (size_word ws + w)) 0
        ≡ (value_in ws H.D j w).value
    value_number w l =
        value_unique (modulus_word ws) _ _ (below (size_word ws + w) (omega arith))
        (H.value row w pivot_row.0 l ∙ ap (λ i. value_in ws H.D i w) pivot_row.1)

  -- there is none: row j of D R is zeros
  no_row : get_or at j 0 ≡ 0
      → product (residues (modulus_word ws)) (count_word ws) H.D (multiplier_table ws) j j ≡ reduce (modulus_word ws) 0
  no_row none =
      product_row (residues (modulus_word ws)) (residues_ring (modulus_word ws) (omega (arith, proper))) (count_word ws) H.D (multiplier_table ws) j
      (λ t l. H.no_pivot j (A.none j none) t) j

  -- so the worked row is the unit row of j exactly if row j of D R is
  pub row_unit : UnitAt (size_word ws) (values_word ws) (get_or at j 0) j e → UnitIn ws H.D j
  row_unit (some, row) =
      numbers_to_residues (modulus_word ws) (size_word ws) j (λ c. get_or e (worked_place (size_word ws) (values_word ws) (get_or at j 0) c) 0)
      (product (residues (modulus_word ws)) (count_word ws) H.D (multiplier_table ws) j) proper (number some) row

  pub unit_row : j < size_word ws → UnitIn ws H.D j → UnitAt (size_word ws) (values_word ws) (get_or at j 0) j e
  unit_row l row = by_row (dec_lt 0 (get_or at j 0))
    where
      by_row : Dec (0 < get_or at j 0) → UnitAt (size_word ws) (values_word ws) (get_or at j 0) j e
      by_row (yes some) = (
        some,
        residues_to_numbers (modulus_word ws) (size_word ws) j (λ c. get_or e (worked_place (size_word ws) (values_word ws) (get_or at j 0) c) 0)
            (product (residues (modulus_word ws)) (count_word ws) H.D (multiplier_table ws) j) proper (number some) row,
      )
      by_row (no none) = absurd (unit_not_zero (modulus_word ws) j proper (sym (no_row (omega arith)) ∙ row j l))
