-- Words that are a board are the layout of the ledger that they hold, and that ledger is proper: so words are a board exactly
-- if they are the layout of a proper ledger. Entry i is read from row i; the words behind the rows are the layout's zeros.
use mathlib.Core.Path.{◌≡◌, sym, ap, ap₂, subst, ◌∙◌}
use mathlib.Core.Logic.{◌↔◌}
use mathlib.Core.List.{List, ◌∷◌, ◌++◌}
use Prim.Native.Nat.{ℕ, suc, ◌+◌, ◌*◌, ◌-◌, ◌≤◌, ◌<◌}
use native.Mathlib.Nat.{le_refl, add_assoc}
use native.Mathlib.Omega.{arith}
use lib.ListN.{length, get_or, take, drop, replicate, length-drop, length-replicate, get_or-replicate, take-append-drop}
use lib.Seq.{length-take-le, drop-cons, get_or-take, get_or-drop, ext_get_or}
use Rattle.checks.specs.Prime.{IsModulus}
use Rattle.field.specs.Residue.{reduce, residues}
use Rattle.field.specs.View.{table}
use Rattle.field.proofs.Views.{table_entry}
use Rattle.checks.specs.Largest.{FrameSize, WordCount}
use Rattle.ledger.specs.Ledger.{Entry, no_entry, multiplier_rows, value_table}
use Rattle.ledger.specs.Board.{header_length, row_length, row_start, value_start, modulus_word, size_word, count_word, values_word, multiplier_table}
use Rattle.ledger.specs.Board.{row_words, layout, entries_of, IsBoard}
use Rattle.ledger.specs.Proper.{Proper}
use Rattle.ledger.proofs.LayoutPlaces.{row_words_lem, row_behind, row_later, row_ends, row_inside}
use Rattle.ledger.proofs.LayoutRows.{Wide, row_entry, entries_count, entries_at, entries_rows}
use Rattle.algebra.proofs.Alike.{independent_alike}
use Rattle.ledger.proofs.LayoutBoard.{zeros_behind, layout_board}

-- ---- the entries of any words

-- the words behind the header, and the start of row i among them
abbrev rest : List ℕ → List ℕ
rest ws = drop header_length ws

abbrev start : List ℕ → ℕ → ℕ
start ws i = i * row_length (size_word ws) (values_word ws)

module _ (ws : List ℕ) where
  -- there are as many as the count says
  pub words_count : length (entries_of ws) ≡ count_word ws
  unfolding entries_of
  words_count = entries_count (size_word ws) (values_word ws) (count_word ws) (drop header_length ws)

  words_entry : (i : ℕ) → i < count_word ws
      → get_or (entries_of ws) i no_entry
      ≡ row_entry (size_word ws) (values_word ws) (drop (start ws i) (rest ws))
  unfolding entries_of
  words_entry i h = entries_at (size_word ws) (values_word ws) (count_word ws) (rest ws) i h

  -- a place of a row behind the header
  words_place : (i j : ℕ) → get_or (rest ws) (start ws i + j) 0 ≡ get_or ws (row_start (size_word ws) (values_word ws) i + j) 0
  unfolding row_start
  words_place i j =
      get_or-drop header_length ws (start ws i + j) 0 ∙ ap (λ q. get_or ws q 0) (sym (add_assoc header_length (start ws i) j))

  pub words_multiplier : (i j : ℕ) → i < count_word ws → j < size_word ws
      → get_or (get_or (entries_of ws) i no_entry).multipliers j 0 ≡ get_or ws (row_start (size_word ws) (values_word ws) i + j) 0
  words_multiplier i j h l =
      ap (λ e. get_or e.multipliers j 0) (words_entry i h)
      ∙ get_or-take (size_word ws) (drop (start ws i) (rest ws)) j 0 l
      ∙ get_or-drop (start ws i) (rest ws) j 0
      ∙ words_place i j

  pub words_value : (i w : ℕ) → i < count_word ws → w < values_word ws
      → get_or (get_or (entries_of ws) i no_entry).values w 0 ≡ get_or ws (value_start (size_word ws) (values_word ws) i + w) 0
  unfolding value_start
  words_value i w h l =
      ap (λ e. get_or e.values w 0) (words_entry i h)
      ∙ get_or-take (values_word ws) (drop (size_word ws) (drop (start ws i) (rest ws))) w 0 l
      ∙ get_or-drop (size_word ws) (drop (start ws i) (rest ws)) w 0
      ∙ get_or-drop (start ws i) (rest ws) (size_word ws + w) 0
      ∙ words_place i (size_word ws + w)
      ∙ ap (λ q. get_or ws q 0) (sym (add_assoc (row_start (size_word ws) (values_word ws) i) (size_word ws) w))

  -- the multipliers as a matrix are the table in the words, and the values stand behind them
  pub rows_table : (p i j : ℕ) → i < count_word ws → j < size_word ws
      → multiplier_rows p (entries_of ws) i j ≡ table p ws header_length (row_length (size_word ws) (values_word ws)) (count_word ws) (size_word ws) i j
  unfolding multiplier_rows row_start
  rows_table p i j h l =
      ap (reduce p) (words_multiplier i j h l)
      ∙ sym (table_entry p ws header_length (row_length (size_word ws) (values_word ws)) (count_word ws) (size_word ws) i j h l)

  pub rows_values : (p i w : ℕ) → i < count_word ws → w < values_word ws
      → value_table p (entries_of ws) i w ≡ reduce p (get_or ws (value_start (size_word ws) (values_word ws) i + w) 0)
  unfolding value_table
  rows_values p i w h l = ap (reduce p) (words_value i w h l)

-- ---- the words of a board

-- four words at least begin with a header
header_split : (ws : List ℕ) → 4 ≤ length ws → ws ≡ modulus_word ws ∷ size_word ws ∷ count_word ws ∷ values_word ws ∷ drop 4 ws
header_split ws h =
    drop-cons ws 0 0 (omega arith)
    ∙ ap (λ xs. modulus_word ws ∷ xs)
    (drop-cons ws 1 0 (omega arith)
    ∙ ap (λ xs. size_word ws ∷ xs)
    (drop-cons ws 2 0 (omega arith) ∙ ap (λ xs. count_word ws ∷ xs) (drop-cons ws 3 0 (omega arith))))

-- numbers that are all 0 are a list of zeros
all_zeros : (m : ℕ) (xs : List ℕ) → length xs ≡ m → ((i : ℕ) → i < length xs → get_or xs i 0 ≡ 0) → xs ≡ replicate m 0
all_zeros m xs l h =
    ext_get_or 0 xs (replicate m 0) (l ∙ sym (length-replicate m 0)) (λ i b. h i b ∙ sym (get_or-replicate m i 0 0 (omega arith)))

module _ (ws : List ℕ) (b : IsBoard ws) where
  -- the rows lie in the words
  rows_inside : (i : ℕ) → i ≤ count_word ws → header_length + start ws i ≤ length ws
  unfolding row_start
  rows_inside i h = omega (arith, b.long, row_later (size_word ws) (values_word ws) i (count_word ws) h, row_inside (size_word ws) (values_word ws) (count_word ws) b.count)

  pub board_wide : Wide (size_word ws) (values_word ws) (entries_of ws)
  unfolding row_length
  board_wide i h = (
    ap (λ e. length e.multipliers) (words_entry ws i inside) ∙ length-take-le (size_word ws) row (omega (arith, room)),
    ap (λ e. length e.values) (words_entry ws i inside)
        ∙ length-take-le (values_word ws) (drop (size_word ws) row) (omega (arith, room, length-drop (size_word ws) row)),
  )
    where
      inside : i < count_word ws
      inside = omega (arith, words_count ws)

      row : List ℕ
      row = drop (start ws i) (rest ws)

      room : size_word ws + values_word ws ≤ length row
      room = omega (arith, length-drop (start ws i) (rest ws), length-drop header_length ws, rows_inside (suc i) inside)

  -- behind the header stand the rows
  board_rows : row_words (entries_of ws) ≡ take (start ws (count_word ws)) (rest ws)
  unfolding entries_of
  board_rows =
      entries_rows (size_word ws) (values_word ws) (count_word ws) (rest ws)
      (omega (arith, length-drop header_length ws, rows_inside (count_word ws) (le_refl (count_word ws))))

  -- and behind the rows the zeros
  board_zeros : replicate (zeros_behind (size_word ws) (values_word ws) (length (entries_of ws))) 0 ≡ drop (start ws (count_word ws)) (rest ws)
  unfolding row_start
  board_zeros =
      sym
      (all_zeros (zeros_behind (size_word ws) (values_word ws) (length (entries_of ws))) (drop end (rest ws))
      (omega (arith, long, b.long, ap (start ws) (words_count ws))) zero_at)
    where
      end : ℕ
      end = start ws (count_word ws)

      long : length (drop end (rest ws)) ≡ length ws - header_length - end
      long = length-drop end (rest ws) ∙ ap (λ l. l - end) (length-drop header_length ws)

      zero_at : (i : ℕ) → i < length (drop end (rest ws)) → get_or (drop end (rest ws)) i 0 ≡ 0
      zero_at i h =
          get_or-drop end (rest ws) i 0
          ∙ get_or-drop header_length ws (end + i) 0
          ∙ b.zeros (header_length + (end + i)) (omega arith) (omega (arith, long))

  -- a board is the layout of the ledger that it holds
  pub board_layout : layout (modulus_word ws) (size_word ws) (values_word ws) (entries_of ws) ≡ ws
  unfolding layout
  board_layout =
      ap₂ (λ k xs. modulus_word ws ∷ size_word ws ∷ k ∷ values_word ws ∷ xs) (words_count ws)
      (ap₂ (λ xs ys. xs ++ ys) board_rows board_zeros ∙ take-append-drop (start ws (count_word ws)) (rest ws))
      ∙ sym (header_split ws b.four)

  -- a place among the rows is below p
  board_below : (i t : ℕ) → i < count_word ws → t < row_length (size_word ws) (values_word ws) → get_or ws (row_start (size_word ws) (values_word ws) i + t) 0 < modulus_word ws
  board_below i t h l =
      let n = size_word ws in
      let s = values_word ws in
      b.below (row_start n s i + t) (omega (arith, row_behind n s i)) (omega (arith, row_ends n s i (count_word ws) h))

  -- and that ledger is proper
  pub board_proper : Proper (modulus_word ws) (size_word ws) (values_word ws) (entries_of ws)
  unfolding value_start
  board_proper =
      record {
        fits = omega (arith, words_count ws, b.count);
        wide = λ i h. (board_wide i h).0;
        values_long = λ i h. (board_wide i h).1;
        below = λ i j h l.
            let inside : i < count_word ws = omega (arith, words_count ws) in
            rw (words_multiplier ws i j inside l) (board_below i j inside (omega (arith, row_words_lem (size_word ws) (values_word ws))));
        value_below = λ i w h l.
            let inside : i < count_word ws = omega (arith, words_count ws) in
            let place = add_assoc (row_start (size_word ws) (values_word ws) i) (size_word ws) w in
            rw (words_value ws i w inside l, place)
            (board_below i (size_word ws + w) inside (omega (arith, row_words_lem (size_word ws) (values_word ws))));
        independent =
            rw (words_count ws)
            (independent_alike (residues (modulus_word ws)) (count_word ws) (size_word ws)
            (multiplier_table ws)
            (multiplier_rows (modulus_word ws) (entries_of ws))
            (λ i j h l. sym (rows_table ws (modulus_word ws) i j h l)) b.independent);
      }

-- words are a board exactly if they are the layout of a proper ledger
pub board_exactly : (ws : List ℕ)
    → IsBoard ws
    ↔ ((p : ℕ) × (n : ℕ) × (s : ℕ) × (es : List Entry) × IsModulus p × FrameSize n × WordCount s × Proper p n s es × (ws ≡ layout p n s es))
board_exactly ws = (
  λ b. (modulus_word ws, size_word ws, values_word ws, entries_of ws, b.prime, b.size, b.words, board_proper ws b, sym (board_layout ws b)),
  λ (p, n, s, es, ok, size, words, P, e). subst IsBoard (sym e) (layout_board p n s es ok size words P),
)
