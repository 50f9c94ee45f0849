-- What stands in the words that a ledger is laid out as, and that those of a proper ledger are a board. The header computes;
-- the rows are those of `LayoutRows`; zeros follow.
use mathlib.Core.Path.{◌≡◌, refl, sym, ap, ◌∙◌}
use mathlib.Core.List.{List, ◌++◌}
use Prim.Native.Nat.{ℕ, ◌+◌, ◌*◌, ◌-◌, ◌≤◌, ◌<◌}
use native.Mathlib.Nat.{add_assoc, mul-le-mul_right}
use native.Mathlib.Decide.{dec_lt}
use native.Mathlib.Omega.{arith}
use lib.ListN.{length, get_or, drop, replicate, length-append, length-replicate, get_or-append}
use lib.Seq.{get_or-drop, get_or-append-add}
use Rattle.words.proofs.Zeros.{zeros_at}
use Rattle.checks.specs.Prime.{IsModulus}
use Rattle.field.specs.Residue.{reduce, residues}
use Rattle.field.specs.View.{table}
use Rattle.field.proofs.Views.{table_entry}
use Rattle.checks.specs.Largest.{FrameSize, WordCount}
use Rattle.ledger.specs.Ledger.{Entry, no_entry, multiplier_rows}
use Rattle.ledger.specs.Board.{header_length, row_length, row_start, value_start, board_length, modulus_word, size_word, count_word, values_word}
use Rattle.ledger.specs.Board.{row_words, layout, entries_of, IsBoard}
use Rattle.ledger.specs.Proper.{Proper}
use Rattle.ledger.proofs.LayoutPlaces.{row_words_lem, row_place}
use Rattle.ledger.proofs.LayoutRows.{Wide, entry_words, entry_multiplier, entry_value, rows_length, rows_at, entries_back}
use Rattle.algebra.proofs.Alike.{independent_alike}

-- how many zeros stand behind k rows
abbrev pub zeros_behind : (n s k : ℕ) → ℕ
zeros_behind n s k = board_length n s - row_start n s k

module _ (p n s : ℕ) (es : List Entry) where
  -- the header is read back
  pub layout_modulus : modulus_word (layout p n s es) ≡ p
  unfolding layout
  layout_modulus = refl

  pub layout_size : size_word (layout p n s es) ≡ n
  unfolding layout
  layout_size = refl

  pub layout_count : count_word (layout p n s es) ≡ length es
  unfolding layout
  layout_count = refl

  pub layout_words : values_word (layout p n s es) ≡ s
  unfolding layout
  layout_words = refl

  layout_rest : drop header_length (layout p n s es) ≡ row_words es ++ replicate (zeros_behind n s (length es)) 0
  unfolding layout
  layout_rest = refl

  -- a place behind the header
  layout_behind : (q : ℕ)
      → get_or (layout p n s es) (header_length + q) 0 ≡ get_or (row_words es ++ replicate (zeros_behind n s (length es)) 0) q 0
  layout_behind q = sym (get_or-drop header_length (layout p n s es) q 0) ∙ ap (λ ws. get_or ws q 0) layout_rest

  module _ (wide : Wide n s es) where
    -- the entries are read back
    pub layout_entries : entries_of (layout p n s es) ≡ es
    unfolding entries_of layout
    layout_entries = entries_back n s es (replicate (zeros_behind n s (length es)) 0) wide

    -- what stands at place t of row i
    pub layout_at : (i t : ℕ) → i < length es → t < row_length n s
        → get_or (layout p n s es) (row_start n s i + t) 0 ≡ get_or (entry_words (get_or es i no_entry)) t 0
    unfolding row_start
    layout_at i t h l =
        let inside : i * row_length n s + t < length (row_words es) =
        omega (arith, rows_length n s es wide, mul-le-mul_right (row_length n s) h) in
        ap (λ q. get_or (layout p n s es) q 0) (add_assoc header_length (i * row_length n s) t)
        ∙ layout_behind (i * row_length n s + t)
        ∙ get_or-append (row_words es) (replicate (zeros_behind n s (length es)) 0) 0 (i * row_length n s + t) inside
        ∙ rows_at n s es wide i t h l

    pub layout_multiplier : (i j : ℕ) → i < length es → j < n
        → get_or (layout p n s es) (row_start n s i + j) 0 ≡ get_or (get_or es i no_entry).multipliers j 0
    layout_multiplier i j h l = layout_at i j h (omega (arith, row_words_lem n s)) ∙ entry_multiplier n s (get_or es i no_entry) j (wide i h) l

    pub layout_value : (i w : ℕ) → i < length es → w < s
        → get_or (layout p n s es) (value_start n s i + w) 0 ≡ get_or (get_or es i no_entry).values w 0
    unfolding value_start
    layout_value i w h l =
        ap (λ q. get_or (layout p n s es) q 0) (add_assoc (row_start n s i) n w)
        ∙ layout_at i (n + w) h (omega (arith, row_words_lem n s))
        ∙ entry_value n s (get_or es i no_entry) w (wide i h)

    -- 0 from the rows' end on
    pub layout_zero : (q : ℕ) → row_start n s (length es) ≤ q → get_or (layout p n s es) q 0 ≡ 0
    unfolding row_start
    layout_zero q h =
        let past : ℕ = q - row_start n s (length es) in
        let place : q ≡ header_length + (length (row_words es) + past) = omega (arith, rows_length n s es wide) in
        ap (λ k. get_or (layout p n s es) k 0) place
        ∙ layout_behind (length (row_words es) + past)
        ∙ get_or-append-add (row_words es) (replicate (zeros_behind n s (length es)) 0) past 0
        ∙ zeros_at (zeros_behind n s (length es)) past

    pub layout_length : length es ≤ n → length (layout p n s es) ≡ board_length n s
    unfolding layout board_length row_start
    layout_length fits =
        omega (
          arith,
          length-append (row_words es) (replicate (zeros_behind n s (length es)) 0),
          length-replicate {A = ℕ} (zeros_behind n s (length es)) 0,
          rows_length n s es wide,
          mul-le-mul_right (row_length n s) fits,
        )

-- the multipliers of the entries are the table in the words
pub layout_table : (p n s : ℕ) (es : List Entry) → Wide n s es → (i j : ℕ) → i < length es → j < n
    → multiplier_rows p es i j ≡ table p (layout p n s es) header_length (row_length n s) (length es) n i j
unfolding multiplier_rows row_start
layout_table p n s es wide i j h l =
    ap (reduce p) (sym (layout_multiplier p n s es wide i j h l))
    ∙ sym (table_entry p (layout p n s es) header_length (row_length n s) (length es) n i j h l)

-- the entries of a proper ledger have n multipliers and s values
pub wide_entries : (p n s : ℕ) (es : List Entry) → Proper p n s es → Wide n s es
wide_entries p n s es P i h = (P.wide i h, P.values_long i h)

-- the words of an entry are below p
entry_below : (p n s : ℕ) (es : List Entry) → Proper p n s es → (i t : ℕ) → i < length es → t < row_length n s
    → get_or (entry_words (get_or es i no_entry)) t 0 < p
unfolding row_length
entry_below p n s es P i t h l = by_place (dec_lt t n)
  where
    e : Entry
    e = get_or es i no_entry

    by_place : Dec (t < n) → get_or (entry_words e) t 0 < p
    by_place (yes k) = rw (entry_multiplier n s e t (wide_entries p n s es P i h) k) (P.below i t h k)
    by_place (no k) =
        let last : t ≡ n + (t - n) = omega arith in
        rw (last, entry_value n s e (t - n) (wide_entries p n s es P i h)) (P.value_below i (t - n) h (omega arith))

-- the words of the rows are below p
layout_below : (p n s : ℕ) (es : List Entry) → Proper p n s es → (q : ℕ) → header_length ≤ q → q < row_start n s (length es)
    → get_or (layout p n s es) q 0 < p
layout_below p n s es P q h l =
    let (i, t, row, inside, place) = row_place n s (length es) q h l in
    rw (place, layout_at p n s es (wide_entries p n s es P) i t row inside) (entry_below p n s es P i t row inside)

-- a proper ledger is laid out as a board
pub layout_board : (p n s : ℕ) (es : List Entry) → IsModulus p → FrameSize n → WordCount s → Proper p n s es
    → IsBoard (layout p n s es)
unfolding layout
layout_board p n s es ok size words P =
    record {
      four = omega arith;
      prime = ok;
      size = size;
      words = words;
      long = layout_length p n s es (wide_entries p n s es P) P.fits;
      count = P.fits;
      below = layout_below p n s es P;
      independent =
          independent_alike (residues p) (length es) n (multiplier_rows p es)
          (table p (layout p n s es) header_length (row_length n s) (length es) n)
          (layout_table p n s es (wide_entries p n s es P)) P.independent;
      zeros = λ q h l. layout_zero p n s es (wide_entries p n s es P) q h;
    }
