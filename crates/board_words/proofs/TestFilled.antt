-- The words behind the header in two parts, as the code passes them on: the rows' entries, and what stands behind the rows. The
-- first are below p and the second all 0 exactly if the clauses on the board's words hold.
use mathlib.Core.Path.{◌≡◌, sym, ap, ◌∙◌}
use mathlib.Core.List.{List}
use Prim.Native.Nat.{ℕ, ◌+◌, ◌-◌, ◌<◌}
use native.Mathlib.Decide.{dec_lt}
use native.Mathlib.Omega.{arith}
use lib.ListN.{length, get_or, take, drop, get_or-eq_default}
use Rattle.words.specs.Words.{Below, Blank}
use Rattle.words.proofs.Parts.{part_length, part_at}
use Rattle.ledger.specs.Board.{header_length, modulus_word, size_word, count_word, values_word, rows_end}
use Rattle.ledger.proofs.LayoutPlaces.{row_behind}
use Rattle.board_words.specs.Tested.{HasHeader, Filled}
use Rattle.board_words.proofs.TestSizes.{rows_inside}

-- the parts, split where the rows end
abbrev pub entry_part : List ℕ → List ℕ
entry_part ws = take (rows_end ws - header_length) (drop header_length ws)

abbrev pub rest_part : List ℕ → List ℕ
rest_part ws = take (length ws - rows_end ws) (drop (rows_end ws) ws)

module _ (ws : List ℕ) (h : HasHeader ws) where
  entry_long : length (entry_part ws) ≡ rows_end ws - header_length
  entry_long =
      part_length ws header_length (rows_end ws - header_length)
      (omega (arith, rows_inside ws h, row_behind (size_word ws) (values_word ws) (count_word ws)))

  rest_long : length (rest_part ws) ≡ length ws - rows_end ws
  rest_long = part_length ws (rows_end ws) (length ws - rows_end ws) (omega (arith, rows_inside ws h))

  pub filled_below : Filled ws → Below (modulus_word ws) (entry_part ws)
  filled_below f i l =
      let inside : i < rows_end ws - header_length = omega (arith, entry_long) in
      rw (part_at ws header_length (rows_end ws - header_length) i inside) (f.below (header_length + i) (omega arith) (omega arith))

  pub filled_zero : Filled ws → Blank (rest_part ws)
  filled_zero f j = by_place (dec_lt j (length ws - rows_end ws))
    where
      by_place : Dec (j < length ws - rows_end ws) → get_or (rest_part ws) j 0 ≡ 0
      by_place (yes inside) =
          part_at ws (rows_end ws) (length ws - rows_end ws) j inside ∙ f.zeros (rows_end ws + j) (omega arith) (omega arith)
      by_place (no past) = get_or-eq_default (rest_part ws) 0 (omega (arith, rest_long))

  pub parts_filled : Below (modulus_word ws) (entry_part ws) → Blank (rest_part ws) → Filled ws
  parts_filled b z =
      record {
        below = λ q l g.
            let place : header_length + (q - header_length) ≡ q = omega arith in
            rw (← place, ← part_at ws header_length (rows_end ws - header_length) (q - header_length) (omega arith))
            (b (q - header_length) (omega (arith, entry_long)));
        zeros = λ q l g.
            let place : rows_end ws + (q - rows_end ws) ≡ q = omega arith in
            ap (λ r. get_or ws r 0) (sym place)
            ∙ sym (part_at ws (rows_end ws) (length ws - rows_end ws) (q - rows_end ws) (omega arith))
            ∙ z (q - rows_end ws);
      }
