-- The standing rows of a board: the values of the ledger's entries stand in the words, and a board's sizes are small. That the
-- multipliers do is the ledger's own `rows_table`.
use mathlib.Core.Path.{◌≡◌, ap, ◌∙◌}
use mathlib.Core.List.{List}
use Prim.Native.Nat.{ℕ, ◌+◌, ◌*◌, ◌≤◌, ◌<◌}
use native.Mathlib.Omega.{arith}
use lib.ListN.{length, get_or}
use Rattle.checks.specs.Largest.{largest}
use Rattle.field.specs.Residue.{reduce}
use Rattle.field.specs.View.{line}
use Rattle.ledger.specs.Board.{IsBoard, row_length, value_start, modulus_word, size_word, count_word, values_word, entries_of}
use Rattle.ledger.specs.Ledger.{value_table}
use Rattle.ledger.proofs.LayoutPlaces.{value_step, value_inside}
use Rattle.ledger.proofs.Parse.{rows_values}
use Rattle.board_solve.specs.Records.{values_of}

module _ (ws : List ℕ) where
  pub values_same : (i w : ℕ) → i < count_word ws → w < values_word ws → value_table (modulus_word ws) (entries_of ws) i w ≡ values_of ws w i
  unfolding line
  values_same i w h l =
      let place : value_start (size_word ws) (values_word ws) i + w
      ≡ value_start (size_word ws) (values_word ws) 0 + w + i * row_length (size_word ws) (values_word ws) =
      omega (arith, value_step (size_word ws) (values_word ws) i) in
      rows_values ws (modulus_word ws) i w h l ∙ ap (λ q. reduce (modulus_word ws) (get_or ws q 0)) place

  -- the values of word w of the standing rows lie in the words
  pub values_reach : IsBoard ws → (w t : ℕ) → w < values_word ws → t < count_word ws
      → value_start (size_word ws) (values_word ws) 0 + w + t * row_length (size_word ws) (values_word ws) < length ws
  values_reach b w t l h =
      let n = size_word ws in
      let s = values_word ws in
      omega (arith, b.long, value_step n s t, value_inside n s t w (omega (arith, b.count)) l)

  pub board_sizes : IsBoard ws → (0 < modulus_word ws) × (size_word ws ≤ largest) × (count_word ws ≤ largest)
  board_sizes b = (omega (arith, b.prime.prime.two_or_more), b.size.1, omega (arith, b.size.1, b.count))
