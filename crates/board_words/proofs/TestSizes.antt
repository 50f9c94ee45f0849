-- How large the rows of a board are, for what the code computes with them.
use mathlib.Core.List.{List}
use Prim.Native.Nat.{ℕ, ◌≤◌}
use native.Mathlib.Omega.{arith}
use lib.ListN.{length}
use Rattle.checks.specs.declared.Refusal.{Refusal}
use Rattle.checks.specs.InOrder.{FirstFailing}
use Rattle.checks.specs.Largest.{largest, FrameSize, WordCount}
use Rattle.checks.specs.Prime.{IsModulus}
use Rattle.checks.specs.Sizes.{frame_sizes}
use Rattle.checks.proofs.InOrder.{none_left, ◌and_then◌, not_both}
use Rattle.ledger.specs.Board.{size_word, count_word, values_word, rows_end}
use Rattle.ledger.proofs.LayoutPlaces.{row_inside}
use Rattle.board_words.specs.Tested.{HasHeader}

module _ (ws : List ℕ) (h : HasHeader ws) where
  -- the rows of a board are at most 64, and lie in its words
  pub count_most : count_word ws ≤ largest
  count_most = omega (arith, h.count, h.size.1)

  pub rows_inside : rows_end ws ≤ length ws
  rows_inside = omega (arith, h.long, row_inside (size_word ws) (values_word ws) (count_word ws) h.count)

-- where a check of the modulus, the size and the words of a record fails, they are not all right
pub no_sizes : {p n s : ℕ} {k : Refusal} → FirstFailing (frame_sizes p n s) k → IsModulus p → FrameSize n → WordCount s → ⊥
no_sizes f m size words = not_both f (m and_then size and_then words and_then none_left)
