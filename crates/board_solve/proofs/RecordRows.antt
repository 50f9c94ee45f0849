-- A worked row as the code lends it: it lies in the room for all of them, and the test of its numbers tells whether it is the unit
-- row of j.
use mathlib.Core.Path.{◌≡◌, sym, ◌∙◌}
use mathlib.Core.Bool.{Bool}
use mathlib.Core.List.{List}
use Prim.Native.Nat.{ℕ, ◌+◌, ◌*◌, ◌-◌, ◌≤◌, ◌<◌}
use native.Mathlib.Omega.{arith}
use lib.ListN.{length, get_or, take, drop}
use Rattle.algebra.specs.Answers.{Tells}
use Rattle.algebra.proofs.Answers.{tells_same}
use Rattle.checks.specs.Largest.{largest, most_words}
use Rattle.words.specs.Lengths.{widest_table}
use Rattle.words.proofs.Parts.{part_length, part_at}
use Rattle.matrix_echelon.proofs.WorkedClear.{row_inside}
use Rattle.board_solve.specs.Records.{IsUnitRow, WorkedRow, worked_place, UnitAt}

-- the first n numbers of the row
abbrev worked_part : (n s row : ℕ) → List ℕ → List ℕ
worked_part n s row e = take ((row - 1) * (n + s) + n - (row - 1) * (n + s)) (drop ((row - 1) * (n + s)) e)

module _ {n s row : ℕ} {e : List ℕ} (small : n ≤ largest) (words : s ≤ most_words) (w : WorkedRow row e) (some : 0 < row) where
  -- the row and its values lie in the room
  pub row_in_room : worked_place n s row (n + s) ≤ widest_table
  row_in_room = omega (arith, row_inside (row - 1) (n + s) (omega (arith, w.few, some)) (omega arith))

  pub row_inside_lem : worked_place n s row (n + s) ≤ length e
  row_inside_lem = omega (arith, row_in_room, w.long)

  part_long : length (worked_part n s row e) ≡ n
  part_long =
      part_length e ((row - 1) * (n + s)) ((row - 1) * (n + s) + n - (row - 1) * (n + s)) (omega (arith, row_inside_lem)) ∙ omega arith

  part_number : (c : ℕ) → c < n → get_or (worked_part n s row e) c 0 ≡ get_or e (worked_place n s row c) 0
  part_number c l = part_at e ((row - 1) * (n + s)) ((row - 1) * (n + s) + n - (row - 1) * (n + s)) c (omega arith)

  pub row_tells : (j : ℕ) {b : Bool} → Tells b (IsUnitRow (worked_part n s row e) j) → Tells b (UnitAt n s row j e)
  row_tells j told =
      tells_same (λ u. (some, λ c l. sym (part_number c l) ∙ u c (omega (arith, part_long))))
      (λ u c l. let inside : c < n = omega (arith, part_long) in part_number c inside ∙ u.1 c inside) told
