-- `board_solve::records::settled` meets its contract: where there is no worked row there is no unit row; else the test of its numbers
-- tells.
use native.Mathlib.Omega.{arith}
use Prim.Native.Nat.{◌+◌, ◌≤◌, ◌<◌}
use Rattle.algebra.proofs.Answers.{tells_no}
use Rattle.words.specs.Lengths.{widest_table}
use Rattle.board_solve.specs.Records.{worked_place}
use Rattle.board_solve.proofs.RecordRows.{row_in_room, row_tells}
use Rattle.board_solve.proofs.records.settled.Goals as goal
use Rattle.board_solve.proofs.records.settled.Goals.{Else-row-eq0}

-- past the test there is a row
some : (c : Else-row-eq0) → 0 < c.args.row
some c = omega arith

-- it lies in the room
inside : (c : Else-row-eq0) → let h = c.args.header in worked_place h.n h.s c.args.row (h.n + h.s) ≤ widest_table
inside c = let h = c.args.header in row_in_room h.few_records h.few_words c.requires (some c)

pub returns-then-row-eq0 : goal.returns-then-row-eq0
returns-then-row-eq0 c = tells_no (λ unit. omega (arith, unit.0))

pub overflow_mul-at : goal.overflow_mul-at
overflow_mul-at c = omega (arith, inside (goal.at.overflow_mul-at c).Else-row-eq0)

pub overflow_add-end : goal.overflow_add-end
overflow_add-end c = omega (arith, inside (goal.at.overflow_add-end c).Else-row-eq0)

pub offset_bounds-e-at : goal.offset_bounds-e-at
offset_bounds-e-at c = omega (arith, inside (goal.at.offset_bounds-e-at c).Else-row-eq0)

pub returns : goal.returns
returns c =
    let h = c.args.header in
    row_tells h.few_records h.few_words c.requires (some (goal.at.returns c).Else-row-eq0) c.args.j c.is_unit.ensures
