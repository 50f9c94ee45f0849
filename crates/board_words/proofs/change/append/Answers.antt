-- `board_words::change::append` meets its contract: what `put` writes twice, the row and its values, with the count written after it, is
-- the row appended.
use mathlib.Core.Path.{◌∙◌}
use Prim.Native.Nat.{◌+◌, ◌≤◌}
use native.Mathlib.Numerals.{add-one}
use native.Mathlib.Omega.{arith}
use lib.ListN.{length, length-set}
use Rattle.ledger.specs.Board.{header_length, value_start}
use Rattle.words.proofs.Writes.{Put}
use Rattle.ledger.proofs.LayoutPlaces.{row_behind, value_behind, value_last}
use Rattle.board_words.proofs.ChangeRows.{put_appended}
use Rattle.board_words.proofs.change.append.Goals as goal
use Rattle.board_words.proofs.change.append.Goals.{Start}

-- the values lie in the words, behind the row and the header
place : (s : Start) → let h = s.args.header in
    let v = value_start h.n h.s h.k in
    (v + h.s ≤ length s.args.board.now) × (header_length + h.n ≤ v)
place s =
    let h = s.args.header in
    (omega (arith, value_last h.n h.s h.k, s.requires.2), omega (arith, value_behind h.n h.s h.k, row_behind h.n h.s h.k))

pub put-requires : goal.put-requires
put-requires c =
    let h = c.args.header in omega (arith, (place (goal.at.put-requires c).Start).0, value_behind h.n h.s h.k)

pub put-requires-2 : goal.put-requires-2
put-requires-2 c = omega (arith, (place (goal.at.put-requires-2 c).Start).0, c.put.ensures.0)

pub bounds-board-2 : goal.bounds-board-2
bounds-board-2 c =
    let (inside, far) = place (goal.at.bounds-board-2 c).Start in
    omega (arith, c.put.ensures.0, c.put-2.ensures.0)

pub shape_of-board : goal.shape_of-board
shape_of-board c = simp length-set (c.put-2.ensures.0 ∙ c.put.ensures.0)

pub returns : goal.returns
returns c =
    let a = c.args in
    let h = a.header in
    let e = c.put.ensures in
    let g = c.put-2.ensures in
    let mid = c.put.new.out in
    let late = c.put-2.new.out in
    let row : Put a.f.now c.row_start-at.result (length a.f.now) a.board.now mid =
    record { long = e.0; passed = e.1; front = e.2; behind = e.3 } in
    let values : Put a.v.now c.value_start-end.result (length a.v.now) mid late =
    record { long = g.0; passed = g.1; front = g.2; behind = g.3 } in
    rw (add-one h.k)
    (put_appended _ _ h.k a.f.now a.v.now _ mid late (rw (c.row_start-at.ensures, c.requires.0) at row)
    (rw (c.value_start-end.ensures, c.requires.1) at values) c.requires.2)
