-- `board_words::change::drop_rows` meets its contract: the words from row m to the end of the last row are cleared, and m is counted.
use Prim.Native.Nat.{◌≤◌}
use native.Mathlib.Omega.{arith}
use Rattle.ledger.specs.Board.{header_length, largest_board}
use Rattle.ledger.proofs.LayoutPlaces.{row_behind, row_later, row_most}
use Rattle.board_words.proofs.ChangeRows.{rows_dropped}
use Rattle.board_words.proofs.change.drop_rows.Goals as goal
use Rattle.board_words.proofs.change.drop_rows.Goals.{After-row_start-end}

-- the part is one, and lies behind the header
part : (c : After-row_start-end) → (c.row_start-from.result ≤ c.row_start-end.result) × (header_length ≤ c.row_start-from.result) × (c.row_start-from.result ≤ largest_board)
part c =
    let h = c.args.header in
    let m = c.args.m in (
      omega (arith, row_later h.n h.s m h.k c.requires.0),
      omega (arith, row_behind h.n h.s m),
      omega (arith, row_most h.n h.s h.few_records h.few_words m (omega arith)),
    )

pub offset_bounds-board-from : goal.offset_bounds-board-from
offset_bounds-board-from c = omega (arith, (part (goal.at.offset_bounds-board-from c).After-row_start-end).2)

pub slice_bounds-clear-count : goal.slice_bounds-clear-count
slice_bounds-clear-count c = (part (goal.at.slice_bounds-clear-count c).After-row_start-end).0

pub slice_bounds-clear-start : goal.slice_bounds-clear-start
slice_bounds-clear-start c = (part (goal.at.slice_bounds-clear-start c).After-row_start-end).0

pub bounds-board-2 : goal.bounds-board-2
bounds-board-2 c = let h = c.args.header in omega (arith, row_behind h.n h.s h.k)

pub returns : goal.returns
returns c =
    let h = c.args.header in
    let from = c.row_start-from.ensures in
    let end = c.row_start-end.ensures in
    rw (from, end)
    (rows_dropped h.n h.s h.k c.args.m c.args.board.now c.clear.new.xs c.requires.0 c.requires.1
    (rw (from, end) at c.clear.ensures.0) c.clear.ensures.1)
