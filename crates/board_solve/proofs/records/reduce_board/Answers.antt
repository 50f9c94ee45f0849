-- `board_solve::records::reduce_board` meets its contract: the rows are read in place with their values, and their rank says whether
-- the words are a board.
use mathlib.Core.Path.{◌≡◌}
use Prim.Native.Nat.{◌<◌}
use native.Mathlib.Omega.{arith}
use lib.ListN.{length}
use Rattle.ledger.specs.Board.{size_word, values_word, value_start}
use Rattle.ledger.proofs.LayoutPlaces.{board_most}
use Rattle.board_solve.proofs.RecordReduced.{first_value, rows_system, rows_room, reduced_told}
use Rattle.board_solve.proofs.records.reduce_board.Goals as goal
use Rattle.board_solve.proofs.records.reduce_board.Goals.{After-value_start}

-- where the values are lent from
first : (c : After-value_start) → let ws = c.args.board.now in c.value_start.result ≡ value_start (size_word ws) (values_word ws) 0
first c = let e = c.of-header.ensures in rw (c.value_start.ensures, e.records, e.words)

-- it lies in the words
inside : (c : After-value_start) → c.value_start.result < length c.args.board.now
inside c = omega (arith, first c, first_value _ _ _ c.requires)

pub offset_bounds-board-value_start : goal.offset_bounds-board-value_start
offset_bounds-board-value_start c =
    let h = c.requires.laid.header in
    omega (arith, inside (goal.at.offset_bounds-board-value_start c).After-value_start, h.long, board_most _ _ h.size.1 h.words.1)

pub slice_bounds-values-count : goal.slice_bounds-values-count
slice_bounds-values-count c = omega (arith, inside (goal.at.slice_bounds-values-count c).After-value_start)

pub slice_bounds-values-start : goal.slice_bounds-values-start
slice_bounds-values-start c = omega (arith, inside (goal.at.slice_bounds-values-start c).After-value_start)

pub reduced-requires : goal.reduced-requires
reduced-requires c =
    let e = c.of-header.ensures in
    rw (c.rows-grid.ensures, c.value_start.ensures, c.row_length-step.ensures, e.modulus, e.records, e.words, e.rows)
    (rows_system _ _ _ c.requires, rows_room _ _ _ c.requires)

pub returns : goal.returns
returns c =
    let e = c.of-header.ensures in
    let form = rw (c.rows-grid.ensures, c.value_start.ensures, c.row_length-step.ensures, e.modulus, e.records, e.words, e.rows) at c.reduced.ensures in
    let told = reduced_told _ _ _ c.requires _ _ _ form in
    rw (← e.rows) at told
