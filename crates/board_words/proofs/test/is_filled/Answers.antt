-- `board_words::test::is_filled` meets its contract: the entries are below p and what stands behind the rows is 0 exactly if the words
-- are filled as a board's.
use mathlib.Core.Path.{◌≡◌}
use Prim.Native.Nat.{◌≤◌}
use native.Mathlib.Omega.{arith}
use lib.ListN.{length}
use Rattle.ledger.specs.Board.{header_length, size_word, count_word, values_word, rows_end}
use Rattle.ledger.proofs.LayoutPlaces.{row_behind}
use Rattle.algebra.proofs.Answers.{tells_no, tells_same, guard_left, guard_taken}
use Rattle.board_words.proofs.TestSizes.{rows_inside}
use Rattle.board_words.proofs.TestFilled.{filled_below, filled_zero, parts_filled}
use Rattle.board_words.proofs.test.is_filled.Goals as goal
use Rattle.board_words.proofs.test.is_filled.Goals.{After-row_start-end}

-- the rows end where the words say
ends : (c : After-row_start-end) → c.row_start-end.result ≡ rows_end c.args.board.now
ends c = let e = c.of-header.ensures in rw (c.row_start-end.ensures, e.records, e.words, e.rows)

-- the end of the rows is behind the header, and lies in the words
end : (c : After-row_start-end) → let ws = c.args.board.now in
    (header_length ≤ c.row_start-end.result) × (c.row_start-end.result ≤ length ws)
end c =
    let ws = c.args.board.now in
    (omega (arith, ends c, row_behind (size_word ws) (values_word ws) (count_word ws)), omega (arith, ends c, rows_inside ws c.requires))

pub slice_bounds-all_below-count : goal.slice_bounds-all_below-count
slice_bounds-all_below-count c = (end (goal.at.slice_bounds-all_below-count c).After-row_start-end).0

pub slice_bounds-all_below-start : goal.slice_bounds-all_below-start
slice_bounds-all_below-start c = (end (goal.at.slice_bounds-all_below-start c).After-row_start-end).0

pub slice_bounds-all_below-end : goal.slice_bounds-all_below-end
slice_bounds-all_below-end c = (end (goal.at.slice_bounds-all_below-end c).After-row_start-end).1

pub returns-then-not-all_below : goal.returns-then-not-all_below
returns-then-not-all_below c =
    let below = rw (ends (goal.at.returns-then-not-all_below c).After-row_start-end, c.of-header.ensures.modulus) at c.all_below.ensures in
    tells_no (λ f. guard_taken below c.if-not-all_below.true-raw (filled_below _ c.requires f))

pub slice_bounds-all_zero-count : goal.slice_bounds-all_zero-count
slice_bounds-all_zero-count c = (end (goal.at.slice_bounds-all_zero-count c).After-row_start-end).1

pub returns : goal.returns
returns c =
    let same = ends (goal.at.returns c).After-row_start-end in
    let below = rw (same, c.of-header.ensures.modulus) at c.all_below.ensures in
    tells_same (parts_filled _ c.requires (guard_left below c.if-not-all_below.false-raw)) (filled_zero _ c.requires)
    (rw same at c.all_zero.ensures)
