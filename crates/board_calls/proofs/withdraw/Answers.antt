-- `board_calls::withdraw` meets its contract: off a board it is refusal 11, with more to drop than stand it is refusal 10, and else the
-- words that stay are the layout of the entries that stay.
use mathlib.Core.Path.{sym}
use native.Mathlib.Omega.{arith}
use Rattle.algebra.proofs.Answers.{guard_left, guard_taken}
use Rattle.ledger.specs.Board.{IsBoard}
use Rattle.ledger.proofs.WordsCalls.{withdraw_off_board}
use Rattle.board_words.proofs.TestSizes.{rows_inside}
use Rattle.board_words.proofs.TestBoard.{board_header}
use Rattle.board_calls.proofs.CallWithdraw.{withdraw_too_many, withdraw_done}
use Rattle.board_calls.proofs.withdraw.Goals as goal
use Rattle.board_calls.proofs.withdraw.Goals.{Else-not-is_board}

-- past the test the words are a board
board : (c : Else-not-is_board) → IsBoard c.args.board.now
board c = guard_left c.is_board.ensures c.if-not-is_board.false-raw

pub returns-then-not-is_board : goal.returns-then-not-is_board
returns-then-not-is_board c = sym (withdraw_off_board _ (guard_taken c.is_board.ensures c.if-not-is_board.true-raw) _)

pub returns-then-k-t : goal.returns-then-k-t
returns-then-k-t c = withdraw_too_many _ (board (goal.at.returns-then-k-t c).Else-not-is_board) _ c.if-k-t.true

pub drop_rows-requires : goal.drop_rows-requires
drop_rows-requires c =
    let e = c.of-header.ensures in
    let inside = rows_inside _ (board_header (board (goal.at.drop_rows-requires c).Else-not-is_board)) in
    (omega arith, rw (← e.records, ← e.words, ← e.rows) at inside, omega (arith, e.bound, (board (goal.at.drop_rows-requires c).Else-not-is_board).size.1, e.records))

pub returns : goal.returns
returns c =
    let e = c.of-header.ensures in
    withdraw_done _ (board (goal.at.returns c).Else-not-is_board) _ c.if-k-t.false _ (rw (e.records, e.words, e.rows) at c.drop_rows.ensures)
