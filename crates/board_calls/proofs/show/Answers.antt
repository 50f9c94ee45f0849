-- `board_calls::show` meets its contract: off a board it is refusal 11, with memory of another length refusal 3, with a low end of p or
-- more refusal 4, and else `show_records` writes what the ledger shows.
use mathlib.Core.Path.{◌≡◌, sym, ap₂, ◌∙◌}
use Prim.Native.Nat.{◌*◌}
use native.Mathlib.Omega.{arith}
use lib.ListN.{length}
use borrow.Author.Tests.{not-false}
use Rattle.algebra.proofs.Answers.{guard_taken}
use Rattle.ledger.specs.Board.{IsBoard, size_word, values_word}
use Rattle.ledger.proofs.WordsCalls.{show_off_board}
use Rattle.board_words.proofs.TestBoard.{board_laid}
use Rattle.board_solve.specs.Records.{BoardReduced}
use Rattle.board_calls.proofs.CallShow.{show_no_marks, show_no_numbers, show_no_low, show_done}
use Rattle.board_calls.proofs.show.Goals as goal
use Rattle.board_calls.proofs.show.Goals.{Else-marks-header, Else-not-reduce_board, Else-numbers-header}

-- past the second test the words are a board, and its rows are reduced
held : (c : Else-not-reduce_board) → BoardReduced c.args.board.now c.reduce_board.new.e c.reduce_board.new.pivots
held c = c.reduce_board.ensures.reduced (not-false _ c.if-not-reduce_board.false-raw)

board : (c : Else-not-reduce_board) → IsBoard c.args.board.now
board c = (held c).inverse.board

-- what the tests of the lengths leave
marks_long : (c : Else-marks-header) → length c.args.marks.now ≡ size_word c.args.board.now
marks_long c = c.if-marks-header.false ∙ c.of-header.ensures.records

numbers_long : (c : Else-numbers-header) → let ws = c.args.board.now in length c.args.numbers.now ≡ size_word ws * values_word ws
numbers_long c = let e = c.of-header.ensures in c.if-numbers-header.false ∙ ap₂ (λ n s. n * s) e.records e.words

pub returns-then-not-is_laid_out : goal.returns-then-not-is_laid_out
returns-then-not-is_laid_out c = sym (show_off_board _ (λ b. guard_taken c.is_laid_out.ensures c.if-not-is_laid_out.true-raw (board_laid b)) _ _ _)

pub returns-then-not-reduce_board : goal.returns-then-not-reduce_board
returns-then-not-reduce_board c = sym (show_off_board _ (guard_taken c.reduce_board.ensures.tells c.if-not-reduce_board.true-raw) _ _ _)

pub returns-then-marks-header : goal.returns-then-marks-header
returns-then-marks-header c =
    show_no_marks _ (board (goal.at.returns-then-marks-header c).Else-not-reduce_board) _ _ _
    (rw c.of-header.ensures.records at c.if-marks-header.true)

pub returns-then-numbers-header : goal.returns-then-numbers-header
returns-then-numbers-header c =
    let e = c.of-header.ensures in
    show_no_numbers _ (board (goal.at.returns-then-numbers-header c).Else-not-reduce_board) _ _ _
    (marks_long (goal.at.returns-then-numbers-header c).Else-marks-header) (rw (e.records, e.words) at c.if-numbers-header.true)

pub returns-then-header-low : goal.returns-then-header-low
returns-then-header-low c =
    show_no_low _ (board (goal.at.returns-then-header-low c).Else-not-reduce_board) _ _ _
    (marks_long (goal.at.returns-then-header-low c).Else-marks-header)
    (numbers_long (goal.at.returns-then-header-low c).Else-numbers-header) (omega arith)

pub show_records-requires : goal.show_records-requires
show_records-requires c =
    let at = goal.at.show_records-requires c in
    record {
      reduced = held at.Else-not-reduce_board;
      low_below = omega arith;
      marks_long = marks_long at.Else-marks-header;
      numbers_long = numbers_long at.Else-numbers-header;
    }

pub returns : goal.returns
returns c =
    let at = goal.at.returns c in
    let e = c.of-header.ensures in
    let b = board at.Else-not-reduce_board in
    let written = c.show_records.ensures b.prime in
    let done = show_done _ b _ _ _ (marks_long at.Else-marks-header) (numbers_long at.Else-numbers-header) (omega arith) _ _ written.0 written.1 in
    rw (← e.records, ← e.rows) at done
