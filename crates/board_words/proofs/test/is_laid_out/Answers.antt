-- `board_words::test::is_laid_out` meets its contract: the header's clauses, and past them how the words are filled.
use Rattle.board_words.specs.Tested.{HasHeader}
use Rattle.algebra.proofs.Answers.{tells_no, tells_same, guard_left, guard_taken}
use Rattle.board_words.proofs.test.is_laid_out.Goals as goal
use Rattle.board_words.proofs.test.is_laid_out.Goals.{Else-not-has_header}

-- past the first part of the test
header : (c : Else-not-has_header) → HasHeader c.args.board.now
header c = guard_left c.has_header.ensures c.if-not-has_header.false-raw

pub returns-then-not-has_header : goal.returns-then-not-has_header
returns-then-not-has_header c = tells_no (λ laid. guard_taken c.has_header.ensures c.if-not-has_header.true-raw laid.header)

pub is_filled-requires : goal.is_filled-requires
is_filled-requires c = header (goal.at.is_filled-requires c).Else-not-has_header

pub returns : goal.returns
returns c = tells_same (λ f. record { header = header (goal.at.returns c).Else-not-has_header; filled = f }) (λ laid. laid.filled) c.is_filled.ensures
