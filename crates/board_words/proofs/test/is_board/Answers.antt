-- `board_words::test::is_board` meets its contract: past the other clauses the rank of the rows, read by what the header says, decides.
use Rattle.algebra.proofs.Answers.{tells_no, guard_left, guard_taken}
use Rattle.board_words.specs.Tested.{LaidOut}
use Rattle.board_words.proofs.TestRows.{rows_readable, rows_rank_lem}
use Rattle.board_words.proofs.TestBoard.{board_laid, rank_tells}
use Rattle.board_words.proofs.test.is_board.Goals as goal
use Rattle.board_words.proofs.test.is_board.Goals.{Else-not-is_laid_out}

-- past the other clauses
laid : (c : Else-not-is_laid_out) → LaidOut c.args.board.now
laid c = guard_left c.is_laid_out.ensures c.if-not-is_laid_out.false-raw

pub returns-then-not-is_laid_out : goal.returns-then-not-is_laid_out
returns-then-not-is_laid_out c = tells_no (λ b. guard_taken c.is_laid_out.ensures c.if-not-is_laid_out.true-raw (board_laid b))

pub rank-requires : goal.rank-requires
rank-requires c =
    let e = c.of-header.ensures in
    rw (c.rows.ensures, e.modulus, e.records, e.words, e.rows) (rows_readable _ (laid (goal.at.rank-requires c).Else-not-is_laid_out).header)

pub returns : goal.returns
returns c =
    let e = c.of-header.ensures in
    let rank = rw (c.rows.ensures, e.modulus, e.records, e.words, e.rows) at c.rank.ensures in
    let told = rank_tells (laid (goal.at.returns c).Else-not-is_laid_out) (rows_rank_lem _ _ rank) in
    rw (← e.rows) at told
