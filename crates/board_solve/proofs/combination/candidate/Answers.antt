-- `board_solve::combination::candidate` meets its contract: the turned board is read in place, and its rank says whether the words are
-- a board.
use Rattle.board_solve.proofs.Candidates.{turned_system, front_long, candidate_told}
use Rattle.board_solve.proofs.combination.candidate.Goals as goal

pub solution-requires : goal.solution-requires
solution-requires c =
    let e = c.of-header.ensures in
    rw (c.turned-grid.ensures, e.modulus, e.records, e.words, e.rows) (turned_system _ _ _ c.requires, front_long _ _ _ c.requires)

pub returns : goal.returns
returns c =
    let e = c.of-header.ensures in
    let found = rw (c.turned-grid.ensures, e.modulus, e.records, e.words, e.rows) at c.solution.ensures in
    let told = candidate_told _ _ _ c.requires _ _ found in
    rw (← e.rows) at told
