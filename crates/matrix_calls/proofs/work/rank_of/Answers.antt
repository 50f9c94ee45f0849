-- `matrix_calls::work::rank_of` meets its contract: the rank of the table that is read in place is the table's.
use native.Mathlib.Omega.{arith}
use Rattle.matrix.proofs.Grids.{plain_rank, rank_within}
use Rattle.matrix_calls.proofs.work.rank_of.Goals as goal

pub overflow_cast-result : goal.overflow_cast-result
overflow_cast-result c = omega (arith, rank_within _ _ _ _ (rw c.plain.ensures at c.rank.ensures), c.args.table.checked.n_most)

pub returns : goal.returns
returns c = plain_rank _ _ _ _ (rw c.plain.ensures at c.rank.ensures)
