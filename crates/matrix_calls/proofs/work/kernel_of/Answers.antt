-- `matrix_calls::work::kernel_of` meets its contract: the vectors that the reduced form gives are the basis.
use Rattle.matrix_echelon.specs.Reduced.{ReducedForm}
use Rattle.matrix.specs.Parts.{plain}
use Rattle.matrix_echelon.proofs.ReducedRows.{reduced_pivoting}
use Rattle.matrix.proofs.Grids.{reduced_rows, basis_reduced}
use Rattle.matrix_calls.proofs.work.kernel_of.Goals as goal
use Rattle.matrix_calls.proofs.work.kernel_of.Goals.{After-reduced-rank}

-- the reduced form of the table as it stands
found : (c : After-reduced-rank) → let t = c.args.table in
    ReducedForm t.p (plain t.height t.width) t.numbers.now t.numbers.now 0 0 c.reduced-rank.result c.reduced-rank.new.e c.reduced-rank.new.pivots
found c = rw c.plain.ensures at c.reduced-rank.ensures

pub rows_by_pivot-at-requires : goal.rows_by_pivot-at-requires
rows_by_pivot-at-requires c = reduced_pivoting (found (goal.at.rows_by_pivot-at-requires c).After-reduced-rank) c.args.table.checked.n_most

pub kernel_vectors-requires : goal.kernel_vectors-requires
kernel_vectors-requires c =
    let k = c.args.table.checked in
    (reduced_rows _ _ _ _ (found (goal.at.kernel_vectors-requires c).After-reduced-rank) c.rows_by_pivot-at.ensures k.is_modulus k.n_most, c.requires)

pub returns : goal.returns
returns c ok =
    basis_reduced _ _ _ _ (found (goal.at.returns c).After-reduced-rank) c.rows_by_pivot-at.ensures ok c.args.table.checked.n_most
    c.kernel_vectors.ensures
