-- `matrix_calls::work::invert_ranked` meets its contract: the marks of the columns are 0 or 1, and their sum is the rank.
use mathlib.Core.Path.{◌∙◌}
use Rattle.matrix.proofs.Basis.{columns_few, columns_sum}
use Rattle.matrix_calls.proofs.work.invert_ranked.Goals as goal

pub count_marks-requires : goal.count_marks-requires
count_marks-requires c =
    let k = c.args.table.checked in
    columns_few (c.invert.ensures k.is_modulus) k.n_most

pub returns : goal.returns
returns c ok =
    let i = c.invert.ensures ok in
    (i, c.count_marks.ensures ∙ columns_sum i)
