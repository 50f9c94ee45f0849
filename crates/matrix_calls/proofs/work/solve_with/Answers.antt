-- `matrix_calls::work::solve_with` meets its contract: x is Dw, and the first row where something is left over of w decides the answer.
use mathlib.Core.Path.{◌∙◌}
use Rattle.matrix.proofs.Memory.{copied_whole}
use Rattle.matrix.proofs.Systems.{solved_by_lem, refused_by_lem}
use Rattle.matrix_calls.proofs.work.solve_with.Goals as goal

pub returns-in-Some : goal.returns-in-Some
returns-in-Some c ok = refused_by_lem _ ok _ _ _ _ (c.fit_of-rank.ensures ok) _ c.in-Some.ensures _ _ (c.row_mix.ensures ok)

pub returns : goal.returns
returns c ok =
    let z = c.copy in
    solved_by_lem _ ok _ _ _ _ (c.fit_of-rank.ensures ok) _ _ c.in_default.ensures
    (copied_whole _ (c.fit_of-rank.new.z) z.new.zs (c.fit_of-rank.auto.z ∙ c.requires.0) (z.ensures.same_length ∙ c.requires.1) z.ensures.front)
