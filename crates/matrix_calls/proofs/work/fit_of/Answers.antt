-- `matrix_calls::work::fit_of` meets its contract: the solution that the elimination gives is Dw, and zeros where the rank is m, or what
-- it leaves over, are the remainder.
use mathlib.Core.Path.{◌∙◌}
use native.Mathlib.Omega.{arith}
use Rattle.matrix_echelon.specs.Reduced.{SolutionFound}
use Rattle.matrix.specs.Parts.{plain}
use Rattle.matrix.proofs.Grids.{rank_within}
use Rattle.matrix.proofs.Systems.{fit_made, fit_full}
use Rattle.matrix_calls.proofs.work.fit_of.Goals as goal
use Rattle.matrix_calls.proofs.work.fit_of.Goals.{After-solution-rank}

-- the solution of the table as it stands
found : (c : After-solution-rank) → let t = c.args.system.table in
    SolutionFound t.p (plain t.height t.width) t.numbers.now c.args.system.w.now 1 c.solution-rank.result c.solution-rank.new.z
found c = rw c.plain.ensures at c.solution-rank.ensures

pub returns-then-rank-full : goal.returns-then-rank-full
returns-then-rank-full c =
    fit_full _ _ _ _ _ _ (found (goal.at.returns-then-rank-full c).After-solution-rank) _ (c.clear.ensures.0 ∙ c.requires.1)
    c.clear.ensures.1 c.if-rank-full.true

pub overflow_cast-result-2 : goal.overflow_cast-result-2
overflow_cast-result-2 c =
    omega (arith, rank_within _ _ _ _ (found (goal.at.overflow_cast-result-2 c).After-solution-rank).rank, c.args.system.table.checked.n_most)

pub returns : goal.returns
returns c = fit_made _ _ _ _ _ _ (found (goal.at.returns c).After-solution-rank) _ c.remainder.ensures
