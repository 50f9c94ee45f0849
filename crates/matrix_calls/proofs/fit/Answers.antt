-- `matrix_calls::fit` meets its contract: the refusal by the first check that fails, or the nearest fit and its remainder.
use Rattle.checks.proofs.PassedOn.{refused_on}
use Rattle.checks.specs.InOrder.{AllHold}
use Rattle.checks.proofs.InOrder.{given}
use Rattle.matrix.specs.Calls.{system_checks}
use Rattle.matrix.specs.Parts.{System}
use Rattle.matrix.proofs.Answers.{table_given, system_given, fit_refused, fit_done}
use Rattle.matrix_calls.proofs.fit.Goals as goal
use Rattle.matrix_calls.proofs.fit.Goals.{In_ok-system_checks, Start}

-- all of it holds
passed : (c : In_ok-system_checks) → AllHold (let a = c.args in system_checks a.p a.m a.n a.a.now a.w.now a.z.now a.rest.now)
passed c = c.in_ok-system_checks.ensures

pub returns-in_err-system_checks : goal.returns-in_err-system_checks
returns-in_err-system_checks c = rw (refused_on c.from_residual.result c.from_residual.ensures.1) (fit_refused _ _ _ _ _ _ _ (c.in_err-system_checks.ensures))

-- so a is a table, and w a right side of it
system : (c : In_ok-system_checks) → let a = c.args in System a.p a.m a.n a.w.now a.z.now a.rest.now
system c = let a = c.args in system_given a.p a.m a.n a.a.now a.w.now a.z.now a.rest.now (given (passed c))

pub invariant_of-table : goal.invariant_of-table
invariant_of-table c =
    let a = c.args in
    record { checked = table_given a.p a.m a.n a.a.now a.w.now a.z.now a.rest.now (given (passed (goal.at.invariant_of-table c).In_ok-system_checks)) }

pub invariant_of-system : goal.invariant_of-system
invariant_of-system c =
    let s = system (goal.at.invariant_of-system c).In_ok-system_checks in
    record { right_side = (s.w_long, s.w_below) }

pub fit_of-requires : goal.fit_of-requires
fit_of-requires c =
    let s = system (goal.at.fit_of-requires c).In_ok-system_checks in
    (s.z_long, s.u_long)

pub returns : goal.returns
returns c = fit_done _ _ _ _ _ _ _ _ _ _ (passed (goal.at.returns c).In_ok-system_checks) c.fit_of.ensures
