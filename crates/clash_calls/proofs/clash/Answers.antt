-- `clash_calls::clash` meets its contract: the refusal by the first check that fails, or the marks of the first clash.
use Rattle.checks.proofs.PassedOn.{refused_on}
use Rattle.checks.specs.InOrder.{AllHold}
use Rattle.checks.proofs.InOrder.{given}
use Rattle.clash.specs.Calls.{clash_checks}
use Rattle.clash.proofs.Order.{log_given, clash_refused, clash_done}
use Rattle.clash_calls.proofs.clash.Goals as goal
use Rattle.clash_calls.proofs.clash.Goals.{In_ok-clash_checks, Start}

-- all of it holds
passed : (c : In_ok-clash_checks) → AllHold (let a = c.args in clash_checks a.p a.m a.n a.s a.log.now a.marks.now)
passed c = c.in_ok-clash_checks.ensures

pub returns-in_err-clash_checks : goal.returns-in_err-clash_checks
returns-in_err-clash_checks c = rw (refused_on c.from_residual.result c.from_residual.ensures.1) (clash_refused _ _ _ _ _ _ (c.in_err-clash_checks.ensures))

pub select-requires : goal.select-requires
select-requires c =
    let a = c.args in
    log_given a.p a.m a.n a.s a.log.now a.marks.now (given (passed (goal.at.select-requires c).In_ok-clash_checks))

pub returns : goal.returns
returns c = clash_done _ _ _ _ _ _ _ (passed (goal.at.returns c).In_ok-clash_checks) c.select.ensures
