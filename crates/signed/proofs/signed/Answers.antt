-- `signed::signed` meets its contract: each return is by the first check that fails, or done.
use native.Mathlib.Omega.{arith}
use mir.Syntax.{w32}
use mir.Val.{SFits}
use mir.ValLaws.{to_z-of_z}
use Rattle.checks.specs.InOrder.{AllHold}
use Rattle.checks.proofs.InOrder.{given}
use Rattle.checks.proofs.PassedOn.{refused_on}
use Rattle.signed.specs.Calls.{low_checks}
use Rattle.signed.proofs.Calls.{signed_no_low, signed_refused, signed_done}
use Rattle.signed.proofs.signed.Goals as goal
use Rattle.signed.proofs.signed.Goals.{In_ok-low_checks}

-- past the checks of the low end
lowered : (c : In_ok-low_checks) → let a = c.args in AllHold (low_checks a.p a.low)
lowered c = c.in_ok-low_checks.ensures

pub returns-in_err-low_checks : goal.returns-in_err-low_checks
returns-in_err-low_checks c = rw (refused_on c.from_residual.result c.from_residual.ensures.1) (signed_no_low _ _ _ c.in_err-low_checks.ensures)

pub returns-then-p-v : goal.returns-then-p-v
returns-then-p-v c = signed_refused _ _ (lowered (goal.at.returns-then-p-v c).In_ok-low_checks) _ (λ l. omega arith)

pub read_from-requires : goal.read_from-requires
read_from-requires c = let hs = given (lowered (goal.at.read_from-requires c).In_ok-low_checks) in (omega arith, hs.1.0, hs.0.in_range)

pub returns : goal.returns
returns c =
    let fits : SFits w32 c.read_from.result = record { sfits = c.read_from.type_inv } in
    rw (to_z-of_z w32 c.read_from.result fits, c.read_from.ensures) (signed_done _ _ (lowered (goal.at.returns c).In_ok-low_checks) _ (omega arith))
