-- `signed::residue` meets its contract: each return is by the first check that fails, or done.
use mir.Syntax.{w32}
use mir.ValLaws.{to_z-of_z}
use Rattle.algebra.specs.Answers.{Tells}
use Rattle.algebra.proofs.Answers.{guard_left, guard_taken}
use Rattle.checks.specs.InOrder.{AllHold}
use Rattle.checks.proofs.InOrder.{given}
use Rattle.checks.proofs.PassedOn.{refused_on}
use Rattle.signed.specs.Reading.{IsRecord}
use Rattle.signed.specs.Calls.{low_checks}
use Rattle.signed.proofs.Calls.{residue_no_low, residue_refused, residue_done}
use Rattle.signed.proofs.residue.Goals as goal
use Rattle.signed.proofs.residue.Goals.{After-in_range, Else-not-in_range, In_ok-low_checks}

-- past the checks of the low end
lowered : (c : In_ok-low_checks) → let a = c.args in AllHold (low_checks a.p a.low)
lowered c = c.in_ok-low_checks.ensures

-- the next test tells whether the record is one
tested :
    (c : After-in_range) →
    let a = c.args in
    Tells c.in_range.result (IsRecord a.p a.low a.«record»)
tested c =
    rw (to_z-of_z w32 c.args.«record» c.ranges.«record») at c.in_range.ensures

is-record : (c : Else-not-in_range) → let a = c.args in IsRecord a.p a.low a.«record»
is-record c = guard_left (tested c.before) c.if-not-in_range.false-raw

pub returns-in_err-low_checks : goal.returns-in_err-low_checks
returns-in_err-low_checks c = rw (refused_on c.from_residual.result c.from_residual.ensures.1) (residue_no_low _ _ _ c.in_err-low_checks.ensures)

pub in_range-requires : goal.in_range-requires
in_range-requires c = let hs = given (lowered (goal.at.in_range-requires c).In_ok-low_checks) in (hs.1.0, hs.0.in_range)

pub returns-then-not-in_range : goal.returns-then-not-in_range
returns-then-not-in_range c = residue_refused _ _ (lowered (goal.at.returns-then-not-in_range c).In_ok-low_checks) _ (guard_taken (tested (goal.at.returns-then-not-in_range c).After-in_range) c.if-not-in_range.true-raw)

pub residue_from-requires : goal.residue_from-requires
residue_from-requires c =
    let hs = given (lowered (goal.at.residue_from-requires c).In_ok-low_checks) in
    (rw (to_z-of_z w32 c.args.«record» c.ranges.«record») (is-record (goal.at.residue_from-requires c).Else-not-in_range), hs.1.0, hs.0.in_range)

pub returns : goal.returns
returns c =
    let read = rw (to_z-of_z w32 c.args.«record» c.ranges.«record») at c.residue_from.ensures.1 in
    rw read (residue_done _ _ (lowered (goal.at.returns c).In_ok-low_checks) _ (is-record (goal.at.returns c).Else-not-in_range))
