-- `matrix_calls::pair_checks` meets its contract: each return is the first check that fails, or that all hold.
use Rattle.checks.proofs.PassedOn.{refused_on}
use Rattle.algebra.proofs.Answers.{guard_left, guard_taken}
use Rattle.checks.specs.InOrder.{Given}
use Rattle.checks.specs.Sizes.{table_sizes}
use Rattle.checks.proofs.InOrder.{given, fails_here, ◌then◌, none_left, ◌and_then◌}
use Rattle.checks.proofs.TableSizes.{past_sizes, sizes_first}
use Rattle.matrix_calls.proofs.pair_checks.Goals as goal
use Rattle.matrix_calls.proofs.pair_checks.Goals.{In_ok-table_sizes}

sized : (c : In_ok-table_sizes) → Given (table_sizes c.args.p c.args.m c.args.n)
sized c = given c.in_ok-table_sizes.ensures

pub returns-in_err-table_sizes : goal.returns-in_err-table_sizes
returns-in_err-table_sizes c = rw (refused_on c.from_residual.result c.from_residual.ensures.1) (sizes_first c.in_err-table_sizes.ensures)

pub returns-then-a-height : goal.returns-then-a-height
returns-then-a-height c = past_sizes (sized (goal.at.returns-then-a-height c).In_ok-table_sizes) (fails_here c.if-a-height.true)

pub returns-then-d-width : goal.returns-then-d-width
returns-then-d-width c = past_sizes (sized (goal.at.returns-then-d-width c).In_ok-table_sizes) (c.if-a-height.false then fails_here c.if-d-width.true)

pub returns-then-not-all_below : goal.returns-then-not-all_below
returns-then-not-all_below c =
    past_sizes (sized (goal.at.returns-then-not-all_below c).In_ok-table_sizes)
    (c.if-a-height.false then c.if-d-width.false then fails_here (guard_taken c.all_below.ensures c.if-not-all_below.true-raw))

pub returns-then-not-all_below-2 : goal.returns-then-not-all_below-2
returns-then-not-all_below-2 c =
    past_sizes (sized (goal.at.returns-then-not-all_below-2 c).In_ok-table_sizes)
    (c.if-a-height.false
    then c.if-d-width.false
    then guard_left c.all_below.ensures c.if-not-all_below.false-raw
    then fails_here (guard_taken c.all_below-2.ensures c.if-not-all_below-2.true-raw))

pub returns : goal.returns
returns c =
    let s = sized (goal.at.returns c).In_ok-table_sizes in
    s.0
    and_then s.1.0
    and_then c.if-a-height.false
    and_then c.if-d-width.false
    and_then guard_left c.all_below.ensures c.if-not-all_below.false-raw
    and_then guard_left c.all_below-2.ensures c.if-not-all_below-2.false-raw
    and_then none_left
