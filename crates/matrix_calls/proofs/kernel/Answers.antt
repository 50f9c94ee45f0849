-- `matrix_calls::kernel` meets its contract: each return is the refusal by the first check that fails, or what is left in memory.
use Rattle.checks.proofs.PassedOn.{refused_on}
use Rattle.algebra.proofs.Answers.{guard_left, guard_taken}
use Rattle.checks.specs.InOrder.{Given}
use Rattle.checks.specs.Sizes.{table_sizes}
use Rattle.checks.proofs.InOrder.{given, fails_here, ◌then◌}
use Rattle.matrix.specs.Parts.{Checked}
use Rattle.checks.proofs.TableSizes.{past_sizes, sizes_first}
use Rattle.matrix.proofs.Answers.{passes_all, kernel_refused, kernel_done}
use Rattle.matrix_calls.proofs.kernel.Goals as goal
use Rattle.matrix_calls.proofs.kernel.Goals.{Else-not-all_below, In_ok-table_sizes}

sized : (c : In_ok-table_sizes) → Given (table_sizes c.args.p c.args.m c.args.n)
sized c = given c.in_ok-table_sizes.ensures

pub returns-in_err-table_sizes : goal.returns-in_err-table_sizes
returns-in_err-table_sizes c = rw (refused_on c.from_residual.result c.from_residual.ensures.1) (kernel_refused _ _ _ _ _ (sizes_first c.in_err-table_sizes.ensures))

pub returns-then-a-height : goal.returns-then-a-height
returns-then-a-height c = kernel_refused _ _ _ _ _ (past_sizes (sized (goal.at.returns-then-a-height c).In_ok-table_sizes) (fails_here c.if-a-height.true))

pub returns-then-basis-width : goal.returns-then-basis-width
returns-then-basis-width c =
    kernel_refused _ _ _ _ _
    (past_sizes (sized (goal.at.returns-then-basis-width c).In_ok-table_sizes) (c.if-a-height.false then fails_here c.if-basis-width.true))

pub returns-then-not-all_below : goal.returns-then-not-all_below
returns-then-not-all_below c =
    kernel_refused _ _ _ _ _
    (past_sizes (sized (goal.at.returns-then-not-all_below c).In_ok-table_sizes)
    (c.if-a-height.false then c.if-basis-width.false then fails_here (guard_taken c.all_below.ensures c.if-not-all_below.true-raw)))

checked : (c : Else-not-all_below) → (sized : Given (table_sizes c.args.p c.args.m c.args.n)) → Checked c.args.p c.args.m c.args.n c.args.a.now
checked c sized =
    passes_all (sized) c.if-a-height.false
    (guard_left c.all_below.ensures c.if-not-all_below.false-raw)

-- so it is a table
pub invariant_of-table : goal.invariant_of-table
invariant_of-table c =
    record { checked = checked (goal.at.invariant_of-table c).Else-not-all_below (sized (goal.at.invariant_of-table c).In_ok-table_sizes) }

pub returns : goal.returns
returns c = kernel_done _ _ _ _ _ _ _ (checked (goal.at.returns c).Else-not-all_below (sized (goal.at.returns c).In_ok-table_sizes)) c.if-basis-width.false c.kernel_of.ensures
