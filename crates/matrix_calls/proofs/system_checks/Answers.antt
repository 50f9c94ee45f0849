-- `matrix_calls::system_checks` meets its contract: each return is the first check that fails, or that all hold.
use Rattle.checks.proofs.PassedOn.{refused_on}
use Rattle.algebra.proofs.Answers.{guard_left, guard_taken}
use Rattle.checks.specs.InOrder.{Given}
use Rattle.checks.specs.Sizes.{table_sizes}
use Rattle.checks.proofs.InOrder.{given, fails_here, ◌then◌}
use Rattle.matrix.specs.Parts.{Checked, System}
use Rattle.checks.proofs.TableSizes.{past_sizes, sizes_first}
use Rattle.matrix.proofs.Answers.{passes_all, system_hold}
use Rattle.matrix_calls.proofs.system_checks.Goals as goal
use Rattle.matrix_calls.proofs.system_checks.Goals.{Else-not-all_below, Else-not-all_below-2, In_ok-table_sizes}

sized : (c : In_ok-table_sizes) → Given (table_sizes c.args.p c.args.m c.args.n)
sized c = given c.in_ok-table_sizes.ensures

pub returns-in_err-table_sizes : goal.returns-in_err-table_sizes
returns-in_err-table_sizes c = rw (refused_on c.from_residual.result c.from_residual.ensures.1) (sizes_first c.in_err-table_sizes.ensures)

pub returns-then-a-height : goal.returns-then-a-height
returns-then-a-height c = past_sizes (sized (goal.at.returns-then-a-height c).In_ok-table_sizes) (fails_here c.if-a-height.true)

pub returns-then-w-height : goal.returns-then-w-height
returns-then-w-height c = past_sizes (sized (goal.at.returns-then-w-height c).In_ok-table_sizes) (c.if-a-height.false then fails_here c.if-w-height.true)

pub returns-then-z-width : goal.returns-then-z-width
returns-then-z-width c = past_sizes (sized (goal.at.returns-then-z-width c).In_ok-table_sizes) (c.if-a-height.false then c.if-w-height.false then fails_here c.if-z-width.true)

pub returns-then-u-height : goal.returns-then-u-height
returns-then-u-height c =
    past_sizes (sized (goal.at.returns-then-u-height c).In_ok-table_sizes)
    (c.if-a-height.false then c.if-w-height.false then c.if-z-width.false then fails_here c.if-u-height.true)

pub returns-then-not-all_below : goal.returns-then-not-all_below
returns-then-not-all_below c =
    past_sizes (sized (goal.at.returns-then-not-all_below c).In_ok-table_sizes)
    (c.if-a-height.false
    then c.if-w-height.false
    then c.if-z-width.false
    then c.if-u-height.false
    then fails_here (guard_taken c.all_below.ensures c.if-not-all_below.true-raw))

checked : (c : Else-not-all_below) → (sized : Given (table_sizes c.args.p c.args.m c.args.n)) → Checked c.args.p c.args.m c.args.n c.args.a.now
checked c sized =
    passes_all (sized) c.if-a-height.false
    (guard_left c.all_below.ensures c.if-not-all_below.false-raw)

pub returns-then-not-all_below-2 : goal.returns-then-not-all_below-2
returns-then-not-all_below-2 c =
    let k = checked (goal.at.returns-then-not-all_below-2 c).Else-not-all_below (sized (goal.at.returns-then-not-all_below-2 c).In_ok-table_sizes) in
    past_sizes (sized (goal.at.returns-then-not-all_below-2 c).In_ok-table_sizes)
    (k.a_long
    then c.if-w-height.false
    then c.if-z-width.false
    then c.if-u-height.false
    then k.a_below
    then fails_here (guard_taken c.all_below-2.ensures c.if-not-all_below-2.true-raw))

-- and for w
system : (c : Else-not-all_below-2) → let a = c.args in System a.p a.m a.n a.w.now a.z.now a.u.now
system c =
    record {
      w_long = c.if-w-height.false;
      w_below = guard_left c.all_below-2.ensures c.if-not-all_below-2.false-raw;
      z_long = c.if-z-width.false;
      u_long = c.if-u-height.false;
    }

pub returns : goal.returns
returns c =
    let k = checked (goal.at.returns c).Else-not-all_below (sized (goal.at.returns c).In_ok-table_sizes) in
    system_hold _ _ _ _ _ _ _ k (system (goal.at.returns c).Else-not-all_below-2)
