-- `clash_calls::clash_checks` meets its contract: each return is the first check that fails, or that all hold.
use Rattle.checks.proofs.PassedOn.{refused_on}
use Prim.Native.Nat.{◌+◌}
use native.Mathlib.Nat.{mul-le-mul}
use native.Mathlib.Omega.{arith}
use mathlib.Core.Path.{◌≡◌}
use lib.ListN.{length}
use Rattle.algebra.proofs.Answers.{guard_left, guard_taken}
use Rattle.checks.specs.InOrder.{Given}
use Rattle.checks.specs.Largest.{FrameSize, WordCount}
use Rattle.checks.specs.Sizes.{table_sizes}
use Rattle.checks.proofs.InOrder.{given, fails_here, ◌then◌, none_left, ◌and_then◌}
use Rattle.checks.proofs.TableSizes.{past_sizes, sizes_first}
use Rattle.clash_calls.proofs.clash_checks.Goals as goal
use Rattle.clash_calls.proofs.clash_checks.Goals.{In_ok-table_sizes}

sized : (c : In_ok-table_sizes) → Given (table_sizes c.args.p c.args.m c.args.n)
sized c = given c.in_ok-table_sizes.ensures

pub returns-in_err-table_sizes : goal.returns-in_err-table_sizes
returns-in_err-table_sizes c = rw (refused_on c.from_residual.result c.from_residual.ensures.1) (sizes_first c.in_err-table_sizes.ensures)

pub returns-then-n-lt1 : goal.returns-then-n-lt1
returns-then-n-lt1 c = past_sizes (sized (goal.at.returns-then-n-lt1 c).In_ok-table_sizes) (fails_here (λ h. omega arith))

pub returns-then-s-lt1 : goal.returns-then-s-lt1
returns-then-s-lt1 c =
    let s = sized (goal.at.returns-then-s-lt1 c).In_ok-table_sizes in
    let size : FrameSize c.args.n = omega (arith, s.1.0.1) in
    past_sizes s (size then fails_here (λ h. omega arith))

pub returns-then-s-gt-MOST_WORDS : goal.returns-then-s-gt-MOST_WORDS
returns-then-s-gt-MOST_WORDS c =
    let s = sized (goal.at.returns-then-s-gt-MOST_WORDS c).In_ok-table_sizes in
    let size : FrameSize c.args.n = omega (arith, s.1.0.1) in
    past_sizes s (size then fails_here (λ h. omega arith))

pub overflow_mul-m : goal.overflow_mul-m
overflow_mul-m c =
    let s = sized (goal.at.overflow_mul-m c).In_ok-table_sizes in
    let words : WordCount c.args.s = omega arith in
    let a = c.args in
    let few = s.1.0 in
    omega (arith, mul-le-mul {n₁ = a.m} {m₁ = a.n + a.s} {n₂ = 64} {m₂ = 80} few.0 (omega (arith, few.1, words.1)))

pub returns-then-log-m : goal.returns-then-log-m
returns-then-log-m c =
    let s = sized (goal.at.returns-then-log-m c).In_ok-table_sizes in
    let size : FrameSize c.args.n = omega (arith, s.1.0.1) in
    let words : WordCount c.args.s = omega arith in
    past_sizes s (size then words then fails_here c.if-log-m.true)

pub returns-then-marks-m : goal.returns-then-marks-m
returns-then-marks-m c =
    let s = sized (goal.at.returns-then-marks-m c).In_ok-table_sizes in
    let size : FrameSize c.args.n = omega (arith, s.1.0.1) in
    let words : WordCount c.args.s = omega arith in
    past_sizes s (size then words then c.if-log-m.false then fails_here c.if-marks-m.true)

pub returns-then-not-all_below : goal.returns-then-not-all_below
returns-then-not-all_below c =
    let s = sized (goal.at.returns-then-not-all_below c).In_ok-table_sizes in
    let size : FrameSize c.args.n = omega (arith, s.1.0.1) in
    let words : WordCount c.args.s = omega arith in
    let marked : length c.args.marks.now ≡ c.args.m = omega arith in
    past_sizes s
    (size
    then words
    then c.if-log-m.false
    then marked
    then fails_here (guard_taken c.all_below.ensures c.if-not-all_below.true-raw))

pub returns : goal.returns
returns c =
    let s = sized (goal.at.returns c).In_ok-table_sizes in
    let size : FrameSize c.args.n = omega (arith, s.1.0.1) in
    let words : WordCount c.args.s = omega arith in
    let marked : length c.args.marks.now ≡ c.args.m = omega arith in
    s.0
    and_then s.1.0
    and_then size
    and_then words
    and_then c.if-log-m.false
    and_then marked
    and_then guard_left c.all_below.ensures c.if-not-all_below.false-raw
    and_then none_left
