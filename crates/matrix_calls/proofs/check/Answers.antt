-- `matrix_calls::check` meets its contract: the refusal by the first check that fails, or the rank where both products are right. That
-- the tables can be multiplied is found either way round, so that a pair of factors in the wrong order fails at what is told of it.
use Rattle.checks.proofs.PassedOn.{refused_on}
use mathlib.Core.List.{List}
use Prim.Native.Nat.{ℕ}
use native.Mathlib.Omega.{arith}
use Rattle.algebra.proofs.Answers.{guard_left, guard_taken}
use Rattle.checks.specs.InOrder.{AllHold}
use Rattle.checks.proofs.InOrder.{given}
use Rattle.matrix.specs.Calls.{pair_checks}
use Rattle.matrix.specs.Parts.{Checked}
use Rattle.matrix.proofs.Answers.{pair_given, check_refused, check_not_inner, check_not_outer, check_done}
use Rattle.matrix_check.specs.Rows.{Pair}
use Rattle.matrix_calls.proofs.check.Goals as goal
use Rattle.matrix_calls.proofs.check.Goals.{In_ok-pair_checks, Start}

-- two tables that have passed the checks can be multiplied, either way round
pair_of : {p m n : ℕ} {a d : List ℕ} → Checked p m n a → Checked p n m d → Pair p m n a d
pair_of k l =
    record {
      positive = omega (arith, k.is_modulus.prime.two_or_more);
      in_range = k.is_modulus.in_range;
      m_most = k.m_most;
      n_most = k.n_most;
      a_long = k.a_long;
      d_long = l.a_long;
      a_below = k.a_below;
      d_below = l.a_below;
    }

-- all of it holds: both are tables
passed : (c : In_ok-pair_checks) → AllHold (let a = c.args in pair_checks a.p a.m a.n a.a.now a.d.now)
passed c = c.in_ok-pair_checks.ensures

tables : (c : In_ok-pair_checks) → let a = c.args in Checked a.p a.m a.n a.a.now × Checked a.p a.n a.m a.d.now
tables c = let a = c.args in pair_given a.p a.m a.n a.a.now a.d.now (given (passed c))

pairs : (c : In_ok-pair_checks) → let a = c.args in Pair a.p a.m a.n a.a.now a.d.now × Pair a.p a.n a.m a.d.now a.a.now
pairs c = let (k, l) = tables c in (pair_of k l, pair_of l k)

pub returns-in_err-pair_checks : goal.returns-in_err-pair_checks
returns-in_err-pair_checks c = rw (refused_on c.from_residual.result c.from_residual.ensures.1) (check_refused _ _ _ _ _ (c.in_err-pair_checks.ensures))

pub invariant_of-inner : goal.invariant_of-inner
invariant_of-inner c =
    let (inner, outer) = pairs (goal.at.invariant_of-inner c).In_ok-pair_checks in record { pair = search (inner, outer) }

pub returns-then-not-absorbs : goal.returns-then-not-absorbs
returns-then-not-absorbs c = check_not_inner _ _ _ _ _ (passed (goal.at.returns-then-not-absorbs c).In_ok-pair_checks) (guard_taken c.absorbs.ensures c.if-not-absorbs.true-raw)

pub invariant_of-outer : goal.invariant_of-outer
invariant_of-outer c =
    let (inner, outer) = pairs (goal.at.invariant_of-outer c).In_ok-pair_checks in record { pair = search (inner, outer) }

pub returns-then-not-absorbs-2 : goal.returns-then-not-absorbs-2
returns-then-not-absorbs-2 c =
    check_not_outer _ _ _ _ _ (passed (goal.at.returns-then-not-absorbs-2 c).In_ok-pair_checks) (guard_left c.absorbs.ensures c.if-not-absorbs.false-raw)
    (guard_taken c.absorbs-2.ensures c.if-not-absorbs-2.true-raw)

pub invariant_of-table : goal.invariant_of-table
invariant_of-table c = record { checked = (tables (goal.at.invariant_of-table c).In_ok-pair_checks).0 }

pub returns : goal.returns
returns c =
    check_done _ _ _ _ _ (passed (goal.at.returns c).In_ok-pair_checks) (guard_left c.absorbs.ensures c.if-not-absorbs.false-raw)
    (guard_left c.absorbs-2.ensures c.if-not-absorbs-2.false-raw) _ c.rank_of.ensures
