-- `checks::table_sizes` meets its contract: each return is the first check that fails, or that all hold.
use native.Mathlib.Omega.{arith}
use Rattle.algebra.proofs.Answers.{guard_left, guard_taken}
use Rattle.checks.proofs.InOrder.{none_left, holds_and, fails_here, fails_later}
use Rattle.checks.proofs.table_sizes.Goals as goal

pub returns-then-not-is_modulus : goal.returns-then-not-is_modulus
returns-then-not-is_modulus c = fails_here (guard_taken c.is_modulus.ensures c.if-not-is_modulus.true-raw)

pub returns-then-m-gt-LARGEST : goal.returns-then-m-gt-LARGEST
returns-then-m-gt-LARGEST c = fails_later (guard_left c.is_modulus.ensures c.if-not-is_modulus.false-raw) (λ _. fails_here (λ s. omega arith))

pub returns-then-n-gt-LARGEST : goal.returns-then-n-gt-LARGEST
returns-then-n-gt-LARGEST c = fails_later (guard_left c.is_modulus.ensures c.if-not-is_modulus.false-raw) (λ _. fails_here (λ s. omega arith))

pub returns : goal.returns
returns c = holds_and (guard_left c.is_modulus.ensures c.if-not-is_modulus.false-raw) (λ _. holds_and (omega arith) (λ _. none_left))
