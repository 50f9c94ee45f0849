-- `signed::low_checks` meets its contract: each return is the first check that fails, or that all hold.
use native.Mathlib.Omega.{arith}
use Rattle.algebra.proofs.Answers.{guard_left, guard_taken}
use Rattle.checks.proofs.InOrder.{none_left, fails_here, ◌then◌, ◌and_then◌}
use Rattle.signed.proofs.low_checks.Goals as goal

pub returns-then-not-is_modulus : goal.returns-then-not-is_modulus
returns-then-not-is_modulus c = fails_here (guard_taken c.is_modulus.ensures c.if-not-is_modulus.true-raw)

pub returns-then-p-low : goal.returns-then-p-low
returns-then-p-low c = guard_left c.is_modulus.ensures c.if-not-is_modulus.false-raw then fails_here (λ l. omega arith)

pub returns : goal.returns
returns c = guard_left c.is_modulus.ensures c.if-not-is_modulus.false-raw and_then omega arith and_then none_left
