-- `checks::is_modulus` meets its contract, by trial division by the numbers below 33, and then by the table. The loop's
-- invariant: q is odd, and no number strictly between 1 and q divides p. The measure, what is left up to 33, is for the edit in which q
-- stands still: a range needs none.
use mathlib.Core.Path.{◌≡◌}
use Prim.Native.Nat.{◌-◌, ◌%◌, ◌≤◌}
use Rattle.checks.specs.Prime.{NoneBelow}
use Rattle.checks.proofs.is_modulus.Given as goal

abbrev pub invariant-loop-q : goal.invariant-loop-q
invariant-loop-q l = (3 ≤ l.q) × (l.q % 2 ≡ 1) × NoneBelow l.q l.p

abbrev pub decreases-loop-q : goal.decreases-loop-q
decreases-loop-q l = 33 - l.q
