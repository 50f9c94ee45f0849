-- `checks::is_modulus` meets its contract, by trial division by the numbers below 33, and then by the table. The loop's
-- invariant: q is odd, and no number strictly between 1 and q divides p.
use native.Mathlib.Nat.{mod-eq-zero_of_dvd}
use native.Mathlib.Omega.{arith}
use Rattle.algebra.proofs.Answers.{tells_yes, tells_no}
use Rattle.checks.proofs.Trial.{divided, undivided, under, one_more, two_more}
use Rattle.checks.proofs.is_modulus.Goals as goal

pub returns-then-p-eq0 : goal.returns-then-p-eq0
returns-then-p-eq0 c = tells_no (divided 2 _ (omega arith) (omega arith) c.if-p-eq0.true)

pub loop-q-init : goal.loop-q-init
loop-q-init c = (omega arith, omega arith, one_more 2 _ (λ e h l v. omega arith) (λ d. c.if-p-eq0.false (mod-eq-zero_of_dvd 2 d)))

pub returns-then-p-q : goal.returns-then-p-q
returns-then-p-q c = tells_yes (undivided c.loop-q.q _ (omega arith) (omega arith) (omega arith) (omega arith) c.loop-q.invariant.2)

pub returns-then-p-q-eq0 : goal.returns-then-p-q-eq0
returns-then-p-q-eq0 c = tells_no (divided c.loop-q.q _ (omega arith) (under c.loop-q.q _ (omega arith) c.if-p-q.false) c.if-p-q-eq0.true)

pub loop-q-preserved : goal.loop-q-preserved
loop-q-preserved c = (omega arith, omega arith, two_more c.loop-q.q _ c.loop-q.invariant.1 c.if-p-eq0.false c.loop-q.invariant.2 c.if-p-q-eq0.false)
