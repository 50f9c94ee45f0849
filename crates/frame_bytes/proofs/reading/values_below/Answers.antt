-- `frame_bytes::reading::values_below` meets its contract. The loop's invariant: the numbers passed are below p.
use native.Mathlib.Omega.{arith}
use Rattle.algebra.proofs.Answers.{tells_yes, tells_no}
use Rattle.frame.proofs.Bytes.{numbers_at, numbers_length}
use Rattle.frame_bytes.proofs.reading.values_below.Goals as goal

pub returns-then-p-number_at : goal.returns-then-p-number_at
returns-then-p-number_at c =
    let a = c.args in
    let u = c.loop-u.u in
    tells_no (λ b. omega (arith, b u (rw numbers_length (omega arith)), numbers_at a.w a.bytes.now a.start a.s u (omega arith), c.number_at.ensures.1))

pub returns : goal.returns
returns c =
    let a = c.args in
    tells_yes
    (λ u h. let l = rw numbers_length at h in rw (numbers_at a.w a.bytes.now a.start a.s u (omega arith)) (c.loop-u.invariant u (omega arith)))
