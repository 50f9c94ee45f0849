-- `frame_bytes::reading::judged` meets its contract. The loop's invariant: the multipliers passed are good, so that those
-- left and the values decide.
use mathlib.Core.Path.{◌≡◌}
use Prim.Native.Nat.{◌+◌, ◌*◌, ◌-◌}
use native.Mathlib.Nat.{mul-suc}
use native.Mathlib.Numerals.{add-one}
use native.Mathlib.Omega.{arith}
use Rattle.algebra.proofs.Answers.{guard_left, guard_taken}
use Rattle.frame_bytes.proofs.ReadJudging.{judging_zero, judging_large, judging_more, judging_values_large, judging_values}
use Rattle.frame_bytes.proofs.reading.judged.Goals as goal

pub returns-then-x-eq0 : goal.returns-then-x-eq0
returns-then-x-eq0 c = judging_zero _ _ _ _ _ _ _ _ c.loop-i.invariant _ c.number_at-x.ensures.1 (omega arith) (omega arith)

pub returns-then-p-x : goal.returns-then-p-x
returns-then-p-x c = judging_large _ _ _ _ _ _ _ _ c.loop-i.invariant _ c.number_at-x.ensures.1 (omega arith) (omega arith) (omega arith)

pub loop-i-preserved : goal.loop-i-preserved
loop-i-preserved c =
    let l = c.loop-i in
    let a = c.args in
    let place : a.start + a.w * (l.i + 1) ≡ a.start + a.w * l.i + a.w = rw add-one (omega (arith, mul-suc a.w l.i)) in
    let left : a.count - (l.i + 1) ≡ a.count - l.i - 1 = omega arith in
    rw (place, left) (judging_more _ _ _ _ _ _ _ _ l.invariant _ c.number_at-x.ensures.1 (omega arith) (omega arith) (omega arith))

pub returns-then-not-values_below : goal.returns-then-not-values_below
returns-then-not-values_below c =
    let l = c.loop-i in
    let end : l.i ≡ c.args.count = omega arith in
    judging_values_large _ _ _ _ _ _ _ _ (rw end at l.invariant) (omega arith) (guard_taken c.values_below.ensures c.if-not-values_below.true-raw)

pub returns : goal.returns
returns c =
    let l = c.loop-i in
    let end : l.i ≡ c.args.count = omega arith in
    judging_values _ _ _ _ _ _ _ _ (rw end at l.invariant) (omega arith) (guard_left c.values_below.ensures c.if-not-values_below.false-raw)
