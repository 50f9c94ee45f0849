-- `codec::put_number` meets its contract. The loop's invariant: the bytes of x from place i of w on are put, and `rest` are those before.
use mathlib.Core.Path.{◌≡◌}
use Prim.Native.Nat.{suc, ◌+◌, ◌-◌}
use native.Mathlib.Omega.{arith}
use Rattle.codec.proofs.BigEndian.{put_none, put_more}
use Rattle.codec.proofs.put_number.Goals as goal

pub loop-i-init : goal.loop-i-init
loop-i-init c = let e : c.args.w - c.args.w ≡ 0 = omega arith in rw e (put_none _ _ _)

pub loop-i-preserved : goal.loop-i-preserved
loop-i-preserved c =
    let l = c.loop-i in
    let a = c.args in
    let place : a.at + (l.i - 1) + 1 ≡ a.at + l.i = omega arith in
    let more : a.w - (l.i - 1) ≡ suc (a.w - l.i) = omega arith in
    rw more (put_more (a.at + (l.i - 1)) (a.w - l.i) a.x l.rest a.bytes.now l.bytes (rw place l.invariant) (omega arith))
