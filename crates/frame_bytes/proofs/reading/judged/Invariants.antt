-- `frame_bytes::reading::judged` meets its contract. The loop's invariant: the multipliers passed are good, so that those
-- left and the values decide.
use Prim.Native.Nat.{◌+◌, ◌*◌, ◌-◌}
use Rattle.frame_bytes.proofs.ReadJudging.{Judging}
use Rattle.frame_bytes.proofs.reading.judged.Given as goal

abbrev pub invariant-loop-i : goal.invariant-loop-i
invariant-loop-i l = Judging l.p l.w l.s l.bytes l.start l.count (l.start + l.w * l.i) (l.count - l.i)
