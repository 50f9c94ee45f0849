-- `codec::put_number` meets its contract. The loop's invariant: the bytes of x from place i of w on are put, and `rest` are those before.
use Prim.Native.Nat.{◌+◌, ◌-◌}
use Rattle.codec.proofs.BigEndian.{NumberPut}
use Rattle.codec.proofs.put_number.Given as goal

abbrev pub invariant-loop-i : goal.invariant-loop-i
invariant-loop-i l = NumberPut (l.at + l.i) (l.w - l.i) l.x l.rest l.initial.bytes l.bytes
