-- `frame_bytes::reading::values_below` meets its contract. The loop's invariant: the numbers passed are below p.
use Prim.Native.Nat.{ℕ, ◌+◌, ◌*◌, ◌<◌}
use Rattle.codec.specs.BigEndian.{number_at}
use Rattle.frame_bytes.proofs.reading.values_below.Given as goal

abbrev pub invariant-loop-u : goal.invariant-loop-u
invariant-loop-u l = (k : ℕ) → k < l.u → number_at l.w l.bytes (l.start + l.w * k) < l.p
