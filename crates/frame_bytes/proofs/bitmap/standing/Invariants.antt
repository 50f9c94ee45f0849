-- `frame_bytes::bitmap::standing` meets its contract. The loop's invariant: the count is the number of standing bits of the bytes passed.
use mathlib.Core.Path.{◌≡◌}
use Prim.Native.Nat.{◌≤◌, ◌*◌}
use Rattle.frame.proofs.Bits.{count}
use Rattle.frame_bytes.proofs.bitmap.standing.Given as goal

abbrev pub invariant-loop-b : goal.invariant-loop-b
invariant-loop-b l = (l.total ≡ count l.fn.map 0 (8 * l.b-index)) × (l.total ≤ 8 * l.b-index)
