-- `frame_bytes::reading::fill_values` meets its contract. The loop's invariant: the first u values are written.
use mathlib.Core.Path.{◌≡◌}
use Prim.Native.Nat.{ℕ, ◌+◌, ◌*◌, ◌<◌}
use lib.ListN.{get_or}
use Rattle.codec.specs.BigEndian.{number_at}
use Rattle.frame_bytes.proofs.reading.fill_values.Given as goal

abbrev pub invariant-loop-u : goal.invariant-loop-u
invariant-loop-u l = (k : ℕ) → k < l.u → get_or l.values k 0 ≡ number_at l.w l.bytes (l.start + l.w * k)
