-- `frame_bytes::bitmap::unpadded` meets its contract. The loop's invariant: no bit stands from n up to j.
use mathlib.Core.Path.{◌≡◌}
use mathlib.Core.Bool.{false}
use Prim.Native.Nat.{ℕ, ◌≤◌, ◌<◌}
use Rattle.frame.specs.Bitmap.{bit_at}
use Rattle.frame_bytes.proofs.bitmap.unpadded.Given as goal

abbrev pub invariant-loop-j : goal.invariant-loop-j
invariant-loop-j l = (i : ℕ) → i < l.j → l.n ≤ i → bit_at l.map i ≡ false
