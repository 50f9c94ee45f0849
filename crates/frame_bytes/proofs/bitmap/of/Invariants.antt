-- `frame_bytes::bitmap::of` meets its contract. The loop's invariant: the bytes are the map of the first j multipliers.
use mathlib.Core.Path.{◌≡◌}
use lib.ListN.{take}
use Rattle.frame.specs.Bitmap.{map_of}
use Rattle.frame_bytes.proofs.bitmap.of.Given as goal

abbrev pub invariant-loop-j : goal.invariant-loop-j
invariant-loop-j l = l.map ≡ map_of (take l.j l.multipliers)
