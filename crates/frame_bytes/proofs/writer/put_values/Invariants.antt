-- `frame_bytes::writer::put_values` meets its contract. The loop's invariant: the first u values are put.
use mathlib.Core.Path.{◌≡◌}
use lib.ListN.{take}
use Rattle.codec.specs.Placed.{placed}
use Rattle.frame.specs.Format.{value_bytes}
use Rattle.frame_bytes.proofs.writer.put_values.Given as goal

abbrev pub invariant-loop-u : goal.invariant-loop-u
invariant-loop-u l = l.bytes ≡ placed l.from (value_bytes l.w (take l.u l.values)) l.initial.bytes
