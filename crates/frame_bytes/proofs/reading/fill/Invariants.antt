-- `frame_bytes::reading::fill` meets its contract. The loop's invariant: the first j multipliers are written, and those left are to
-- be read from the place on.
use lib.ListN.{length}
use Rattle.frame_bytes.proofs.ReadFilling.{Filling}
use Rattle.frame_bytes.proofs.reading.fill.Given as goal

abbrev pub invariant-loop-j : goal.invariant-loop-j
invariant-loop-j l = Filling l.w l.map l.bytes l.start (length l.initial.multipliers) l.at l.j l.multipliers
