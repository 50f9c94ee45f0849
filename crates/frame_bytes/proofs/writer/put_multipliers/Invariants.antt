-- `frame_bytes::writer::put_multipliers` meets its contract. The loop's invariant: the first j multipliers are put, and `at` is the
-- place behind them.
use Rattle.frame_bytes.proofs.WriteNumbers.{Packing}
use Rattle.frame_bytes.proofs.writer.put_multipliers.Given as goal

abbrev pub invariant-loop-j : goal.invariant-loop-j
invariant-loop-j l = Packing l.w l.from l.multipliers l.j l.at l.initial.bytes l.bytes
