-- `codec::number_at` meets its contract. The loop's invariant: x is what the bytes passed make.
use lib.ListN.{drop}
use Rattle.codec.proofs.BigEndian.{NumberRead}
use Rattle.codec.proofs.number_at.Given as goal

abbrev pub invariant-loop-b : goal.invariant-loop-b
invariant-loop-b l = NumberRead (drop l.at l.bytes) l.b-index l.x
