-- `board_solve::records::put_words` meets its contract. The loop's invariant: the first u words are written; the values lie in the room,
-- and are read with the low end.
use Prim.Native.Nat.{◌+◌}
use lib.ListN.{get_or}
use Rattle.signed.specs.Reading.{reading}
use Rattle.board_solve.specs.Records.{NumbersPut, worked_place}
use Rattle.board_solve.proofs.records.put_words.Given as goal

abbrev pub invariant-loop-u : goal.invariant-loop-u
invariant-loop-u l = NumbersPut l.at l.u (λ w. reading l.header.p l.low (get_or l.e (worked_place l.header.n l.header.s l.row (l.header.n + w)) 0)) l.initial.numbers l.numbers
