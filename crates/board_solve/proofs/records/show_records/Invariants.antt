-- `board_solve::records::show_records` meets its contract. The loop's invariant: the records passed are shown as the ledger shows them.
use Rattle.board_solve.proofs.RecordShown.{ShownIn}
use Rattle.board_solve.proofs.records.show_records.Given as goal

abbrev pub invariant-loop-j : goal.invariant-loop-j
invariant-loop-j l = ShownIn l.board l.low l.j l.marks l.numbers
