-- `clash::mark_nonzero` meets its contract. The loop's invariant: the numbers passed have become marks, as many as are counted.
use Rattle.clash.proofs.Rows.{Marking}
use Rattle.clash.proofs.mark_nonzero.Given as goal

abbrev pub invariant-loop-x : goal.invariant-loop-x
invariant-loop-x l = Marking l.x-index l.initial.u l.u l.selected
