-- `forward::forward` meets its contract. The loop's invariant: the first i rows of the table are worked off.
use Rattle.matrix_echelon.specs.Forward.{Held}
use Rattle.matrix_echelon.proofs.forward.forward.Given as goal

abbrev pub invariant-loop-i : goal.invariant-loop-i
invariant-loop-i l = Held l.p l.grid l.i l.a l.w l.step l.carried l.rank l.e l.pivots
