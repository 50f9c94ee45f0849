-- `worked::clear_group` meets its contract. The loop's invariant: the rows of the group in front of row t are cleared, all others are
-- as they were.
use Prim.Native.Nat.{◌*◌, ◌/◌}
use Rattle.matrix_echelon.proofs.WorkedClear.{RowsCleared}
use Rattle.matrix_echelon.proofs.worked.clear_group.Given as goal

abbrev pub invariant-loop-t : goal.invariant-loop-t
invariant-loop-t l = RowsCleared l.p l.x l.v (l.rank / 4 * 4) l.t l.initial.e l.e
