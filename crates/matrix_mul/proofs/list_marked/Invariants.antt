-- `matrix_mul::list_marked` meets its contract. The loop's invariant: the list is written from t on (`Listing`); the search finds the rest.
use mathlib.Core.Path.{◌≡◌}
use Prim.Native.Nat.{◌≤◌}
use lib.ListN.{length}
use Rattle.matrix_mul.proofs.PlaceLists.{Listing}
use Rattle.matrix_mul.proofs.list_marked.Given as goal

abbrev pub invariant-loop-t : goal.invariant-loop-t
invariant-loop-t l = (l.t ≤ length l.marks) × (length l.next ≡ length l.initial.next) × Listing l.marks l.next l.t l.later
