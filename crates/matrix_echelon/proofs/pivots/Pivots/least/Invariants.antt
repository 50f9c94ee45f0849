-- `matrix_echelon::pivots::Pivots::least` meets its contract. The loop's invariant: `least` is no more than the pivots before t.
use Prim.Native.Nat.{ℕ, ◌≤◌, ◌<◌}
use lib.ListN.{get_or}
use Rattle.matrix_echelon.proofs.pivots.Pivots.least.Given as goal

abbrev pub invariant-loop-t : goal.invariant-loop-t
invariant-loop-t l = (l.least ≤ l.self.width) × ((s : ℕ) → s < l.t → l.g ≤ s → l.least ≤ get_or l.self.places.now s 0)
