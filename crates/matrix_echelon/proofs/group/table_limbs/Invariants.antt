-- `matrix_echelon::group::table_limbs` meets its contract. The loop's invariant: the first j numbers of the row are read, and
-- the high sums are as they were.
use mathlib.Core.Path.{◌≡◌}
use lib.ListN.{get_or}
use Rattle.words.proofs.Walk.{Walked}
use Rattle.matrix_echelon.specs.Grid.{grid_place}
use Rattle.matrix_echelon.proofs.group.table_limbs.Given as goal

abbrev pub invariant-loop-j : goal.invariant-loop-j
invariant-loop-j l = Walked l.j (λ t. get_or l.a (grid_place l.grid l.i t) 0) l.initial.limbs.lo l.limbs.lo × (l.limbs.hi ≡ l.initial.limbs.hi)
