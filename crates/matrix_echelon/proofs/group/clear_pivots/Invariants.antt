-- `matrix_echelon::group::clear_pivots` meets its contract. The loop's invariant: the row has multiples of the first g worked rows
-- added, and is 0 at their pivots; g is a multiple of four.
use mathlib.Core.Path.{◌≡◌}
use Prim.Native.Nat.{◌+◌, ◌*◌, ◌-◌, ◌/◌, ◌≤◌}
use Rattle.algebra.specs.Echelon.{ClearedTo}
use Rattle.field.specs.Residue.{residues}
use Rattle.matrix_echelon.specs.Group.{row_in, worked_rows, pivots_of}
use Rattle.matrix_echelon.proofs.Groups.{LimbsWithin}
use Rattle.matrix_echelon.proofs.group.clear_pivots.Given as goal

abbrev pub invariant-loop-g : goal.invariant-loop-g
invariant-loop-g l =
    (l.g ≡ 4 * (l.g / 4)) × (l.g ≤ l.rank) × LimbsWithin (l.g / 4 + 1) l.width l.limbs
    × ClearedTo (residues l.powers.p) (4 * (l.g / 4)) 0 l.width (λ i. row_in l.powers.p l.initial.limbs) l.rank
    (worked_rows l.powers.p l.e l.width) (pivots_of l.pivots) (row_in l.powers.p l.limbs)

abbrev pub decreases-loop-g : goal.decreases-loop-g
decreases-loop-g l = l.rank - l.g
