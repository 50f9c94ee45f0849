-- `matrix_echelon::group::carried_limbs` meets its contract. The loop's invariant: the first u carried numbers, which are limbs, are written
-- behind the row, and the high sums are as they were.
use mathlib.Core.Path.{◌≡◌}
use Prim.Native.Nat.{ℕ, ◌+◌, ◌*◌, ◌<◌}
use lib.ListN.{get_or}
use Rattle.field.specs.Limbs.{limb_base}
use Rattle.matrix_echelon.proofs.WorkedMultiples.{Spanned}
use Rattle.matrix_echelon.proofs.group.carried_limbs.Given as goal

abbrev pub invariant-loop-u : goal.invariant-loop-u
invariant-loop-u l =
    Spanned l.n l.u (λ t. get_or l.w (l.i * l.step + t) 0) l.initial.limbs.lo l.limbs.lo
    × ((t : ℕ) → t < l.u → get_or l.w (l.i * l.step + t) 0 < limb_base)
    × (l.limbs.hi ≡ l.initial.limbs.hi)
