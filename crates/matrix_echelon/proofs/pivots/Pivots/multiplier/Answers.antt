-- `matrix_echelon::pivots::Pivots::multiplier` meets its contract: what `minus` answers is the negative of the number at the pivot.
use mathlib.Core.Path.{◌≡◌, ap, ◌∙◌}
use Prim.Native.Nat.{ℕ, ◌<◌}
use lib.ListN.{get_or}
use Rattle.field.specs.Residue.{reduce, negated, ◌⊕◌}
use Rattle.field.specs.Limbs.{whole}
use Rattle.field.proofs.Residues.{reduce_of_value}
use Rattle.matrix_mul.specs.Rows.{whole_at}
use Rattle.matrix_mul.specs.declared.limbs.Limbs.{Limbs}
use Rattle.matrix_echelon.specs.declared.pivots.Pivots.{Pivots}
use Rattle.matrix_echelon.specs.Group.{IsMultiplier, row_in, pivots_of}
use Rattle.matrix_echelon.proofs.WorkedClear.{negative_residue, negative_below}
use Rattle.matrix_echelon.proofs.pivots.Pivots.multiplier.Goals as goal

-- the negative of the number at the pivot
is-multiplier : (p : ℕ) (v : Pivots) (t : ℕ) (s : Limbs) (x y : ℕ) → 0 < p
    → x ≡ (reduce p (whole (get_or s.lo (get_or v.places.now t 0) 0) (get_or s.hi (get_or v.places.now t 0) 0))).value
    → y ≡ (reduce p 0 ⊕ negated (reduce p x)).value
    → IsMultiplier p v t s y
unfolding whole_at
is-multiplier p v t s x y positive is_x is_y =
    record {
      below = negative_below p x y positive is_y;
      negative =
          negative_residue p x y positive is_y
          ∙ ap negated (reduce_of_value (row_in p s (pivots_of v.places.now t)) is_x);
    }

pub returns : goal.returns
returns c =
    is-multiplier c.args.powers.p c.args.self c.args.t c.args.limbs.now _ _ c.args.powers.positive c.folded-x.ensures c.minus.ensures
