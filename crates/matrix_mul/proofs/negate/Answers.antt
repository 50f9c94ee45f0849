-- `matrix_mul::negate` meets its contract. The loop's invariant: the numbers up to the index are negated, the others as
-- they were.
use mathlib.Core.Path.{◌≡◌, ap, ◌∙◌}
use Prim.Native.Nat.{ℕ, ◌<◌}
use native.Mathlib.Omega.{arith}
use lib.ListN.{get_or}
use Rattle.algebra.proofs.Rings.{zero_plus}
use Rattle.field.specs.Residue.{reduce, residues, ◌⊕◌, negated}
use Rattle.field.proofs.Residues.{below_of_value, reduce_of_value}
use Rattle.field.proofs.Field.{residues_ring}
use Rattle.words.proofs.Walk.{walked_more}
use Rattle.matrix_mul.proofs.negate.Invariants.{opposite}
use Rattle.matrix_mul.proofs.negate.Goals as goal

-- the difference from 0 is the negative
opposite-of : (p a b : ℕ) → 0 < p → a ≡ b → (reduce p 0 ⊕ negated (reduce p a)).value ≡ (negated (reduce p b)).value
opposite-of p a b h e =
    ap (λ x. x.value)
    (zero_plus (residues p) (residues_ring p h) (negated (reduce p a)) ∙ ap (λ n. negated (reduce p n)) e)

pub loop-x-preserved : goal.loop-x-preserved
unfolding opposite
loop-x-preserved c =
    let l = c.loop-x in
    walked_more l.x-index _ _ _ _ l.invariant (omega arith)
    (c.minus.ensures ∙ opposite-of c.args.p _ _ c.requires.0 (l.invariant.left l.x-index (omega arith)))

pub returns : goal.returns
unfolding opposite
returns c =
    let l = c.loop-x in
    record {
      same_length = l.invariant.long;
      below = λ i h. below_of_value c.requires.0 (negated (reduce c.args.p (get_or c.args.xs.now i 0))) (l.invariant.passed i (omega arith));
      each = λ j h. reduce_of_value _ (l.invariant.passed j (omega arith));
    }
