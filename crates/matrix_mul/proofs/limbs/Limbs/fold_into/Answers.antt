-- `matrix_mul::limbs::Limbs::fold_into` meets its contract. The loop's invariant: the first j numbers have their sums added, the others as they were.
use mathlib.Core.Path.{ap, ◌∙◌}
use native.Mathlib.Omega.{arith}
use Rattle.std.proofs.Common.{rules}
use Rattle.field.specs.Residue.{reduce}
use Rattle.matrix_mul.specs.Rows.{whole_at, summed_number}
use Rattle.field.proofs.Limbs.{word_fits, whole_low}
use Rattle.words.proofs.Walk.{walked_more}
use Rattle.matrix_mul.proofs.limbs.Limbs.fold_into.Goals as goal

pub overflow_add-self : goal.overflow_add-self
overflow_add-self c =
    let j = c.loop-j.j in
    word_fits _ _ (c.requires.fits_lo j (omega arith)) (search rules)

pub loop-j-preserved : goal.loop-j-preserved
unfolding summed_number whole_at
loop-j-preserved c =
    let l = c.loop-j in
    walked_more l.j _ _ _ _ l.invariant (omega arith)
    (c.folded.ensures ∙ ap (λ n. (reduce c.args.powers.p n).value) (whole_low _ _ _ _ (l.invariant.left l.j (omega arith))))
