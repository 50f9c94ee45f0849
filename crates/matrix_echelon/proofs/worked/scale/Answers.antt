-- `worked::scale` meets its contract. The loop's invariant: the numbers from `from` up to the index are scaled, the others are as they
-- were; those in front of `from` are 0, so they need no scaling.
use mathlib.Core.Path.{ap, ◌∙◌}
use native.Mathlib.Omega.{arith}
use lib.ListN.{length-drop}
use lib.Seq.{get_or-drop}
use Rattle.field.specs.Residue.{reduce, ◌⊗◌}
use Rattle.words.proofs.Walk.{walked_more}
use Rattle.matrix_echelon.proofs.WorkedMultiples.{scaled_at, scaled_all}
use Rattle.matrix_echelon.proofs.worked.scale.Goals as goal

pub loop-number-preserved : goal.loop-number-preserved
unfolding scaled_at
loop-number-preserved c =
    let a = c.args in
    let l = c.loop-number in
    let i = l.number-index in
    let old = l.invariant.left i (omega arith) ∙ get_or-drop a.from a.x.now i 0 in
    walked_more i _ _ _ _ l.invariant (omega arith) (c.times.ensures ∙ ap (λ n. (reduce a.p a.s ⊗ reduce a.p n).value) old)

pub returns : goal.returns
returns c =
    let l = c.loop-number in
    scaled_all l.number-items c.requires (l.invariant.long ∙ length-drop c.args.from c.args.x.now) (λ j h. l.invariant.passed j (omega arith))
