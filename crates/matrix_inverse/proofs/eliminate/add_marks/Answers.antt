-- `matrix_inverse::eliminate::add_marks` meets its contract. The loop's invariant: the first c places have both marks, the others are as
-- they were.
use mathlib.Core.Path.{sym, ◌∙◌}
use Prim.Native.Nat.{◌<◌}
use native.Mathlib.Omega.{arith}
use lib.Seq.{get_or-take, length-take-le}
use Rattle.algebra.proofs.Choice.{pick_yes, pick_no}
use Rattle.words.proofs.Walk.{walked_more, walked_same}
use Rattle.matrix_inverse.proofs.eliminate.add_marks.Goals as goal
use Rattle.matrix_inverse.proofs.eliminate.add_marks.Goals.{else-x-ne0, then-x-ne0}

pub loop-c-preserved : goal.loop-c-preserved
loop-c-preserved c =
    let a = c.args in
    let l = c.loop-c in
    let inside : l.c < a.n = omega (arith, length-take-le a.n a.xs.now c.requires.0) in
    let same = get_or-take a.n a.xs.now l.c 0 inside in
    elim c.if-x-ne0.branch [
      | then-x-ne0 w ↦
          rw w.marks-is
          (walked_more _ _ _ _ 1 l.invariant (omega (arith, inside, c.requires.1)) (sym (pick_no _ _ 1 (λ z. w.if-x-ne0.true (same ∙ z)))))
      | else-x-ne0 w ↦ rw w.marks-is (walked_same _ _ _ _ l.invariant (sym (pick_yes _ _ 1 (sym same ∙ w.if-x-ne0.false))))
    ]
