-- `clash::mark_nonzero` meets its contract. The loop's invariant: the numbers passed have become marks, as many as are counted.
use mathlib.Core.Path.{◌≡◌, ap, ◌∙◌}
use native.Mathlib.Omega.{arith}
use lib.ListN.{length}
use Rattle.std.proofs.lemmas.List.{set-get_or}
use Rattle.algebra.specs.Quasiinverse.{count}
use Rattle.field.specs.Written.{marked}
use Rattle.field.proofs.Written.{is_tabulate}
use Rattle.clash.proofs.Rows.{marking_none, marking_mark, marking_skip, marking_most}
use Rattle.clash.proofs.mark_nonzero.Goals as goal
use Rattle.clash.proofs.mark_nonzero.Goals.{else-x-ne0, then-x-ne0}

pub loop-x-init : goal.loop-x-init
loop-x-init c = marking_none _

pub overflow_add-selected : goal.overflow_add-selected
overflow_add-selected c = omega (arith, marking_most _ _ _ _ c.loop-x.invariant, c.requires)

pub loop-x-preserved : goal.loop-x-preserved
loop-x-preserved c =
    let l = c.loop-x in
    elim c.if-x-ne0.branch [
      | then-x-ne0 w ↦ rw (w.u-is, w.selected-is) (marking_mark l.x-index _ _ _ l.invariant (omega arith) w.if-x-ne0.true)
      | else-x-ne0 w ↦ rw (w.u-is, set-get_or l.u l.x-index 0, w.selected-is) (marking_skip l.x-index _ _ _ l.invariant w.if-x-ne0.false)
    ]

pub returns : goal.returns
returns c =
    let l = c.loop-x in
    let xs = c.args.u.now in
    let end : l.x-index ≡ length xs = omega arith in (
      is_tabulate (length xs) _ l.u l.auto.u (λ i h. l.invariant.walked.passed i (omega arith)),
      l.invariant.counted ∙ ap (λ k. count k (marked xs)) end,
    )
