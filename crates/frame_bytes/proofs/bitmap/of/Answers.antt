-- `frame_bytes::bitmap::of` meets its contract. The loop's invariant: the bytes are the map of the first j multipliers.
use mathlib.Core.Path.{◌∙◌}
use native.Mathlib.Omega.{arith}
use Rattle.frame_bytes.proofs.WriteMap.{map_none, map_skips, map_marks, marked_fits}
use Rattle.frame_bytes.proofs.bitmap.of.Goals as goal
use Rattle.frame_bytes.proofs.bitmap.of.Goals.{else-x-ne0, then-x-ne0}

pub loop-j-init : goal.loop-j-init
loop-j-init c = map_none

pub overflow_add-map : goal.overflow_add-map
overflow_add-map c =
    let l = c.loop-j in
    rw l.invariant (marked_fits c.args.multipliers.now l.j (omega arith) (omega arith) c.if-x-ne0.true)

pub loop-j-preserved : goal.loop-j-preserved
loop-j-preserved c =
    let l = c.loop-j in
    let xs = c.args.multipliers.now in
    elim c.if-x-ne0.branch [
      | then-x-ne0 w ↦ w.map-is ∙ rw l.invariant (map_marks xs l.j (omega arith) (omega arith) w.if-x-ne0.true)
      | else-x-ne0 w ↦ w.map-is ∙ l.invariant ∙ map_skips xs l.j (omega arith) w.if-x-ne0.false
    ]
