-- `frame_bytes::reading::fill` meets its contract. The loop's invariant: the first j multipliers are written, and those left are to
-- be read from the place on.
use mathlib.Core.Path.{sym, ◌∙◌}
use Prim.Native.Nat.{◌<◌}
use native.Mathlib.Omega.{arith}
use lib.ListN.{length}
use Rattle.frame_bytes.proofs.ReadFilling.{filling_none, filling_room, filling_stands, filling_absent, filling_all}
use Rattle.frame_bytes.proofs.reading.fill.Goals as goal
use Rattle.frame_bytes.proofs.reading.fill.Goals.{else-stands, then-stands}

pub loop-j-init : goal.loop-j-init
loop-j-init c = filling_none _ _ _ _ _ c.requires.map_in_bounds

-- where the bit stands there is a number at the place
pub number_at-requires : goal.number_at-requires
number_at-requires c =
    let l = c.loop-j in
    (omega arith, filling_room _ _ _ _ _ _ _ _ l.invariant (omega (arith, l.invariant.long)) (sym c.stands.ensures ∙ c.if-stands.true))

pub loop-j-preserved : goal.loop-j-preserved
loop-j-preserved c =
    let l = c.loop-j in
    let bit = sym c.stands.ensures in
    let more : l.j < length c.args.multipliers.now = omega (arith, l.invariant.long) in
    elim c.if-stands.branch [
      | then-stands w ↦ rw (w.multipliers-is, w.at-is, w.number_at.ensures.1) (filling_stands _ _ _ _ _ _ _ _ l.invariant more (bit ∙ w.if-stands.true))
      | else-stands w ↦ rw (w.multipliers-is, w.at-is) (filling_absent _ _ _ _ _ _ _ _ l.invariant more (bit ∙ w.if-stands.false))
    ]

pub returns : goal.returns
returns c = filling_all _ _ _ _ _ _ _ _ c.loop-j.invariant (omega (arith, c.loop-j.invariant.long))
