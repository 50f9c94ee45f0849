-- `reduced::multipliers` meets its contract. The loop's invariant: the multipliers of the first s rows are written, the others are 0.
use mathlib.Core.Path.{◌≡◌}
use Prim.Native.Nat.{◌<◌}
use native.Mathlib.Omega.{arith}
use lib.ListN.{length, take}
use lib.Seq.{get_or-take, length-take-le}
use Rattle.words.proofs.Walk.{walked_more}
use Rattle.matrix_echelon.proofs.ReduceMultipliers.{opposite_at, multipliers_found}
use Rattle.matrix_echelon.proofs.reduced.multipliers.Goals as goal
use Rattle.matrix_echelon.proofs.reduced.multipliers.Goals.{Start}

-- the pivots that are gone over are as many as the worked rows
front-long : (c : Start) → length (take c.args.rows.rank c.args.rows.places.now) ≡ c.args.rows.rank
front-long c = length-take-le _ _ (omega (arith, c.args.rows.placed.few, c.args.rows.placed.long))

pub loop-s-preserved : goal.loop-s-preserved
unfolding opposite_at
loop-s-preserved c =
    let l = c.loop-s in
    let inside : l.s < c.args.rows.rank = omega (arith, front-long (goal.at.loop-s-preserved c).Start) in
    walked_more l.s _ _ _ _ l.invariant (omega (arith, inside, c.args.rows.placed.few, c.filled-by.ensures.0))
    (rw (get_or-take c.args.rows.rank c.args.rows.places.now l.s 0 inside) at c.minus.ensures)

pub returns : goal.returns
returns c =
    let l = c.loop-s in
    let e : l.s ≡ c.args.rows.rank = omega (arith, front-long (goal.at.returns c).Start) in
    multipliers_found c.requires c.filled-by.ensures (rw e at l.invariant)
