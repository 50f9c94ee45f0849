-- `field::arith::inverse` meets its contract. The loop's invariant: x is from 1 and below p, y is not 1 or 0, s is not 0, and they
-- are where Euclid's steps from a and p lead (`proofs/Euclid.antt`). The measure is x.
use Prim.Native.Nat.{◌<◌}
use Rattle.field.proofs.Euclid.{Euclid}
use Rattle.field.proofs.arith.inverse.Given as goal

abbrev pub invariant-loop-x : goal.invariant-loop-x
invariant-loop-x l = (0 < l.x) × (l.x < l.p) × (1 < l.y) × (0 < l.s) × Euclid l.p l.a l.x l.y l.s l.t

abbrev pub decreases-loop-x : goal.decreases-loop-x
decreases-loop-x l = l.x
