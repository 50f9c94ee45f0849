-- `field::sums::add_products` meets its contract. The loop's invariant: the two sums hold the limbs of the number to begin with and of
-- the first t products.
use Prim.Native.Nat.{◌+◌}
use Rattle.field.proofs.Totals.{total, products}
use Rattle.field.proofs.Limbs.{Sums}
use Rattle.field.proofs.sums.add_products.Given as goal

abbrev pub invariant-loop-t : goal.invariant-loop-t
invariant-loop-t l = Sums (l.t + 1) l.lo l.hi (l.sum + total l.t (products l.row l.table l.start l.step))
