-- `field::sums::dot_by_parts` meets its contract. The loop's invariant: the sum is the residue of the products in front of the part that comes
-- next, and what the parts have left of the row begins there.
use mathlib.Core.Path.{◌≡◌}
use Prim.Native.Nat.{◌≤◌, ◌<◌}
use lib.ListN.{length, drop}
use Rattle.std.specs.Slice.Iter.{chunks_rest, chunks_size}
use Rattle.field.specs.Residue.{reduce}
use Rattle.field.specs.Limbs.{limb_base}
use Rattle.field.proofs.Totals.{total, products}
use Rattle.field.proofs.sums.dot_by_parts.Given as goal

abbrev pub invariant-loop-part : goal.invariant-loop-part
invariant-loop-part l = record {
  can : goal.iterator-loop-part.can_next l.part-iterator;
  finite : goal.iterator-loop-part.is_finite l.part-iterator;
  small : chunks_size l.part-iterator < limb_base;
  within : l.from ≤ length l.row;
  rest : chunks_rest l.part-iterator ≡ drop l.from l.row;
  sum : l.sum ≡ (reduce l.p (total l.from (products l.row l.table l.start l.step))).value;
}
