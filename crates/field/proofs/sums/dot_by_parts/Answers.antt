-- `field::sums::dot_by_parts` meets its contract. The loop's invariant: the sum is the residue of the products in front of the part that comes
-- next, and what the parts have left of the row begins there. What is left at the end is that the residue of the total is the ring's sum
-- of products.
use mathlib.Core.Path.{◌≡◌, ap, sym, ◌∙◌}
use mathlib.Core.List.{◌++◌}
use native.Mathlib.Nat.{zero-mod}
use native.Mathlib.Omega.{arith}
use borrow.Author.Rules.{rules}
use lib.ListN.{length, drop, length-drop}
use Rattle.std.specs.Slice.Iter.{chunks_rest}
use Rattle.field.specs.Residue.{reduce}
use Rattle.field.proofs.Totals.{total, total_zero, products, reduce_products}
use Rattle.field.proofs.Products.{part_inside, rest_left, reaches_part, reduce_part}
use Rattle.field.proofs.sums.dot_by_parts.Goals as goal
use Rattle.field.proofs.sums.dot_by_parts.Goals.{In-Some}

pub loop-part-init : goal.loop-part-init
unfolding reduce
loop-part-init c =
    record { can = search rules; finite = tt; small = search rules; within = omega arith; rest = search rules; sum = rw (total_zero, zero-mod) }

-- the part of a turn is the front of what is left of the row
cut : (c : In-Some) → drop c.loop-part.from c.args.row.now ≡ c.in-Some.part.now ++ chunks_rest c.next.new.self
cut c = sym c.loop-part.invariant.rest ∙ c.in-Some.ensures.steps.1.0

pub add_products-sum-requires : goal.add_products-sum-requires
add_products-sum-requires c =
    let a = c.args in
    let l = c.loop-part in (
      c.requires.0,
      omega (arith, c.in-Some.ensures.steps.1.1, l.invariant.small),
      reaches_part a.row.now _ _ a.table.now a.start a.step l.from l.invariant.within (cut (goal.at.add_products-sum-requires c).In-Some) c.requires.1,
    )

pub loop-part-preserved : goal.loop-part-preserved
loop-part-preserved c =
    let a = c.args in
    let l = c.loop-part in
    let e = cut (goal.at.loop-part-preserved c).In-Some in
    record {
      can = search rules;
      finite = tt;
      small = omega (arith, c.in-Some.ensures.steps.0, l.invariant.small);
      within = part_inside a.row.now _ _ a.table.now a.start a.step l.from l.invariant.within e;
      rest = rest_left a.row.now _ _ a.table.now a.start a.step l.from l.invariant.within e;
      sum = c.add_products-sum.ensures ∙ reduce_part a.row.now _ _ a.table.now a.start a.step l.from l.invariant.within e a.p l.sum l.invariant.sum;
    }

pub returns : goal.returns
returns c =
    let a = c.args in
    let l = c.loop-part in
    let row = a.row.now in
    let none = c.in-None.ensures.steps.1.0 in
    let e : l.from ≡ length row = omega (arith, none, l.invariant.within, ap length l.invariant.rest, length-drop l.from row) in
    l.invariant.sum
    ∙ ap (λ n. (reduce a.p (total n (products row a.table.now a.start a.step))).value) e
    ∙ ap (λ r. r.value) (reduce_products a.p (length row) row a.table.now a.start a.step)
