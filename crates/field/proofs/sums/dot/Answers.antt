-- `field::sums::dot` meets its contract: a row of one part is summed at once, a longer one part after part. What is left of the
-- first is that the residue of the total is the ring's sum of products.
use mathlib.Core.Path.{ap}
use native.Mathlib.Nat.{zero-add}
use native.Mathlib.Omega.{arith}
use lib.ListN.{length}
use Rattle.field.proofs.Totals.{total, products, reduce_products}
use Rattle.field.proofs.sums.dot.Goals as goal

pub dot_by_parts-requires : goal.dot_by_parts-requires
dot_by_parts-requires c = c.requires

pub returns-then-row-gt-PART : goal.returns-then-row-gt-PART
returns-then-row-gt-PART c = c.dot_by_parts.ensures

pub add_products-requires : goal.add_products-requires
add_products-requires c = (c.requires.0, omega arith, c.requires.1)

pub returns : goal.returns
returns c =
    let a = c.args in
    let row = a.row.now in
    rw (c.add_products.ensures, zero-add (total (length row) (products row a.table.now a.start a.step)))
    (ap (λ r. r.value) (reduce_products a.p (length row) row a.table.now a.start a.step))
