-- `field::sums::add_products` meets its contract. The loop's invariant: the two sums hold the limbs of the number to begin with and of
-- the first t products.
use mathlib.Core.Path.{◌≡◌, sym, ap, subst, ◌∙◌}
use Prim.Native.Nat.{◌+◌}
use native.Mathlib.Nat.{add-zero, add_assoc}
use native.Mathlib.Omega.{arith}
use Rattle.field.specs.Limbs.{low, high}
use Rattle.field.proofs.Totals.{total, total_zero, total_more, products}
use Rattle.field.proofs.Limbs.{Sums, sums_one, sums_more, sums_low_fits, sums_high_fits, product_fits, low_fits, high_fits}
use Rattle.field.proofs.sums.add_products.Goals as goal

pub loop-t-init : goal.loop-t-init
loop-t-init c = rw (total_zero, add-zero) (sums_one _ c.ranges.sum)

pub overflow_add-lo : goal.overflow_add-lo
unfolding low
overflow_add-lo c =
    let l = c.loop-t in
    low_fits l.lo _ (sums_low_fits (l.t + 1) l.lo l.hi _ (omega arith) l.invariant)

pub overflow_add-hi : goal.overflow_add-hi
unfolding high
overflow_add-hi c =
    let l = c.loop-t in
    high_fits l.hi _ (sums_high_fits (l.t + 1) l.lo l.hi _ (omega arith) l.invariant) (product_fits _ _ (c.type_inv.row _) (c.type_inv.table _))

pub loop-t-preserved : goal.loop-t-preserved
unfolding low high products
loop-t-preserved c =
    let a = c.args in
    let l = c.loop-t in
    let f = products a.row.now a.table.now a.start a.step in
    let more : a.sum + total l.t f + f l.t ≡ a.sum + total (l.t + 1) f =
    add_assoc a.sum (total l.t f) (f l.t) ∙ ap (λ n. a.sum + n) (sym (total_more l.t f)) in
    subst (Sums _ _ _) more (sums_more (l.t + 1) l.lo l.hi _ _ l.invariant (product_fits _ _ (c.type_inv.row _) (c.type_inv.table _)))

pub reduced-requires : goal.reduced-requires
reduced-requires c =
    let l = c.loop-t in
    (c.requires.0, sums_high_fits (l.t + 1) l.lo l.hi _ (omega arith) l.invariant)
