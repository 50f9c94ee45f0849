-- `matrix_mul::add_product_within` meets its contract. The loop's invariant is the contract for the first i rows; the rows of X lie in
-- other columns than Z's, so they are as they were at entry.
use mathlib.Core.Path.{◌≡◌, sym, ap, ◌∙◌}
use Prim.Native.Nat.{◌+◌, ◌*◌}
use native.Mathlib.Omega.{arith}
use lib.ListN.{get_or}
use Rattle.matrix_mul.proofs.RowsTaken.{each_passes}
use Rattle.matrix_mul.proofs.Places.{kept_at}
use Rattle.matrix_mul.proofs.PlaceRows.{multiplied_none, multiplied_row, multiplied_left, factors_row, row_kept_elsewhere}
use Rattle.matrix_mul.proofs.add_product_within.Goals as goal

pub loop-i-init : goal.loop-i-init
loop-i-init c = multiplied_none c.requires.factors.positive c.requires.factors.target.below

pub add_row_within-requires : goal.add_row_within-requires
add_row_within-requires c =
    let l = c.loop-i in
    let e = c.each_row-next.ensures in
    let kept = l.invariant.kept in
    let turn = c.loop-i-test.true in (
      factors_row kept.same_length kept.below kept.same_length kept.below turn c.requires.factors,
      each_passes c.requires.factors.inner e,
      λ m t h.
          let here : c.args.x_start + l.i * c.args.target.stride + t ≡ c.args.x_start + t + l.i * c.args.target.stride = omega arith in
          ap (λ q. get_or l.z q 0) here
          ∙ kept_at kept c.requires.target_fits l.i (c.args.x_start + t) (omega (arith, c.requires.left_fits)) (λ j g. c.requires.other_columns t j h g)
          ∙ ap (λ q. get_or c.args.z.now q 0) (sym here)
          ∙ c.requires.used.zeros l.i turn m t h,
    )

pub loop-i-preserved : goal.loop-i-preserved
loop-i-preserved c =
    let l = c.loop-i in
    let turn = c.loop-i-test.true in
    let row = row_kept_elsewhere c.args.x_start c.args.size.inner l.i c.requires.target_fits c.requires.left_fits c.requires.other_columns
    l.invariant.kept in
    multiplied_row c.requires.factors.positive c.requires.factors.target.apart l.invariant (multiplied_left _ _ row c.add_row_within.ensures)

pub returns : goal.returns
returns c =
    let e : c.loop-i.i ≡ c.args.size.rows = omega arith in
    rw e at c.loop-i.invariant
