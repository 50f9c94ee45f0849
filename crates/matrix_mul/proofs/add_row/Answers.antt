-- `matrix_mul::add_row` meets its contract: where the multipliers are all 0 the row is as it was, and else `combine_listed`
-- does what is asked.
use mathlib.Core.Path.{sym, ◌∙◌}
use native.Mathlib.Nat.{add-sub_cancel_left}
use native.Mathlib.Omega.{arith}
use Rattle.matrix_mul.proofs.PlaceRows.{is_part, row_fits, row_skipped, row_ready, row_combined}
use Rattle.matrix_mul.proofs.add_row.Goals as goal

pub overflow_add-x_end : goal.overflow_add-x_end
overflow_add-x_end c = omega (arith, row_fits c.requires.0.left)

pub offset_bounds-x-x_at : goal.offset_bounds-x-x_at
offset_bounds-x-x_at c = omega (arith, row_fits c.requires.0.left)

pub returns-then-all_zero : goal.returns-then-all_zero
returns-then-all_zero c =
    let part = is_part (row_fits c.requires.0.left) in
    row_skipped c.requires.0 (λ t l. sym (part.same t l) ∙ c.all_zero.ensures.0 c.if-all_zero.true t)

pub overflow_add-z_end : goal.overflow_add-z_end
overflow_add-z_end c = omega (arith, row_fits c.requires.0.target)

pub offset_bounds-z-z_at : goal.offset_bounds-z-z_at
offset_bounds-z-z_at c = omega (arith, row_fits c.requires.0.target)

pub combine_listed-requires : goal.combine_listed-requires
combine_listed-requires c = row_ready c.requires.0 (is_part (row_fits c.requires.0.left)) (is_part (row_fits c.requires.0.target)) c.requires.1

pub returns : goal.returns
returns c =
    row_combined c.requires.0 (is_part (row_fits c.requires.0.left)) (is_part (row_fits c.requires.0.target))
    (add-sub_cancel_left c.args.z_at c.args.n)
    c.combine_listed.new.out
    c.combine_listed.ensures.0
    c.combine_listed.ensures.1
