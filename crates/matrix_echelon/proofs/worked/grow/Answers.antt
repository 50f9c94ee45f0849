-- `worked::grow` meets its contract: the row is not 0 at its pivot, so it has an inverse there; the laws of `WorkedGrow` say what the
-- calls leave.
use native.Mathlib.Nat.{pos_of_ne-zero}
use native.Mathlib.Omega.{arith}
use Rattle.matrix_echelon.proofs.WorkedClear.{row_inside}
use Rattle.matrix_echelon.proofs.WorkedGrow.{scaled_clearable, row_fits, row_grown}
use Rattle.matrix_echelon.proofs.worked.grow.Goals as goal

pub inverse-s-requires : goal.inverse-s-requires
inverse-s-requires c = (
  c.requires.is_modulus,
  pos_of_ne-zero c.requires.not_zero,
  c.requires.clearable.leading.below c.args.v c.requires.clearable.in_row,
)

pub clear_group-requires : goal.clear_group-requires
clear_group-requires c = scaled_clearable c.requires.clearable c.scale.ensures

pub put-requires : goal.put-requires
put-requires c = row_fits (scaled_clearable c.requires.clearable c.scale.ensures) c.clear_group.ensures

pub overflow_mul-rank : goal.overflow_mul-rank
overflow_mul-rank c =
    let can = scaled_clearable c.requires.clearable c.scale.ensures in
    omega (arith, row_inside _ _ can.few can.narrow)

pub returns : goal.returns
returns c =
    let put = c.put in
    let clear = c.clear_group in
    row_grown _ c.requires c.scale.ensures clear.ensures put.ensures c.inverse-s.ensures.1
