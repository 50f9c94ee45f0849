-- `clash::carried_number` meets its contract: the number of the worked row, or 0 where there is none.
use Prim.Native.Nat.{◌+◌, ◌*◌, ◌-◌, ◌<◌}
use native.Mathlib.Omega.{arith}
use Rattle.clash.proofs.Rows.{carried_inside, carried_there}
use Rattle.clash.proofs.carried_number.Goals as goal
use Rattle.clash.proofs.carried_number.Goals.{Else-row-eq0}

-- where there is a row, its number lies in the rows
inside : (c : Else-row-eq0) → let a = c.args in (a.row - 1) * (a.n + a.s) + (a.n + a.w) < 5120
inside c =
    let a = c.args in
    let (small, few, word, most, long) = c.requires in
    carried_inside a.n a.s a.w a.row small few word most c.if-row-eq0.false

pub overflow_mul-result : goal.overflow_mul-result
overflow_mul-result c = omega (arith, inside (goal.at.overflow_mul-result c).Else-row-eq0)

pub overflow_add-result-3 : goal.overflow_add-result-3
overflow_add-result-3 c = omega (arith, inside (goal.at.overflow_add-result-3 c).Else-row-eq0)

pub offset_bounds-e-row : goal.offset_bounds-e-row
offset_bounds-e-row c = omega (arith, inside (goal.at.offset_bounds-e-row c).Else-row-eq0)

pub bounds-e-row : goal.bounds-e-row
bounds-e-row c = omega (arith, inside (goal.at.bounds-e-row c).Else-row-eq0, c.requires)

pub returns : goal.returns
returns c = let a = c.args in carried_there a.n a.s a.w a.row _ c.if-row-eq0.false
