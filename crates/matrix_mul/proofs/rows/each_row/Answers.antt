-- `matrix_mul::rows::each_row` meets its contract: the number at place t is what the closure gives at t.
use native.Mathlib.Omega.{arith}
use Rattle.matrix_mul.proofs.rows.each_row.Goals as goal

pub returns : goal.returns
returns c =
    let items = c.from_fn.ensures.items in
    record { long = items.long; one_on = λ t h. let called = (items.at t 0 h).2.met in grind (arith, called) }
