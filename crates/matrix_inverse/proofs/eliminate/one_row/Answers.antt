-- `matrix_inverse::eliminate::one_row` meets its contract: a row of zeros leaves everything as it is, any other row gives the column
-- of D with the inverse of its least number that is not 0 (`RowOne`).
use native.Mathlib.Omega.{arith}
use Rattle.matrix_inverse.proofs.ElimMarks.{room_fresh}
use Rattle.matrix_inverse.proofs.RowOne.{nothing_chosen, row_zero, one_chosen}
use Rattle.matrix_inverse.proofs.eliminate.one_row.Goals as goal

-- no number is other than 0
pub returns-in_default : goal.returns-in_default
returns-in_default c =
    let room = c.filled-marks in
    let blank = c.in_default.ensures in
    rw (room_fresh room.result room.ensures) (nothing_chosen c.requires (row_zero c.args.n c.args.a.now (λ t h. blank t)))

-- the least number other than 0 stands at v
pub returns : goal.returns
returns c =
    let least = c.in-Some.ensures in
    let room = c.filled-marks in
    rw (room_fresh room.result room.ensures)
    (one_chosen c.requires c.in-Some.v c.inverse.result (omega (arith, least.within, c.requires.a_long)) least.before c.inverse.ensures.0
    c.inverse.ensures.1)
