-- `matrix_mul::add_row_within` meets its contract: where the mark is 0 the row is as it was, and else the copy has the multipliers
-- that stood in z.
use native.Mathlib.Omega.{arith}
use Rattle.matrix_mul.specs.Places.{place}
use Rattle.matrix_mul.proofs.Places.{copied_below}
use Rattle.matrix_mul.proofs.PlaceRows.{row_fits, row_skipped, factors_front, copied_row, multiplied_left}
use Rattle.matrix_mul.proofs.add_row_within.Goals as goal

pub returns-then-mark-eq0 : goal.returns-then-mark-eq0
returns-then-mark-eq0 c = row_skipped c.requires.0 (c.requires.2 c.if-mark-eq0.true)

pub copy-requires : goal.copy-requires
copy-requires c = (row_fits c.requires.0.left, omega (arith, c.filled-by.ensures.0, c.requires.0.inner))

pub add_row-requires : goal.add_row-requires
add_row-requires c =
    let room = c.filled-by.ensures in
    let copied = c.copy.ensures in (
      factors_front (omega (arith, room.0, copied.same_length, c.requires.0.inner))
          (copied_below c.requires.0.positive room.1 (row_fits c.requires.0.left) c.requires.0.left.below copied)
          c.requires.0,
      c.requires.1,
    )

pub returns : goal.returns
returns c =
    multiplied_left c.args.z.now (place c.args.x_at c.args.k)
    (copied_row c.args.p c.args.k c.copy.ensures)
    c.add_row.ensures
