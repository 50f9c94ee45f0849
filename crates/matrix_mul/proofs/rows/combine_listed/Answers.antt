-- `matrix_mul::rows::combine_listed` meets its contract: where four rows are all, they are added in one pass, and else `add_all` adds them.
use mathlib.Core.Path.{refl}
use native.Mathlib.Omega.{arith}
use Rattle.matrix_mul.proofs.RowsTaken.{walkable, table_short, four_inside}
use Rattle.matrix_mul.proofs.RowSums.{four_all, summed_same, summed_combined}
use Rattle.matrix_mul.proofs.rows.combine_listed.Goals as goal

pub next_four-four-requires : goal.next_four-four-requires
next_four-four-requires c = walkable c.requires.0 (omega arith) c.requires.1 0 (omega arith)

pub add_four-requires : goal.add_four-requires
add_four-requires c =
    let pre = c.requires.0 in
    (pre.positive, four_inside pre (omega (arith, c.if-by-ne0.true)) c.next_four-four.ensures)

pub shape_of-out-then-four-by : goal.shape_of-out-then-four-by
shape_of-out-then-four-by c = c.add_four.ensures.long

pub returns-then-four-by : goal.returns-then-four-by
returns-then-four-by c =
    let all = four_all c.requires.1 (table_short c.requires.0) c.next_four-four.ensures refl c.if-four-by.true in
    summed_combined c.args.by.now c.args.table.now c.args.rows (summed_same all c.add_four.ensures)

pub add_all-requires : goal.add_all-requires
add_all-requires c = c.requires

pub shape_of-out : goal.shape_of-out
shape_of-out c = c.add_all.ensures.long

pub returns : goal.returns
returns c =
    let a = c.args in
    summed_combined a.by.now a.table.now a.rows c.add_all.ensures
