-- `matrix_mul::rows::add_all` meets its contract. The loop's invariant: the sums of limbs hold what the first t rows add.
use mathlib.Core.Path.{◌≡◌}
use native.Mathlib.Omega.{arith}
use lib.ListN.{length}
use Rattle.matrix_mul.proofs.RowsTaken.{walkable, table_short, four_inside}
use Rattle.matrix_mul.proofs.RowSums.{held_none, held_ready, held_four, held_whole, summed_same}
use Rattle.matrix_mul.proofs.rows.add_all.Goals as goal

pub loop-t-init : goal.loop-t-init
loop-t-init c = (omega arith, held_none c.new-limbs.ensures)

pub next_four-four-requires : goal.next_four-four-requires
next_four-four-requires c = walkable c.requires.0 (omega arith) c.requires.1 _ c.loop-t.invariant.0

pub add_rows-requires : goal.add_rows-requires
add_rows-requires c =
    let l = c.loop-t in
    let pre = c.requires.0 in (
      held_ready (omega (arith, l.invariant.0, pre.few)) pre.narrow l.invariant.1,
      four_inside pre (omega (arith, c.loop-t-test.true)) c.next_four-four.ensures,
      record { within = omega arith; nothing = λ j h. absurd (omega arith) },
    )

pub loop-t-smaller : goal.loop-t-smaller
loop-t-smaller c =
    let four = c.next_four-four.ensures in
    omega (
      arith,
      four.first.onward c.loop-t-test.true,
      four.second.later,
      four.third.later,
      four.fourth.later,
      four.fourth.within,
    )

pub loop-t-preserved : goal.loop-t-preserved
loop-t-preserved c =
    let pre = c.requires in (
      c.next_four-four.ensures.fourth.within,
      held_four pre.1 (table_short pre.0) c.next_four-four.ensures c.loop-t-test.true c.loop-t.invariant.1
          c.add_rows.ensures,
    )

pub fold_into-requires : goal.fold_into-requires
fold_into-requires c =
    let l = c.loop-t in
    let pre = c.requires.0 in
    held_ready (omega (arith, l.invariant.0, pre.few)) pre.narrow l.invariant.1

pub returns : goal.returns
returns c =
    let l = c.loop-t in
    let a = c.args in
    let e : l.t ≡ length a.by.now = omega arith in
    summed_same (held_whole (rw e at l.invariant.1)) (rw c.of.ensures at c.fold_into.ensures)
