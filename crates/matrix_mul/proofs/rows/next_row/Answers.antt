-- `matrix_mul::rows::next_row` meets its contract. The loop's invariant: the rows from `from` up to t add nothing, where those that the
-- list passes over add nothing.
use mathlib.Core.Path.{refl}
use native.Mathlib.Omega.{arith}
use Rattle.matrix_mul.proofs.RowsTaken.{skipped_more, taken_row, taken_none}
use Rattle.matrix_mul.proofs.rows.next_row.Goals as goal

pub loop-t-init : goal.loop-t-init
loop-t-init c = (omega arith, omega arith, λ xs j over. refl)

pub offset_bounds-next-t : goal.offset_bounds-next-t
offset_bounds-next-t c = omega (arith, c.requires.1.leads.long)

pub bounds-next-t : goal.bounds-next-t
bounds-next-t c = omega (arith, c.requires.1.leads.long)

pub overflow_cast-later : goal.overflow_cast-later
overflow_cast-later c = omega (arith, c.requires.1.leads.within c.loop-t.t c.loop-t-test.true)

pub overflow_mul-at : goal.overflow_mul-at
overflow_mul-at c = omega (arith, c.requires.1.starts c.loop-t.t c.loop-t-test.true)

pub overflow_add-at : goal.overflow_add-at
overflow_add-at c = omega (arith, c.requires.1.starts c.loop-t.t c.loop-t-test.true)

pub returns-then-c-ne0 : goal.returns-then-c-ne0
returns-then-c-ne0 c =
    let l = c.loop-t in
    taken_row _ _ _ _ l.t c.requires.1.leads c.requires.1.short l.invariant.0 c.loop-t-test.true l.invariant.2

pub loop-t-smaller : goal.loop-t-smaller
loop-t-smaller c = omega (arith, c.requires.1.leads.later c.loop-t.t c.loop-t-test.true)

pub loop-t-preserved : goal.loop-t-preserved
loop-t-preserved c =
    let l = c.loop-t in
    let leads = c.requires.1.leads in (
      omega (arith, leads.later l.t c.loop-t-test.true),
      leads.within l.t c.loop-t-test.true,
      skipped_more _ _ _ _ l.t leads c.loop-t-test.true c.if-c-ne0.false l.invariant.2,
    )

pub returns : goal.returns
returns c =
    let l = c.loop-t in
    taken_none _ _ _ _ l.t l.invariant.0 (omega arith) l.invariant.2
