-- `matrix_inverse::eliminate::eliminate` meets its contract: no row asks nothing, and `halves_8` and `halves` do the rest; their marks are
-- added to the columns'.
use mathlib.Core.Path.{sym, ◌∙◌}
use native.Mathlib.Omega.{arith}
use Rattle.matrix_inverse.proofs.ElimMarks.{fresh_long}
use Rattle.matrix_inverse.proofs.ElimColumns.{fresh_columns, columns_added}
use Rattle.matrix_inverse.proofs.RowOne.{nothing_chosen}
use Rattle.matrix_inverse.proofs.StepScratch.{scratch_zeros}
use Rattle.matrix_inverse.proofs.eliminate.eliminate.Goals as goal

pub returns-then-m-eq0 : goal.returns-then-m-eq0
returns-then-m-eq0 c = nothing_chosen c.requires (λ i j h l. omega (arith, c.if-m-eq0.true))

-- up to 8 rows
pub halves_8-found-requires : goal.halves_8-found-requires
halves_8-found-requires c = (fresh_columns c.requires, omega (arith, c.if-m-eq0.false), c.if-m-le8.true)

pub slice_bounds-add_marks-end : goal.slice_bounds-add_marks-end
slice_bounds-add_marks-end c = sym (c.halves_8-found.ensures.columns_marked.same_length ∙ fresh_long)

pub add_marks-requires : goal.add_marks-requires
add_marks-requires c =
    let pre = c.requires in
    (omega (arith, c.halves_8-found.ensures.columns_marked.same_length, fresh_long, pre.n_most), pre.columns_long)

pub returns-then-m-le8 : goal.returns-then-m-le8
returns-then-m-le8 c = columns_added c.halves_8-found.ensures c.add_marks.ensures

pub halves-found-requires : goal.halves-found-requires
halves-found-requires c =
    let pre = c.requires in (
      fresh_columns pre,
      omega (arith, c.if-m-eq0.false),
      scratch_zeros 32 pre.is_modulus (omega (arith, pre.m_most)),
    )

pub slice_bounds-add_marks-end-2 : goal.slice_bounds-add_marks-end-2
slice_bounds-add_marks-end-2 c = sym (c.halves-found.ensures.0.columns_marked.same_length ∙ fresh_long)

pub add_marks-requires-2 : goal.add_marks-requires-2
add_marks-requires-2 c =
    let pre = c.requires in
    (omega (arith, c.halves-found.ensures.0.columns_marked.same_length, fresh_long, pre.n_most), pre.columns_long)

pub returns : goal.returns
returns c = columns_added c.halves-found.ensures.0 c.add_marks-2.ensures
