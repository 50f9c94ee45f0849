-- `matrix::parts::kernel_entry` meets its contract: what it answers is the number of column c of 1 - D A, where j is c, another column
-- without a pivot, or a pivot.
use Rattle.matrix.proofs.FreeColumns.{own_number, other_number, pivot_number}
use Rattle.matrix.proofs.parts.kernel_entry.Goals as goal

pub returns-then-j-c : goal.returns-then-j-c
returns-then-j-c c h = own_number h _ _ c.if-row-eq0.true c.if-j-c.true

pub returns-else-j-c : goal.returns-else-j-c
returns-else-j-c c h = other_number h _ _ c.if-row-eq0.true c.if-j-c.false

pub returns : goal.returns
returns c h = pivot_number h _ _ c.if-row-eq0.false c.requires.1 _ c.minus.ensures
