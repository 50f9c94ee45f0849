-- `matrix::parts::kernel_vector` meets its contract. The loop's invariant: the first j numbers are those of column c of 1 - D A, for
-- every D and A that the rows belong to.
use native.Mathlib.Omega.{arith}
use Rattle.words.proofs.Walk.{walked_more}
use Rattle.matrix.proofs.Memory.{walked_numbers}
use Rattle.matrix.proofs.parts.kernel_vector.Goals as goal

pub loop-j-preserved : goal.loop-j-preserved
loop-j-preserved c h = walked_more c.loop-j.j _ _ _ _ (c.loop-j.invariant h) (omega arith) (c.kernel_entry.ensures h)

pub returns : goal.returns
returns c h = walked_numbers c.loop-j.j c.args.n _ _ c.loop-j.out (omega arith) c.requires.2 (c.loop-j.invariant h)
