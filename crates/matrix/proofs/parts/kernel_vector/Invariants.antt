-- `matrix::parts::kernel_vector` meets its contract. The loop's invariant: the first j numbers are those of column c of 1 - D A, for
-- every D and A that the rows belong to.
use Rattle.algebra.specs.Kernel.{kernel_vector}
use Rattle.field.specs.Residue.{residues}
use Rattle.words.proofs.Walk.{Walked}
use Rattle.matrix.specs.Parts.{ReducedRows}
use Rattle.matrix.proofs.parts.kernel_vector.Given as goal

abbrev pub invariant-loop-j : goal.invariant-loop-j
invariant-loop-j l = (h : ReducedRows l.p l.n l.at l.e) → Walked l.j (λ t. (kernel_vector (residues l.p) h.m h.D h.A l.c t).value) l.initial.out l.out
