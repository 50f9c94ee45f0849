-- `matrix::parts::kernel_vectors` meets its contract. The loop's invariant: k vectors fill the front of the basis, those of the
-- columns passed that have no pivot, for every D and A that the rows belong to.
use Rattle.matrix.specs.Parts.{ReducedRows}
use Rattle.field.specs.Written.{marked}
use Rattle.matrix.proofs.Vectors.{Filled}
use Rattle.matrix.proofs.parts.kernel_vectors.Given as goal

abbrev pub invariant-loop-c : goal.invariant-loop-c
invariant-loop-c l = (h : ReducedRows l.p l.n l.at l.e) → Filled h.m l.n (marked l.at) h.D h.A l.initial.basis l.c l.k l.basis
