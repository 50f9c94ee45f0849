-- `matrix::table::LinearSystem::remainder` meets its contract. The loop's invariant: the first i numbers are those of w - A x.
use mathlib.Core.List.{List}
use Prim.Native.Nat.{ℕ}
use Rattle.algebra.specs.Solve.{remainder}
use Rattle.field.specs.Residue.{residues}
use Rattle.words.proofs.Walk.{Walked}
use Rattle.matrix.specs.Calls.{table_of, vector_of}
use Rattle.matrix.proofs.table.LinearSystem.remainder.Given as goal

-- the numbers of w - A x
unfoldable pub left : (p m n : ℕ) (a x w : List ℕ) → ℕ → ℕ
left p m n a x w i = (remainder (residues p) n (table_of p m n a) (vector_of p x) (vector_of p w) i).value

abbrev pub invariant-loop-i : goal.invariant-loop-i
invariant-loop-i l = Walked l.i (left l.self.table.p l.self.table.height l.self.table.width l.self.table.numbers.now l.x l.self.w.now) l.initial.rest l.rest
