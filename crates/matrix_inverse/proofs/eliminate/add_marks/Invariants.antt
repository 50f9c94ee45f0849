-- `matrix_inverse::eliminate::add_marks` meets its contract. The loop's invariant: the first c places have both marks, the others are as
-- they were.
use mathlib.Core.List.{List}
use Prim.Native.Nat.{ℕ}
use native.Mathlib.Decide.{ℕ_discrete}
use lib.ListN.{get_or}
use Rattle.algebra.specs.Choice.{pick}
use Rattle.words.proofs.Walk.{Walked}
use Rattle.matrix_inverse.proofs.eliminate.add_marks.Given as goal

-- what is to stand at place c
abbrev pub both : List ℕ → List ℕ → ℕ → ℕ
both xs ys c = pick (ℕ_discrete (get_or xs c 0) 0) (get_or ys c 0) 1

abbrev pub invariant-loop-c : goal.invariant-loop-c
invariant-loop-c l = Walked l.c (both l.xs l.initial.marks) l.initial.marks l.marks
