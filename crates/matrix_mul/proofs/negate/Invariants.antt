-- `matrix_mul::negate` meets its contract. The loop's invariant: the numbers up to the index are negated, the others as
-- they were.
use mathlib.Core.List.{List}
use Prim.Native.Nat.{ℕ}
use lib.ListN.{get_or}
use Rattle.field.specs.Residue.{reduce, negated}
use Rattle.words.proofs.Walk.{Walked}
use Rattle.matrix_mul.proofs.negate.Given as goal

-- what negate leaves at a place
unfoldable pub opposite : ℕ → List ℕ → ℕ → ℕ
opposite p xs j = (negated (reduce p (get_or xs j 0))).value

abbrev pub invariant-loop-x : goal.invariant-loop-x
invariant-loop-x l = Walked l.x-index (opposite l.p l.initial.xs) l.initial.xs l.xs
