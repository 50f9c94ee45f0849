-- `matrix_mul::limbs::Limbs::add_rows` meets its contract. The loop's invariant: both lists have the limbs added at the first j places, and
-- are at the others as they were.
use mathlib.Core.List.{List}
use Prim.Native.Nat.{ℕ, ◌+◌}
use lib.ListN.{get_or}
use Rattle.field.specs.Limbs.{low, high}
use Rattle.matrix_mul.specs.Rows.{four_at}
use Rattle.words.proofs.Walk.{Walked}
use Rattle.matrix_mul.proofs.limbs.Limbs.add_rows.Given as goal

-- what add_rows leaves at a place
unfoldable pub with-low : (ℕ → ℕ) → List ℕ → ℕ → ℕ
with-low x lo j = get_or lo j 0 + low (x j)

unfoldable pub with-high : (ℕ → ℕ) → List ℕ → ℕ → ℕ
with-high x hi j = get_or hi j 0 + high (x j)

abbrev pub invariant-loop-j : goal.invariant-loop-j
invariant-loop-j l =
    Walked l.j (with-low (four_at l.table l.four) l.initial.self.lo) l.initial.self.lo l.self.lo
    × Walked l.j (with-high (four_at l.table l.four) l.initial.self.hi) l.initial.self.hi l.self.hi
