-- 01, "Quasiinverse": "I is the set of columns that are no combination of the columns before them, J the same for rows"; "I and J
-- have r members each, the rank"; "D, of n rows and m columns, is the inverse of A restricted to J and I, and 0 outside I and J".
-- They are defined for every ring in which it is decided what a combination is, and however it is decided; `proofs/Marked.antt`
-- shows that over a field I has as many members as J, and that there is such a D, and one only.
use Rattle.std.specs.Prelude.{true, false, ℕ, ltb}
use Rattle.algebra.specs.Choice.{choose, pick}
use Rattle.algebra.specs.Ring.{Ring}
use Rattle.algebra.specs.Matrix.{Vector, Matrix, transpose}
use Rattle.algebra.specs.Span.{IsCombination}
use Rattle.algebra.specs.Quasiinverse.{Marks, count, IsInverseOn}

-- a way to decide whether v, n numbers, is a combination of the first k rows of X
abbrev pub DecidesCombinations : Ring → Type 0
DecidesCombinations R = (k n : ℕ) (X : Matrix R) (v : Vector R) → Dec (IsCombination R k n X v)

module _ (R : Ring) (decide : DecidesCombinations R) where
  -- J, the rows of A, m rows of n numbers, that are no combination of the rows before them
  unfoldable pub chosen_rows : (m n : ℕ) → Matrix R → Marks
  chosen_rows m n A y = choose (ltb y m) (pick (decide y n A (A y)) false true) false

  -- I, the same for columns
  unfoldable pub chosen_columns : (m n : ℕ) → Matrix R → Marks
  chosen_columns m n A = chosen_rows n m (transpose R A)

  -- r, the size of J
  unfoldable pub rank : (m n : ℕ) → Matrix R → ℕ
  rank m n A = count m (chosen_rows m n A)

  -- D
  pub record Inverse (m n : ℕ) (A : Matrix R) : Type 0 where
    pub D : Matrix R
    pub holds : IsInverseOn R m n A D (chosen_columns m n A) (chosen_rows m n A)
