-- What comes of the worked rows: the reduced form of the table, and a solution.
use Rattle.std.specs.Prelude.{◌≡◌, true, List, ℕ, suc, ◌+◌, ◌*◌, ◌≤◌, ◌<◌, length, get_or, eqb}
use Rattle.algebra.specs.Choice.{choose}
use Rattle.algebra.specs.Matrix.{product, apply, mixed}
use Rattle.algebra.specs.Echelon.{others}
use Rattle.checks.specs.Prime.{largest_modulus}
use Rattle.words.specs.Lengths.{longest_row, widest_table}
use Rattle.words.specs.Words.{Below}
use Rattle.field.specs.Residue.{reduce, residues, ◌⊕◌}
use Rattle.field.specs.View.{line}
use Rattle.field.specs.Written.{numbers}
use Rattle.matrix_mul.specs.Rows.{Each}
use Rattle.matrix_echelon.specs.declared.Grid.{Grid}
use Rattle.matrix_echelon.specs.Grid.{grid_of}
use Rattle.matrix_echelon.specs.declared.pivots.Pivots.{Pivots}
use Rattle.matrix_echelon.specs.Group.{worked_rows, pivots_of, WorkedRoom}
use Rattle.matrix_echelon.specs.Forward.{IsRank}

-- worked rows and their pivots, of which row t is looked at
pub record Lookable (p : ℕ) (v : Pivots) (t : ℕ) (e : List ℕ) : Type 0 where
  pub positive : 0 < p
  pub in_range : p ≤ largest_modulus
  pub rows_in : WorkedRoom p e
  pub one_of : t < v.rank

-- the multipliers that make row t 0 at the pivots of the other rows
pub record Multipliers (p : ℕ) (v : Pivots) (t : ℕ) (e by : List ℕ) : Type 0 where
  pub long : length by ≡ longest_row
  pub below : Below p by
  pub each : (s : ℕ) → s < v.rank → reduce p (get_or by s 0) ≡ others (residues p) t (worked_rows p e v.width) (pivots_of v.places.now) s

-- e has become e': from `at` on a unit row's `len` numbers, 1 at v, and the others as they were
pub record UnitWritten (v len at : ℕ) (e e' : List ℕ) : Type 0 where
  pub same_length : length e' ≡ length e
  pub each : (j : ℕ) → j < len → get_or e' (at + j) 0 ≡ choose (eqb j v) 1 0
  pub before : (q : ℕ) → q < at → get_or e' q 0 ≡ get_or e q 0
  pub behind : (q : ℕ) → at + len ≤ q → get_or e' q 0 ≡ get_or e q 0

-- no number in front of the place v is 0
pub record FirstFree (at : List ℕ) (v : ℕ) : Type 0 where
  pub within : v ≤ length at
  pub taken : (j : ℕ) → j < v → get_or at j 0 ≡ 0 → ⊥

-- what reducing row t asks; `next` leads through all rows
pub record Reducible (p : ℕ) (v : Pivots) (from t : ℕ) (next e : List ℕ) : Type 0 where
  pub lookable : Lookable p v t e
  pub proper : 1 < p
  pub within : from ≤ v.width
  pub through : Each next

-- the multipliers have been used on row t from the place `from` on; in front of it the row has a 1 at its own pivot, and 0 elsewhere
pub record RowLessened (p : ℕ) (v : Pivots) (from t : ℕ) (e e' : List ℕ) : Type 0 where
  pub room : WorkedRoom p e'
  pub row :
      (j : ℕ) → from ≤ j → j < v.width
      → worked_rows p e' v.width t j
      ≡ worked_rows p e v.width t j
      ⊕ mixed (residues p) v.rank (others (residues p) t (worked_rows p e v.width) (pivots_of v.places.now)) (worked_rows p e v.width) j
  pub front : (j : ℕ) → j < from → get_or e' (t * v.width + j) 0 ≡ choose (eqb j (get_or v.places.now t 0)) 1 0
  pub rest : (s j : ℕ) → (s ≡ t → ⊥) → j < v.width → worked_rows p e' v.width s j ≡ worked_rows p e v.width s j

-- the reduced form: for some pivot inverse D of the table, the row of pivot c is row c of D A, with row c of D w behind it for
-- each w of the `count` carried columns
pub record ReducedForm (p : ℕ) (g : Grid) (a w : List ℕ) (step count r : ℕ) (e pivots : List ℕ) : Type 0 where
  pub rank : IsRank p g a r
  pub below : Below p e
  pub long : length e ≡ widest_table
  pub pivots_long : length pivots ≡ longest_row
  pub pivots_below : (t : ℕ) → t < r → get_or pivots t 0 < g.columns
  pub chosen : (t : ℕ) → t < r → rank.I (get_or pivots t 0) ≡ true
  pub found : (c : ℕ) → rank.I c ≡ true → (t : ℕ) × ((t < r) × (get_or pivots t 0 ≡ c))
  pub row :
      (t j : ℕ) → t < r → j < g.columns
      → reduce p (get_or e (t * (g.columns + count) + j) 0)
      ≡ product (residues p) g.rows rank.D (grid_of p g a) (get_or pivots t 0) j
  pub carried :
      (t u : ℕ) → t < r → u < count
      → reduce p (get_or e (t * (g.columns + count) + (g.columns + u)) 0)
      ≡ apply (residues p) g.rows rank.D (line p w u step) (get_or pivots t 0)

-- r pivots that lie in rows of the longest length
pub record Pivoting (r : ℕ) (pivots : List ℕ) : Type 0 where
  pub long : length pivots ≡ longest_row
  pub few : r ≤ longest_row
  pub inside : (t : ℕ) → t < r → get_or pivots t 0 < longest_row

-- at each pivot the number of its row, plus 1, and 0 elsewhere
pub record RowsByPivot (r : ℕ) (pivots at : List ℕ) : Type 0 where
  pub long : length at ≡ longest_row
  pub few : (j : ℕ) → get_or at j 0 ≤ r
  pub none : (j : ℕ) → get_or at j 0 ≡ 0 → (t : ℕ) → t < r → get_or pivots t 0 ≡ j → ⊥
  pub row : (j t : ℕ) → get_or at j 0 ≡ suc t → (t < r) × (get_or pivots t 0 ≡ j)

-- z is D w, for some pivot inverse D of the table
pub record SolutionFound (p : ℕ) (g : Grid) (a w : List ℕ) (step r : ℕ) (z : List ℕ) : Type 0 where
  pub rank : IsRank p g a r
  pub is_solution : z ≡ numbers g.columns (apply (residues p) g.rows rank.D (line p w 0 step))
