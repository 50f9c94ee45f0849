-- The forward elimination of the rows of a table, one after the other, in groups of four worked rows: what is known of the worked
-- rows, of the row that is being worked off, and of the rows after it. The table is M, `width` columns wide, whose first n columns are A;
-- those behind them are carried along. A worked row has a 1 at its own pivot, and 0 at the pivots of its own group and of earlier ones.
use Rattle.std.specs.Prelude.{◌≡◌, true, false, ℕ, ◌+◌, ◌*◌, ◌/◌, ◌≤◌, ◌<◌, eqb}
use Rattle.algebra.specs.Choice.{choose}
use Rattle.algebra.specs.Ring.{Ring}
use Rattle.algebra.specs.Matrix.{Vector, Matrix, unit, mixed, cut}
use Rattle.algebra.specs.Span.{Combines}
use Rattle.algebra.specs.Quasiinverse.{Marks, count, IsPivotInverse}

module _ (R : Ring) where
  -- x, at its first `width` places, is a combination of those of the first m rows of M that are in J
  pub record Within (m width : ℕ) (M : Matrix R) (J : Marks) (x : Vector R) : Type 0 where
    pub by : Vector R
    pub supported : (t : ℕ) → J t ≡ false → by t ≡ R.zero
    pub combines : Combines R m width M by x

  -- r rows have come of the first m rows of M: row t of E, with its pivot
  pub record Worked (m n width : ℕ) (M : Matrix R) (r : ℕ) (E : Matrix R) (pivot : ℕ → ℕ) : Type 0 where
    pub narrow : n ≤ width
    pub D : Matrix R
    pub I : Marks
    pub J : Marks
    pub inverse : IsPivotInverse R m n (cut R m n M) D I J
    pub rank : r ≡ count n I
    -- the pivots are I
    pub chosen : (t : ℕ) → t < r → I (pivot t) ≡ true
    pub found : (c : ℕ) → I c ≡ true → (t : ℕ) × ((t < r) × (pivot t ≡ c))
    pub combined : (t : ℕ) → t < r → Within m width M J (E t)
    pub cleared : (s t : ℕ) → s < r → t < r → s / 4 ≤ t / 4 → E t (pivot s) ≡ unit R s t

  -- x is row i of M with multiples of the first g worked rows added, so that it is 0 at their pivots
  pub record ClearedTo (g i width : ℕ) (M : Matrix R) (r : ℕ) (E : Matrix R) (pivot : ℕ → ℕ) (x : Vector R) : Type 0 where
    pub by : Vector R
    pub beyond : (t : ℕ) → r ≤ t → by t ≡ R.zero
    pub sums : (j : ℕ) → j < width → x j ≡ R.plus (M i j) (mixed R g by E j)
    pub zeros_at : (s : ℕ) → s < r → s < g → x (pivot s) ≡ R.zero

  -- the same with all r worked rows
  abbrev pub Cleared : (i width : ℕ) (M : Matrix R) (r : ℕ) (E : Matrix R) (pivot : ℕ → ℕ) (x : Vector R) → Type 0
  Cleared i width M r E pivot x = ClearedTo r i width M r E pivot x

  -- x' is x with the four rows of the group from g on added, each with the multiplier that makes x 0 at its pivot
  pub record GroupAdded (g width r : ℕ) (E : Matrix R) (pivot : ℕ → ℕ) (x x' : Vector R) : Type 0 where
    pub by : Vector R
    pub at_pivot : (k : ℕ) → k < 4 → g + k < r → by k ≡ R.minus (x (pivot (g + k)))
    pub beyond : (k : ℕ) → k < 4 → r ≤ g + k → by k ≡ R.zero
    pub sums : (j : ℕ) → j < width → x' j ≡ R.plus (x j) (mixed R 4 by (λ k. E (g + k)) j)

  -- x, times s, has become worked row r with the pivot v; the rows of its group are cleared there, those of earlier groups stay
  pub record Grown (width r v : ℕ) (s : R.Carrier) (x : Vector R) (E : Matrix R) (pivot : ℕ → ℕ) (E' : Matrix R) (pivot' : ℕ → ℕ) : Type 0 where
    pub new : (j : ℕ) → j < width → E' r j ≡ R.times s (x j)
    pub group :
        (t j : ℕ) → t < r → r / 4 * 4 ≤ t → j < width
        → E' t j ≡ R.plus (E t j) (R.times (R.minus (E t v)) (E' r j))
    pub earlier : (t j : ℕ) → t < r / 4 * 4 → j < width → E' t j ≡ E t j
    pub new_pivot : pivot' r ≡ v
    pub pivots : (t : ℕ) → t < r → pivot' t ≡ pivot t

  -- each of r rows is 0 in front of its pivot
  abbrev pub Leading : (r : ℕ) (E : Matrix R) (pivot : ℕ → ℕ) → Type 0
  Leading r E pivot = (t j : ℕ) → t < r → j < pivot t → E t j ≡ R.zero

  -- the worked rows from t on are 0 at all pivots but their own
  abbrev pub ReducedFrom : (t r : ℕ) (E : Matrix R) (pivot : ℕ → ℕ) → Type 0
  ReducedFrom from r E pivot = (s t : ℕ) → s < r → from ≤ t → t < r → E t (pivot s) ≡ unit R s t

  -- the multipliers that make row t of E 0 at the pivots of the other rows
  unfoldable pub others : (t : ℕ) (E : Matrix R) (pivot : ℕ → ℕ) → Vector R
  others t E pivot s = choose (eqb s t) R.zero (R.minus (E t (pivot s)))

  -- they have been used on row t, and the other rows have stayed
  pub record RowReduced (width r t : ℕ) (E : Matrix R) (pivot : ℕ → ℕ) (E' : Matrix R) : Type 0 where
    pub row : (j : ℕ) → j < width → E' t j ≡ R.plus (E t j) (mixed R r (others t E pivot) E j)
    pub rest : (s j : ℕ) → s < r → (s ≡ t → ⊥) → j < width → E' s j ≡ E s j
