-- A row that is worked off: what its parts ask and leave. `row_in` is the row that the sums of limbs stand for.
use Rattle.std.specs.Prelude.{◌≡◌, List, ℕ, ◌+◌, ◌*◌, ◌/◌, ◌≤◌, ◌<◌, length, get_or}
use Rattle.algebra.specs.Matrix.{Vector, Matrix, unit}
use Rattle.algebra.specs.Echelon.{Cleared, Leading}
use Rattle.words.specs.Lengths.{longest_row, most_carried, widest_table}
use Rattle.words.specs.Words.{Below}
use Rattle.field.specs.Residue.{reduce, residues, negated}
use Rattle.field.specs.Limbs.{limb_base}
use Rattle.matrix_mul.specs.declared.limbs.Limbs.{Limbs}
use Rattle.matrix_mul.specs.declared.rows.Row.{Row}
use Rattle.matrix_mul.specs.declared.rows.Four.{Four}
use Rattle.matrix_mul.specs.Rows.{Ready, whole_at}
use Rattle.matrix_echelon.specs.declared.Grid.{Grid}
use Rattle.matrix_echelon.specs.declared.pivots.Pivots.{Pivots}
use Rattle.matrix_echelon.specs.Grid.{grid_place}
use Rattle.matrix_echelon.specs.Pivots.{PivotsInside}

-- row i of a table that has columns can be read
pub record NumbersReadable (g : Grid) (i : ℕ) (a : List ℕ) : Type 0 where
  pub some : 0 < g.columns
  pub narrow : g.columns ≤ longest_row
  pub inside : (j : ℕ) → j < g.columns → grid_place g i j < length a

-- s has become s': its low sums are the numbers, and the high sums stay
pub record NumbersRead (g : Grid) (i : ℕ) (a : List ℕ) (s s' : Limbs) : Type 0 where
  pub each : (j : ℕ) → j < g.columns → get_or s'.lo j 0 ≡ get_or a (grid_place g i j) 0
  pub small : (j : ℕ) → j < g.columns → get_or s'.lo j 0 < limb_base
  pub high : s'.hi ≡ s.hi

-- the numbers carried behind the n numbers of row i can be read
pub record CarriedReadable (n i : ℕ) (w : List ℕ) (step carried : ℕ) : Type 0 where
  pub narrow : n ≤ longest_row
  pub carried_most : carried ≤ most_carried
  pub inside : (u : ℕ) → u < carried → i * step + u < length w

-- s has become s': they are behind the n numbers, which stay, and so do the high sums
pub record CarriedRead (n i : ℕ) (w : List ℕ) (step carried : ℕ) (s s' : Limbs) : Type 0 where
  pub front : (j : ℕ) → j < n → get_or s'.lo j 0 ≡ get_or s.lo j 0
  pub each : (u : ℕ) → u < carried → get_or s'.lo (n + u) 0 ≡ get_or w (i * step + u) 0
  pub small : (u : ℕ) → u < carried → get_or s'.lo (n + u) 0 < limb_base
  pub high : s'.hi ≡ s.hi

-- row i and its carried numbers can be read
pub record RowReadable (g : Grid) (i : ℕ) (a w : List ℕ) (step carried : ℕ) : Type 0 where
  pub numbers : NumbersReadable g i a
  pub carried_most : carried ≤ most_carried
  pub carried_inside : (u : ℕ) → u < carried → i * step + u < length w

-- s has become s': its low sums are the numbers of the row, and behind them the carried ones; the high sums stay
pub record RowRead (g : Grid) (i : ℕ) (a w : List ℕ) (step carried : ℕ) (s s' : Limbs) : Type 0 where
  pub each : (j : ℕ) → j < g.columns → get_or s'.lo j 0 ≡ get_or a (grid_place g i j) 0
  pub behind : (u : ℕ) → u < carried → get_or s'.lo (g.columns + u) 0 ≡ get_or w (i * step + u) 0
  pub small : (j : ℕ) → j < g.columns + carried → get_or s'.lo j 0 < limb_base
  pub high : s'.hi ≡ s.hi

-- the row that sums of limbs stand for
abbrev pub row_in : (p : ℕ) → Limbs → Vector (residues p)
row_in p s j = reduce p (whole_at s j)

-- the worked rows, each `width` numbers long, one behind the other; and their pivots
abbrev pub worked_rows : (p : ℕ) (e : List ℕ) (width : ℕ) → Matrix (residues p)
worked_rows p e width t j = reduce p (get_or e (t * width + j) 0)

abbrev pub pivots_of : List ℕ → ℕ → ℕ
pivots_of pivots t = get_or pivots t 0

-- the negative of the number at the pivot of row t
pub record IsMultiplier (p : ℕ) (v : Pivots) (t : ℕ) (s : Limbs) (c : ℕ) : Type 0 where
  pub below : c < p
  pub negative : reduce p c ≡ negated (row_in p s (pivots_of v.places.now t))

-- the worked row t with its multiplier, or times 0
pub record IsPivotRow (p : ℕ) (v : Pivots) (t : ℕ) (s : Limbs) (row : Row) : Type 0 where
  pub below : row.times < p
  pub place : t < v.rank → row.at ≡ t * v.width
  pub multiplier : t < v.rank → reduce p row.times ≡ negated (row_in p s (pivots_of v.places.now t))
  pub first : v.rank ≤ t → row.at ≡ 0
  pub no_multiplier : v.rank ≤ t → row.times ≡ 0

-- the same of the four rows from g on
pub record GroupTaken (p : ℕ) (v : Pivots) (g : ℕ) (s : Limbs) (four : Four) : Type 0 where
  pub row_a : IsPivotRow p v g s four.a
  pub row_b : IsPivotRow p v (g + 1) s four.b
  pub row_c : IsPivotRow p v (g + 2) s four.c
  pub row_d : IsPivotRow p v (g + 3) s four.d

-- no row of the group from g on has its pivot in front of `least`
pub record NoPivotBefore (v : Pivots) (g least : ℕ) : Type 0 where
  pub within : least ≤ v.width
  pub none : (t : ℕ) → g ≤ t → t < g + 4 → t < v.rank → least ≤ get_or v.places.now t 0

-- worked rows with room for all, below p
pub record WorkedRoom (p : ℕ) (e : List ℕ) : Type 0 where
  pub long : length e ≡ widest_table
  pub below : Below p e

-- each worked row has a 1 at its pivot, and 0 at those of its own group and of earlier ones
abbrev pub GroupsCleared : (p width r : ℕ) (e pivots : List ℕ) → Type 0
GroupsCleared p width r e pivots =
    (s t : ℕ) → s < r → t < r → s / 4 ≤ t / 4
    → worked_rows p e width t (pivots_of pivots s) ≡ unit (residues p) s t

-- what clearing a fresh row at all pivots asks
pub record Clearable (p width r : ℕ) (e pivots : List ℕ) (s : Limbs) : Type 0 where
  pub proper : 1 < p
  pub room : WorkedRoom p e
  pub pivots_in : PivotsInside width r pivots
  pub cleared : GroupsCleared p width r e pivots
  pub leading : Leading (residues p) r (worked_rows p e width) (pivots_of pivots)
  pub small : (j : ℕ) → j < width → get_or s.lo j 0 < limb_base
  pub fresh : (j : ℕ) → get_or s.hi j 0 ≡ 0

-- the row has multiples of the worked rows added, and is 0 at all pivots
pub record PivotsCleared (p width r : ℕ) (e pivots : List ℕ) (s s' : Limbs) : Type 0 where
  pub cleared : Cleared (residues p) 0 width (λ i. row_in p s) r (worked_rows p e width) (pivots_of pivots) (row_in p s')
  pub ready : Ready width s'
