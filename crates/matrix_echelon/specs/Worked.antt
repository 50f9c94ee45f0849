-- The worked rows grow by one: what the parts of that ask and leave.
use Rattle.std.specs.Prelude.{◌≡◌, List, ℕ, ◌+◌, ◌*◌, ◌/◌, ◌≤◌, ◌<◌, length, get_or}
use Rattle.algebra.specs.Echelon.{Grown}
use Rattle.checks.specs.Prime.{IsModulus, largest_modulus}
use Rattle.words.specs.Lengths.{longest_row, widest_row}
use Rattle.words.specs.Words.{Below}
use Rattle.field.specs.Residue.{Residue, reduce, residues, ◌⊕◌, ◌⊗◌, negated}
use Rattle.matrix_echelon.specs.Group.{worked_rows, pivots_of, WorkedRoom}

-- numbers below p, of which those in front of `from` are 0
pub record LeadingZeros (p from : ℕ) (x : List ℕ) : Type 0 where
  pub positive : 0 < p
  pub in_range : p ≤ largest_modulus
  pub below : Below p x
  pub within : from ≤ length x
  pub zeros : (j : ℕ) → j < from → get_or x j 0 ≡ 0

-- scaling by s
pub record Scalable (p s from : ℕ) (x : List ℕ) : Type 0 where
  pub leading : LeadingZeros p from x
  pub factor : s < p

pub record Scaled (p s : ℕ) (x x' : List ℕ) : Type 0 where
  pub same_length : length x' ≡ length x
  pub each : (j : ℕ) → j < length x → get_or x' j 0 ≡ (reduce p s ⊗ reduce p (get_or x j 0)).value

-- adding c times x to the numbers of e from the place on
pub record Addable (p c : ℕ) (x : List ℕ) (from : ℕ) (e : List ℕ) (at : ℕ) : Type 0 where
  pub leading : LeadingZeros p from x
  pub factor : c < p
  pub e_below : Below p e
  pub inside : at + length x ≤ length e

pub record MultipleAdded (p c : ℕ) (x : List ℕ) (at : ℕ) (e e' : List ℕ) : Type 0 where
  pub same_length : length e' ≡ length e
  pub each :
      (j : ℕ) → j < length x
      → get_or e' (at + j) 0 ≡ (reduce p (get_or e (at + j) 0) ⊕ reduce p c ⊗ reduce p (get_or x j 0)).value
  pub before : (q : ℕ) → q < at → get_or e' q 0 ≡ get_or e q 0
  pub behind : (q : ℕ) → at + length x ≤ q → get_or e' q 0 ≡ get_or e q 0

-- clearing the group of row r at the place v, where x begins
pub record GroupClearable (p : ℕ) (x : List ℕ) (v r : ℕ) (e : List ℕ) : Type 0 where
  pub leading : LeadingZeros p v x
  pub narrow : length x ≤ widest_row
  pub in_row : v < length x
  pub few : r < longest_row
  pub room : WorkedRoom p e

pub record GroupCleared (p : ℕ) (x : List ℕ) (v r : ℕ) (e e' : List ℕ) : Type 0 where
  pub room : WorkedRoom p e'
  pub group :
      (t j : ℕ) → t < r → r / 4 * 4 ≤ t → j < length x
      → worked_rows p e' (length x) t j
      ≡ worked_rows p e (length x) t j ⊕ negated (worked_rows p e (length x) t v) ⊗ reduce p (get_or x j 0)
  pub before : (q : ℕ) → q < r / 4 * 4 * length x → get_or e' q 0 ≡ get_or e q 0

-- making x, whose first number that is not 0 stands at v, the worked row r
pub record Growable (p : ℕ) (x : List ℕ) (v r : ℕ) (e pivots : List ℕ) : Type 0 where
  pub is_modulus : IsModulus p
  pub clearable : GroupClearable p x v r e
  pub not_zero : get_or x v 0 ≡ 0 → ⊥
  pub pivots_long : length pivots ≡ longest_row

-- it has become that row, of `width` numbers
pub record RowGrown (p : ℕ) (x : List ℕ) (v r : ℕ) (e pivots e' pivots' : List ℕ) : Type 0 where
  pub room : WorkedRoom p e'
  pub pivots_long : length pivots' ≡ longest_row
  pub factor : Residue p
  pub to_one : reduce p (get_or x v 0) ⊗ factor ≡ reduce p 1
  pub grown :
      (width : ℕ) → length x ≡ width
      → Grown (residues p) width r v factor (λ j. reduce p (get_or x j 0)) (worked_rows p e width) (pivots_of pivots)
      (worked_rows p e' width) (pivots_of pivots')
