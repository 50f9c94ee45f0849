-- What the functions that show records ask and say: the reduced form of a board's rows, that a worked row is a unit row, and what
-- show writes.
use Rattle.std.specs.Prelude.{◌≡◌, Bool, true, List, ℕ, ◌+◌, ◌*◌, ◌-◌, ◌≤◌, ◌<◌, eqb, ℤ, pos, length, get_or}
use Rattle.algebra.specs.Answers.{Tells}
use Rattle.algebra.specs.Choice.{choose}
use Rattle.algebra.specs.Matrix.{Vector, Matrix, product, apply}
use Rattle.checks.specs.Largest.{largest}
use Rattle.checks.specs.Prime.{IsModulus}
use Rattle.words.specs.Lengths.{widest_table}
use Rattle.words.specs.Words.{Below, Zeros}
use Rattle.field.specs.Residue.{reduce, residues}
use Rattle.field.specs.View.{line}
use Rattle.field.specs.Written.{tabulate}
use Rattle.matrix_echelon.specs.Reduced.{Pivoting}
use Rattle.ledger.specs.Board.{IsBoard, row_length, value_start, modulus_word, size_word, count_word, values_word, multiplier_table, entries_of}
use Rattle.ledger.specs.Steps.{record_by_record, shown_mark, shown_number}
use Rattle.board_words.specs.Inverse.{BoardInverse}
use Rattle.board_words.specs.Tested.{LaidOut}

-- ---- the reduced form

-- the values of word w of the standing rows, which stand behind their multipliers
abbrev pub values_of : (ws : List ℕ) (w : ℕ) → Vector (residues (modulus_word ws))
values_of ws w = line (modulus_word ws) ws (value_start (size_word ws) (values_word ws) 0 + w) (row_length (size_word ws) (values_word ws))

-- words laid out as a board's, and room
pub record ReducedRoom (ws e pivots : List ℕ) : Type 0 where
  pub laid : LaidOut ws
  pub rows_room : Zeros widest_table e
  pub pivots_room : Zeros largest pivots

-- for a pivot inverse D of the board's rows R, with the values v of each word: row t of e is the row of D R at the pivot of t, with the
-- (D v) there behind it, word by word; and row c of D is zeros where c is no pivot
pub record BoardReduced (ws e pivots : List ℕ) : Type 0 where
  pub D : Matrix (residues (modulus_word ws))
  pub inverse : BoardInverse ws D
  pub long : length e ≡ widest_table
  pub below : Below (modulus_word ws) e
  pub pivoting : Pivoting (count_word ws) pivots
  pub no_pivot :
      (c : ℕ) → ((t : ℕ) → t < count_word ws → get_or pivots t 0 ≡ c → ⊥) → (i : ℕ) → D c i ≡ reduce (modulus_word ws) 0
  pub row :
      (t c : ℕ) → t < count_word ws → c < size_word ws
      → reduce (modulus_word ws) (get_or e (t * (size_word ws + values_word ws) + c) 0)
      ≡ product (residues (modulus_word ws)) (count_word ws) D (multiplier_table ws) (get_or pivots t 0) c
  pub value :
      (t w : ℕ) → t < count_word ws → w < values_word ws
      → reduce (modulus_word ws) (get_or e (t * (size_word ws + values_word ws) + (size_word ws + w)) 0)
      ≡ apply (residues (modulus_word ws)) (count_word ws) D (values_of ws w) (get_or pivots t 0)

-- b says whether the words are a board, and then that is its reduced form
pub record ReducedTold (ws e pivots : List ℕ) (b : Bool) : Type 0 where
  pub tells : Tells b (IsBoard ws)
  pub reduced : b ≡ true → BoardReduced ws e pivots

-- ---- a record

-- the unit row of j: 1 at j and 0 elsewhere
abbrev pub unit_number : ℕ → ℕ → ℕ
unit_number j t = choose (eqb j t) 1 0

abbrev pub IsUnitRow : List ℕ → ℕ → Type 0
IsUnitRow e j = (t : ℕ) → t < length e → get_or e t 0 ≡ unit_number j t

-- the worked row of a record, counted from 1, or 0 for none, lies in e
pub record WorkedRow (row : ℕ) (e : List ℕ) : Type 0 where
  pub few : row ≤ largest
  pub long : length e ≡ widest_table

-- where its numbers and its values stand
abbrev pub worked_place : (n s row c : ℕ) → ℕ
worked_place n s row c = (row - 1) * (n + s) + c

-- there is one, and its numbers are those of the unit row of j
abbrev pub UnitAt : (n s row j : ℕ) → List ℕ → Type 0
UnitAt n s row j e = (0 < row) × ((c : ℕ) → c < n → get_or e (worked_place n s row c) 0 ≡ unit_number j c)

-- s signed numbers f 0, f 1, .. from the place on, the others as before
pub record NumbersPut (at s : ℕ) (f : ℕ → ℤ) (zs zs' : List ℤ) : Type 0 where
  pub same_length : length zs' ≡ length zs
  pub each : (u : ℕ) → u < s → get_or zs' (at + u) (pos 0) ≡ f u
  pub front : (q : ℕ) → q < at → get_or zs' q (pos 0) ≡ get_or zs q (pos 0)

-- ---- all of them

pub record Showable (ws : List ℕ) (low : ℕ) (e pivots marks : List ℕ) (zs : List ℤ) : Type 0 where
  pub reduced : BoardReduced ws e pivots
  pub low_below : low < modulus_word ws
  pub marks_long : length marks ≡ size_word ws
  pub numbers_long : length zs ≡ size_word ws * values_word ws

-- the marks and numbers are those of the ledger that the words hold, with the low end, whatever proof that the modulus is one
abbrev pub ShowsRecords : (ws : List ℕ) (low : ℕ) (marks : List ℕ) (zs : List ℤ) → Type 0
ShowsRecords ws low marks zs =
    (ok : IsModulus (modulus_word ws))
    → (marks ≡ tabulate (size_word ws) (shown_mark (modulus_word ws) ok (size_word ws) (values_word ws) (entries_of ws)))
    × (zs ≡ record_by_record (size_word ws) (values_word ws) (shown_number (modulus_word ws) ok (size_word ws) (values_word ws) (entries_of ws) low))
