-- What finding a combination asks and gives: whether a row is a combination of a board's standing rows, and its multipliers.
use Rattle.std.specs.Prelude.{◌≡◌, Bool, true, false, List, ℕ, ◌≤◌, ◌<◌, length, get_or}
use Rattle.algebra.specs.Answers.{Tells}
use Rattle.algebra.specs.Matrix.{Vector, Matrix, mixed}
use Rattle.algebra.specs.Span.{Combines}
use Rattle.checks.specs.Largest.{largest}
use Rattle.words.specs.Words.{Zeros}
use Rattle.field.specs.Residue.{reduce, residues}
use Rattle.ledger.specs.Board.{IsBoard, modulus_word, size_word, count_word, entries_of}
use Rattle.ledger.specs.Ledger.{InSpan, multiplier_rows}
use Rattle.board_words.specs.Inverse.{BoardInverse}
use Rattle.board_words.specs.Tested.{LaidOut}

-- numbers as residues
abbrev pub residues_of : (p : ℕ) → List ℕ → Vector (residues p)
residues_of p xs t = reduce p (get_or xs t 0)

-- ---- the only combination that can be

-- words laid out as a board's, n numbers, and room
pub record CandidateRoom (ws f c : List ℕ) : Type 0 where
  pub laid : LaidOut ws
  pub long : length f ≡ size_word ws
  pub room : Zeros largest c

-- c is f D with zeros behind it, for a pivot inverse D of the board's rows
pub record IsCandidate (ws f c : List ℕ) : Type 0 where
  pub D : Matrix (residues (modulus_word ws))
  pub inverse : BoardInverse ws D
  pub long : length c ≡ largest
  pub each :
      (i : ℕ) → i < count_word ws
      → get_or c i 0 ≡ (mixed (residues (modulus_word ws)) (size_word ws) (residues_of (modulus_word ws) f) D i).value
  pub zeros : (i : ℕ) → count_word ws ≤ i → get_or c i 0 ≡ 0

-- t says whether the words are a board, and then c is that
pub record CandidateTold (ws f c : List ℕ) (t : Bool) : Type 0 where
  pub tells : Tells t (IsBoard ws)
  pub candidate : t ≡ true → IsCandidate ws f c

-- ---- the combination

-- f is a row for the board: n numbers below p
pub record RowFor (ws f : List ℕ) : Type 0 where
  pub long : length f ≡ size_word ws
  pub below : (j : ℕ) → j < size_word ws → get_or f j 0 < modulus_word ws

pub record Findable (ws f c : List ℕ) : Type 0 where
  pub candidate : IsCandidate ws f c
  pub row : RowFor ws f

-- t says whether f is a combination of the rows that stand, and then the first numbers of c are its multipliers; the others are 0
pub record Combination (ws f c : List ℕ) (t : Bool) : Type 0 where
  pub long : length c ≡ largest
  pub below : (i : ℕ) → i < count_word ws → get_or c i 0 < modulus_word ws
  pub zeros : (i : ℕ) → count_word ws ≤ i → get_or c i 0 ≡ 0
  pub combines :
      t ≡ true
      → Combines (residues (modulus_word ws)) (length (entries_of ws)) (size_word ws) (multiplier_rows (modulus_word ws) (entries_of ws))
      (residues_of (modulus_word ws) c) (residues_of (modulus_word ws) f)
  pub differs : t ≡ false → InSpan (modulus_word ws) (size_word ws) (entries_of ws) f → ⊥
