-- What taking a row asks and leaves: the ledger's step for a frame that was read, laid out again.
use Rattle.std.specs.Prelude.{◌≡◌, List, ℕ, ◌+◌, ◌<◌, length, get_or, take}
use Rattle.checks.specs.Outcome.{Outcome}
use Rattle.checks.specs.Prime.{IsModulus}
use Rattle.checks.specs.Largest.{largest}
use Rattle.words.specs.Words.{Below}
use Rattle.field.specs.Residue.{Residue}
use Rattle.field.specs.Products.{sum_of_products}
use Rattle.ledger.specs.Board.{IsBoard, row_length, value_start, modulus_word, size_word, count_word, values_word, ledger_of}
use Rattle.ledger.specs.Steps.{take_accepted}
use Rattle.ledger.specs.Calls.{laid_out}
use Rattle.board_solve.specs.Combination.{Findable}

-- ---- the values of a combination

-- a board, room for the multipliers of a combination, and a value for each word of a record
pub record Comparable (ws c v : List ℕ) : Type 0 where
  pub board : IsBoard ws
  pub long : length c ≡ largest
  pub values_long : length v ≡ values_word ws

-- the combination of the values of word w
abbrev pub combined_value : (ws c : List ℕ) (w : ℕ) → Residue (modulus_word ws)
combined_value ws c w =
    sum_of_products (modulus_word ws) (take (count_word ws) c) ws (value_start (size_word ws) (values_word ws) 0 + w)
    (row_length (size_word ws) (values_word ws))

-- it is v, in every word
abbrev pub CombinationGives : (ws c v : List ℕ) → Type 0
CombinationGives ws c v = (w : ℕ) → w < values_word ws → (combined_value ws c w).value ≡ get_or v w 0

-- ---- the row

pub record Takeable (ws f v c mix : List ℕ) : Type 0 where
  pub findable : Findable ws f c
  pub values_long : length v ≡ values_word ws
  pub values_below : Below (modulus_word ws) v
  pub mix_long : length mix ≡ size_word ws

-- whatever proof that the modulus is one
abbrev pub TakesRow : (ws f v mix : List ℕ) → Outcome (List ℕ × List ℕ) → Type 0
TakesRow ws f v mix r =
    (ok : IsModulus (modulus_word ws))
    → r
    ≡ laid_out (modulus_word ws) (size_word ws) (values_word ws)
    (take_accepted (modulus_word ws) ok (size_word ws) (values_word ws) (ledger_of ws) f v mix)
