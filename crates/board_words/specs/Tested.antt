-- What the parts of the board test tell: the leaves' contracts, not document 01's. Each answers whether some clauses of
-- `IsBoard` hold, in their order.
use Rattle.std.specs.Prelude.{◌≡◌, List, ℕ, ◌≤◌, ◌<◌, length, get_or}
use Rattle.checks.specs.Prime.{IsModulus}
use Rattle.checks.specs.Largest.{FrameSize, WordCount}
use Rattle.ledger.specs.Board.{header_length, board_length, modulus_word, size_word, count_word, values_word, rows_end}

-- the clauses up to k ≤ n
pub record HasHeader (ws : List ℕ) : Type 0 where
  pub four : header_length ≤ length ws
  pub prime : IsModulus (modulus_word ws)
  pub size : FrameSize (size_word ws)
  pub words : WordCount (values_word ws)
  pub long : length ws ≡ board_length (size_word ws) (values_word ws)
  pub count : count_word ws ≤ size_word ws

-- entries below p, and zeros behind the rows
pub record Filled (ws : List ℕ) : Type 0 where
  pub below : (q : ℕ) → header_length ≤ q → q < rows_end ws → get_or ws q 0 < modulus_word ws
  pub zeros : (q : ℕ) → rows_end ws ≤ q → q < length ws → get_or ws q 0 ≡ 0

-- all clauses but that the rows are independent
pub record LaidOut (ws : List ℕ) : Type 0 where
  pub header : HasHeader ws
  pub filled : Filled ws
