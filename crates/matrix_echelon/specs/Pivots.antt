-- Where the pivots of the worked rows lie.
use Rattle.std.specs.Prelude.{◌≡◌, List, ℕ, ◌≤◌, ◌<◌, length, get_or}
use Rattle.words.specs.Lengths.{longest_row, widest_row}

-- the pivots of r worked rows lie in rows of `width` numbers
pub record PivotsInside (width r : ℕ) (pivots : List ℕ) : Type 0 where
  pub narrow : width ≤ widest_row
  pub few : r ≤ longest_row
  pub long : length pivots ≡ longest_row
  pub inside : (t : ℕ) → t < r → get_or pivots t 0 < width
