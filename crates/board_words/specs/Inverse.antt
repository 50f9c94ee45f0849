-- What a board has: a pivot inverse D of its multiplier rows, with all of them in J. D is never in memory; what the calls make of
-- it is.
use Rattle.std.specs.Prelude.{◌≡◌, true, List, ℕ, ◌<◌}
use Rattle.algebra.specs.Matrix.{Matrix}
use Rattle.algebra.specs.Quasiinverse.{Marks, IsPivotInverse}
use Rattle.field.specs.Residue.{residues}
use Rattle.ledger.specs.Board.{IsBoard, modulus_word, size_word, count_word, multiplier_table}

-- the words are a board, and D is a pivot inverse of its rows with all of them in J
pub record BoardInverse (ws : List ℕ) (D : Matrix (residues (modulus_word ws))) : Type 0 where
  pub board : IsBoard ws
  pub I : Marks
  pub J : Marks
  pub inverse : IsPivotInverse (residues (modulus_word ws)) (count_word ws) (size_word ws) (multiplier_table ws) D I J
  pub all_rows : (y : ℕ) → y < count_word ws → J y ≡ true
