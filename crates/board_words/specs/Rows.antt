-- The multiplier rows of a board as a table that is read in place: row i begins where the board's row i does, and behind its n
-- multipliers stand the s values, which are passed over.
use Rattle.std.specs.Prelude.{ℕ}
use Rattle.matrix_echelon.specs.declared.Grid.{Grid}
use Rattle.ledger.specs.Board.{row_length, row_start}

-- k rows of n multipliers
abbrev pub rows_grid : (n s k : ℕ) → Grid
rows_grid n s k = record { start = row_start n s 0; down = row_length n s; along = 1; rows = k; columns = n }

-- the same turned: each row of the board is a column
abbrev pub turned_grid : (n s k : ℕ) → Grid
turned_grid n s k = record { start = row_start n s 0; down = 1; along = row_length n s; rows = n; columns = k }
