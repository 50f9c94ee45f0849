-- How open, take and withdraw change the words of a board, place by place: for the contracts of the functions that write them.
-- `proofs/LayoutChanges.antt` shows that each determines the words, and that they are those of the ledger's step.
use Rattle.std.specs.Prelude.{◌≡◌, ◌≢◌, List, ℕ, suc, ◌+◌, ◌≤◌, ◌<◌, length, get_or}
use Rattle.ledger.specs.Board.{header_length, count_place, row_start, value_start, board_length, modulus_word, size_word, count_word, values_word}

-- a fresh board: the modulus, the size, the count 0, the words of a record, then zeros
pub record Fresh (p n s : ℕ) (ws : List ℕ) : Type 0 where
  pub long : length ws ≡ board_length n s
  pub modulus : modulus_word ws ≡ p
  pub size : size_word ws ≡ n
  pub count : count_word ws ≡ 0
  pub words : values_word ws ≡ s
  pub zero_at : (q : ℕ) → header_length ≤ q → get_or ws q 0 ≡ 0

-- behind k rows of n multipliers and s values the row xs, vs is written, and the count is one more
pub record Appended (n s k : ℕ) (xs vs before after : List ℕ) : Type 0 where
  pub long : length after ≡ length before
  pub count : count_word after ≡ suc k
  pub multiplier : (j : ℕ) → j < n → get_or after (row_start n s k + j) 0 ≡ get_or xs j 0
  pub value : (w : ℕ) → w < s → get_or after (value_start n s k + w) 0 ≡ get_or vs w 0
  pub front : (q : ℕ) → q ≢ count_place → q < row_start n s k → get_or after q 0 ≡ get_or before q 0
  pub behind : (q : ℕ) → row_start n s (suc k) ≤ q → get_or after q 0 ≡ get_or before q 0

-- of k rows the first m stay, the words of the others are 0, and the count is m
pub record Dropped (n s k m : ℕ) (before after : List ℕ) : Type 0 where
  pub long : length after ≡ length before
  pub count : count_word after ≡ m
  pub zero_at : (q : ℕ) → row_start n s m ≤ q → q < row_start n s k → get_or after q 0 ≡ 0
  pub front : (q : ℕ) → q ≢ count_place → q < row_start n s m → get_or after q 0 ≡ get_or before q 0
  pub behind : (q : ℕ) → row_start n s k ≤ q → get_or after q 0 ≡ get_or before q 0
