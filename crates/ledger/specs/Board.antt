-- 01: "A board is 3 + n × (n + 1) lent u32 words: p, n, the count k, then k rows of n multipliers and a value, then zeros." 02, #103: "a
-- row has n + s numbers, and the fourth header word is s, so a board has 4 + n × (n + s) words."
use Rattle.std.specs.Prelude.{◌≡◌, List, [], ◌∷◌, ◌++◌, ℕ, zero, suc, ◌+◌, ◌*◌, ◌-◌, ◌≤◌, ◌<◌, length, get_or, take, drop, replicate}
use Rattle.algebra.specs.Matrix.{Matrix}
use Rattle.algebra.specs.Span.{Independent}
use Rattle.checks.specs.Prime.{IsModulus}
use Rattle.field.specs.Residue.{residues}
use Rattle.field.specs.View.{table}
use Rattle.checks.specs.Largest.{FrameSize, WordCount}
use Rattle.ledger.specs.Ledger.{Entry, entry, Ledger, ledger}

-- ---- the layout of a board for n records of s words: the one place where it stands. `proofs/LayoutPlaces.antt` has its laws, and nobody
-- outside this crate opens these definitions

-- the header, and where its words stand
abbrev pub header_length : ℕ
header_length = 4

abbrev pub modulus_place : ℕ
modulus_place = 0

abbrev pub size_place : ℕ
size_place = 1

abbrev pub count_place : ℕ
count_place = 2

abbrev pub values_place : ℕ
values_place = 3

-- a row, where row i begins, and where its values begin, behind its multipliers
unfoldable pub row_length : (n s : ℕ) → ℕ
row_length n s = n + s

unfoldable pub row_start : (n s i : ℕ) → ℕ
row_start n s i = header_length + i * row_length n s

unfoldable pub value_start : (n s i : ℕ) → ℕ
value_start n s i = row_start n s i + n

-- the whole board, and the largest one
unfoldable pub board_length : (n s : ℕ) → ℕ
board_length n s = header_length + n * row_length n s

abbrev pub largest_board : ℕ
largest_board = 5124

-- ---- boards

-- the words p, n, k and s
abbrev pub modulus_word : List ℕ → ℕ
modulus_word ws = get_or ws modulus_place 0

abbrev pub size_word : List ℕ → ℕ
size_word ws = get_or ws size_place 0

abbrev pub count_word : List ℕ → ℕ
count_word ws = get_or ws count_place 0

abbrev pub values_word : List ℕ → ℕ
values_word ws = get_or ws values_place 0

-- where the rows of words end, by their own count
abbrev pub rows_end : List ℕ → ℕ
rows_end ws = row_start (size_word ws) (values_word ws) (count_word ws)

-- the multiplier rows of words as a matrix of residues
abbrev pub multiplier_table : (ws : List ℕ) → Matrix (residues (modulus_word ws))
multiplier_table ws = table (modulus_word ws) ws header_length (row_length (size_word ws) (values_word ws)) (count_word ws) (size_word ws)

-- "It is a board exactly if there are 3 words at least, p is a prime in range, n is 1 to 64, the length is the one just
-- given, k ≤ n, entries are below p, the k multiplier rows are independent, and all later words are 0." By 02, #103 there are 4 words at
-- least, and s is 1 to 16: "12, s outside 1 to 16 ..; in a board's header it is 11".
pub record IsBoard (ws : List ℕ) : Type 0 where
  pub four : header_length ≤ length ws
  pub prime : IsModulus (modulus_word ws)
  pub size : FrameSize (size_word ws)
  pub words : WordCount (values_word ws)
  pub long : length ws ≡ board_length (size_word ws) (values_word ws)
  pub count : count_word ws ≤ size_word ws
  pub below : (q : ℕ) → header_length ≤ q → q < rows_end ws → get_or ws q 0 < modulus_word ws
  pub independent : Independent (residues (modulus_word ws)) (count_word ws) (size_word ws) (multiplier_table ws)
  pub zeros : (q : ℕ) → rows_end ws ≤ q → q < length ws → get_or ws q 0 ≡ 0

-- the words that a ledger is laid out as: the header, the entries as rows, then zeros
unfoldable pub row_words : List Entry → List ℕ
row_words [] = []
row_words (e ∷ es) = e.multipliers ++ e.values ++ row_words es

unfoldable pub layout : (p n s : ℕ) → List Entry → List ℕ
layout p n s es =
    p ∷ n ∷ length es ∷ s ∷ (row_words es ++ replicate (board_length n s - row_start n s (length es)) 0)

-- the entries that words hold, k of them, each n multipliers and s values
unfoldable pub entries_in : (n s k : ℕ) → List ℕ → List Entry
entries_in n s zero ws = []
entries_in n s (suc k) ws = entry (take n ws) (take s (drop n ws)) ∷ entries_in n s k (drop (row_length n s) ws)

unfoldable pub entries_of : List ℕ → List Entry
entries_of ws = entries_in (size_word ws) (values_word ws) (count_word ws) (drop header_length ws)

-- the words of a ledger, and the ledger that words hold
abbrev pub board_of : (p n s : ℕ) → Ledger → List ℕ
board_of p n s l = layout p n s l.entries

abbrev pub ledger_of : List ℕ → Ledger
ledger_of ws = ledger (entries_of ws)
