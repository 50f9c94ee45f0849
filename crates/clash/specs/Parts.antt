-- What the parts of clash ask and leave: leaves' contracts over the log in memory, not document 02's.
use Rattle.std.specs.Prelude.{◌≡◌, List, ℕ, zero, suc, ◌+◌, ◌*◌, ◌≤◌, ◌<◌, length, get_or}
use Rattle.algebra.specs.Matrix.{sum}
use Rattle.checks.specs.Largest.{largest, most_words, FrameSize, WordCount}
use Rattle.checks.specs.Prime.{IsModulus}
use Rattle.words.specs.Lengths.{longest_row, widest_table}
use Rattle.words.specs.Words.{Below}
use Rattle.field.specs.Residue.{Residue, residues, reduce, ◌⊗◌}
use Rattle.matrix_echelon.specs.declared.Grid.{Grid}

-- a log of m frames that has passed the checks
pub record Logged (p m n s : ℕ) (log : List ℕ) : Type 0 where
  pub is_modulus : IsModulus p
  pub m_most : m ≤ largest
  pub n_size : FrameSize n
  pub s_count : WordCount s
  pub log_long : length log ≡ m * (n + s)
  pub log_below : Below p log

-- the multipliers of its frames, as a table that is read in place, and turned
abbrev pub rows_grid : (m n s : ℕ) → Grid
rows_grid m n s = record { start = 0; down = n + s; along = 1; rows = m; columns = n }

abbrev pub turned_grid : (m n s : ℕ) → Grid
turned_grid m n s = record { start = 0; down = 1; along = n + s; rows = n; columns = m }

-- the value of word w in row i
abbrev pub log_value : (p n s : ℕ) → List ℕ → (i w : ℕ) → Residue p
log_value p n s log i w = reduce p (get_or log (i * (n + s) + n + w) 0)

-- ---- the words of D V

-- the worked rows e, of n numbers and s carried ones, and for each column the number of its worked row plus 1, or 0
pub record WorkedRows (n s : ℕ) (at e : List ℕ) : Type 0 where
  pub n_most : n ≤ largest
  pub s_most : s ≤ most_words
  pub at_long : length at ≡ longest_row
  pub at_most : (j : ℕ) → get_or at j 0 ≤ longest_row
  pub e_long : length e ≡ widest_table

-- what a row of e, counted from 1, carries for word w; 0 for row 0
abbrev pub carried_number : (n s w row : ℕ) → List ℕ → ℕ
carried_number n s w zero e = 0
carried_number n s w (suc t) e = get_or e (t * (n + s) + (n + w)) 0

-- word w of D V at j
abbrev pub word_number : (n s : ℕ) (at e : List ℕ) (w j : ℕ) → ℕ
word_number n s at e w j = carried_number n s w (get_or at j 0) e

-- a column that holds them
pub record WordRead (n s w : ℕ) (at e x : List ℕ) : Type 0 where
  pub long : length x ≡ longest_row
  pub each : (j : ℕ) → j < n → get_or x j 0 ≡ word_number n s at e w j

-- ---- the first frame that is not met

-- the sum of the products of frame i's multipliers with the numbers f
abbrev pub frame_sum : (p n s : ℕ) → List ℕ → (ℕ → ℕ) → ℕ → Residue p
frame_sum p n s log f i = sum (residues p) n (λ j. reduce p (get_or log (i * (n + s) + j) 0) ⊗ reduce p (f j))

-- it is the frame's value of word w
abbrev pub IsMet : (p n s w : ℕ) → List ℕ → (ℕ → ℕ) → ℕ → Type 0
IsMet p n s w log f i = (frame_sum p n s log f i).value ≡ get_or log (i * (n + s) + n + w) 0

-- k frames of a log that can be read, of which word w is looked at
pub record WordLooked (p k n s w : ℕ) (log : List ℕ) : Type 0 where
  pub positive : 0 < p
  pub k_most : k ≤ largest
  pub n_most : n ≤ largest
  pub s_most : s ≤ most_words
  pub w_word : w < s
  pub inside : k * (n + s) ≤ length log

-- r is the first of k frames whose word w is not met, or k
pub record FirstOther (p k n s w : ℕ) (log : List ℕ) (f : ℕ → ℕ) (r : ℕ) : Type 0 where
  pub within : r ≤ k
  pub before : (i : ℕ) → i < r → IsMet p n s w log f i
  pub differs : r < k → IsMet p n s w log f r → ⊥

-- r is the first of m frames that is not met in one of u words, or m; g has the numbers for each word
pub record FirstByWords (p m n s u : ℕ) (log : List ℕ) (g : ℕ → ℕ → ℕ) (r : ℕ) : Type 0 where
  pub within : r ≤ m
  pub before : (i : ℕ) → i < r → (w : ℕ) → w < u → IsMet p n s w log (g w) i
  pub differs : r < m → (w : ℕ) × ((w < u) × (IsMet p n s w log (g w) r → ⊥))
