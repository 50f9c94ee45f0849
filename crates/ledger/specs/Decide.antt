-- What the ledger and the board test ask is decided; the types say what, and nothing computes with it. No other file of these
-- definitions takes anything from proofs.
use Rattle.std.specs.Prelude.{◌≡◌, List, ℕ, ◌≤◌, ◌<◌, length, get_or}
use Rattle.std.proofs.Math.Decide.{dec_le, dec_lt, ℕ_discrete}
use Rattle.algebra.specs.Matrix.{Vector, Matrix, sum, apply}
use Rattle.algebra.specs.Span.{IsCombination, Independent}
use Rattle.algebra.proofs.Choice.{all_below?}
use Rattle.algebra.proofs.Decide.{combination?, independent?}
use Rattle.algebra.proofs.Settled.{agree_row?}
use Rattle.checks.specs.Prime.{IsModulus}
use Rattle.checks.specs.Decide.{modulus?}
use Rattle.field.specs.Residue.{reduce, residues, ◌⊗◌}
use Rattle.field.proofs.Field.{residues_field, residue_equal?}
use Rattle.checks.specs.Decide.{frame_size?, word_count?}
use Rattle.checks.specs.Largest.{FrameSize, WordCount}
use Rattle.ledger.specs.Ledger.{Entry, InSpan, GivesValues, Agreed, multiplier_rows, value_table}
use Rattle.ledger.specs.Board.{IsBoard, header_length, board_length, modulus_word, size_word, count_word, values_word, rows_end, multiplier_table}

-- ---- the ledger's questions

module _ (p : ℕ) (ok : IsModulus p) where
  -- a vector is a combination of the first k rows
  abbrev pub combined? : (k n : ℕ) (X : Matrix (residues p)) (v : Vector (residues p)) → Dec (IsCombination (residues p) k n X v)
  combined? = combination? (residues p) (residues_field p ok.prime)

  pub in_span? : (n : ℕ) (es : List Entry) (xs : List ℕ) → Dec (InSpan p n es xs)
  in_span? n es xs = combined? (length es) n (multiplier_rows p es) (λ j. reduce p (get_or xs j 0))

  pub agreed? : (n s : ℕ) (es : List Entry) (j : ℕ) → Dec (Agreed p n s es j)
  unfolding apply multiplier_rows value_table
  agreed? n s es j = agree_row? (residues p) (residues_field p ok.prime) (length es) n s (multiplier_rows p es) (value_table p es) j

pub gives_values? : (p s : ℕ) (es : List Entry) (u : Vector (residues p)) (vs : List ℕ) → Dec (GivesValues p s es u vs)
gives_values? p s es u vs =
    all_below? (λ w. sum (residues p) (length es) (λ t. u t ⊗ value_table p es t w) ≡ reduce p (get_or vs w 0))
    (λ w. residue_equal? (sum (residues p) (length es) (λ t. u t ⊗ value_table p es t w)) (reduce p (get_or vs w 0))) s

-- no more entries are dropped than stand
pub within? : (t k : ℕ) → Dec (t ≤ k)
within? = dec_le

-- ---- the board test, clause by clause

implied? : {A B : Type 0} → Dec A → Dec B → Dec (A → B)
implied? (no f) d = yes (λ h. absurd (f h))
implied? (yes h) (yes e) = yes (λ _. e)
implied? (yes h) (no f) = no (λ g. f (g h))

-- the entries from the header on are below p
abbrev EntriesBelow : List ℕ → Type 0
EntriesBelow ws = (q : ℕ) → q < rows_end ws → header_length ≤ q → get_or ws q 0 < modulus_word ws

below? : (ws : List ℕ) → Dec (EntriesBelow ws)
below? ws =
    all_below? (λ q. header_length ≤ q → get_or ws q 0 < modulus_word ws)
    (λ q. implied? (dec_le header_length q) (dec_lt (get_or ws q 0) (modulus_word ws))) (rows_end ws)

-- the words after the rows are 0
abbrev ZerosBehind : List ℕ → Type 0
ZerosBehind ws = (q : ℕ) → q < length ws → rows_end ws ≤ q → get_or ws q 0 ≡ 0

zeros? : (ws : List ℕ) → Dec (ZerosBehind ws)
zeros? ws =
    all_below? (λ q. rows_end ws ≤ q → get_or ws q 0 ≡ 0) (λ q. implied? (dec_le (rows_end ws) q) (ℕ_discrete (get_or ws q 0) 0)) (length ws)

pub board? : (ws : List ℕ) → Dec (IsBoard ws)
board? ws =
    go (dec_le header_length (length ws)) (modulus? (modulus_word ws)) (frame_size? (size_word ws)) (word_count? (values_word ws))
    (ℕ_discrete (length ws) (board_length (size_word ws) (values_word ws))) (dec_le (count_word ws) (size_word ws)) (below? ws) (zeros? ws)
  where
    last : header_length ≤ length ws → IsModulus (modulus_word ws) → FrameSize (size_word ws) → WordCount (values_word ws)
        → length ws ≡ board_length (size_word ws) (values_word ws)
        → count_word ws ≤ size_word ws → EntriesBelow ws → ZerosBehind ws
        → Dec (Independent (residues (modulus_word ws)) (count_word ws) (size_word ws) (multiplier_table ws)) → Dec (IsBoard ws)
    last t m s v l c b z (yes i) =
        yes
        (record {
          four = t;
          prime = m;
          size = s;
          words = v;
          long = l;
          count = c;
          below = λ q h g. b q g h;
          independent = i;
          zeros = λ q h g. z q g h;
        })
    last t m s v l c b z (no f) = no (λ w. f w.independent)

    go : Dec (header_length ≤ length ws) → Dec (IsModulus (modulus_word ws)) → Dec (FrameSize (size_word ws)) → Dec (WordCount (values_word ws))
        → Dec (length ws ≡ board_length (size_word ws) (values_word ws)) → Dec (count_word ws ≤ size_word ws) → Dec (EntriesBelow ws) → Dec (ZerosBehind ws)
        → Dec (IsBoard ws)
    go (no f) m s v l c b z = no (λ w. f w.four)
    go (yes t) (no f) s v l c b z = no (λ w. f w.prime)
    go (yes t) (yes m) (no f) v l c b z = no (λ w. f w.size)
    go (yes t) (yes m) (yes s) (no f) l c b z = no (λ w. f w.words)
    go (yes t) (yes m) (yes s) (yes v) (no f) c b z = no (λ w. f w.long)
    go (yes t) (yes m) (yes s) (yes v) (yes l) (no f) b z = no (λ w. f w.count)
    go (yes t) (yes m) (yes s) (yes v) (yes l) (yes c) (no f) z = no (λ w. f (λ q g h. w.below q h g))
    go (yes t) (yes m) (yes s) (yes v) (yes l) (yes c) (yes b) (no f) = no (λ w. f (λ q g h. w.zeros q h g))
    go (yes t) (yes m) (yes s) (yes v) (yes l) (yes c) (yes b) (yes z) =
        last t m s v l c b z
        (independent? (residues (modulus_word ws)) (residues_field (modulus_word ws) m.prime) (count_word ws) (size_word ws)
        (multiplier_table ws))
