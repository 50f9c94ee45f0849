-- The rows of a ledger as words: how long they are, what stands at each place, and the entries read back from them. A place
-- among the rows is row i times the length of a row, plus a place in the row.
use mathlib.Core.Path.{◌≡◌, refl, sym, ap, ap₂, ◌∙◌}
use mathlib.Core.List.{List, [], ◌∷◌, ◌++◌, append_assoc}
use Prim.Native.Nat.{ℕ, zero, suc, ◌+◌, ◌*◌, ◌≤◌, ◌<◌, suc-le-suc}
use native.Mathlib.Nat.{zero-add, zero-mul, zero-lt-suc, not-suc-le-zero, le_of_suc-le-suc}
use native.Mathlib.Omega.{arith}
use lib.ListN.{length, get_or, take, drop, length-append, length-drop, get_or-append}
use lib.Seq.{take-add, take_at, drop_at, drop-drop, get_or-append-add}
use Rattle.ledger.specs.Ledger.{Entry, entry, no_entry}
use Rattle.ledger.specs.Board.{row_length, row_words, entries_in}

-- an entry has n multipliers and s values
abbrev pub WideEntry : (n s : ℕ) → Entry → Type 0
WideEntry n s e = (length e.multipliers ≡ n) × (length e.values ≡ s)

-- every entry has them
abbrev pub Wide : (n s : ℕ) → List Entry → Type 0
Wide n s es = (i : ℕ) → i < length es → WideEntry n s (get_or es i no_entry)

-- the words of one entry
abbrev pub entry_words : Entry → List ℕ
entry_words e = e.multipliers ++ e.values

-- ---- one entry

pub entry_length : (n s : ℕ) (e : Entry) → WideEntry n s e → length (entry_words e) ≡ row_length n s
unfolding row_length
entry_length n s e (l, m) = omega (arith, length-append e.multipliers e.values)

pub entry_multiplier : (n s : ℕ) (e : Entry) (j : ℕ) → WideEntry n s e → j < n → get_or (entry_words e) j 0 ≡ get_or e.multipliers j 0
entry_multiplier n s e j (l, m) h = get_or-append e.multipliers e.values 0 j (omega arith)

pub entry_value : (n s : ℕ) (e : Entry) (w : ℕ) → WideEntry n s e → get_or (entry_words e) (n + w) 0 ≡ get_or e.values w 0
entry_value n s e w (l, m) =
    ap (λ k. get_or (entry_words e) (k + w) 0) (sym l) ∙ get_or-append-add e.multipliers e.values w 0

-- ---- the rows of entries

wide_rest : (n s : ℕ) (e : Entry) (es : List Entry) → Wide n s (e ∷ es) → Wide n s es
wide_rest n s e es w i h = w (suc i) (suc-le-suc h)

pub rows_none : row_words [] ≡ []
unfolding row_words
rows_none = refl

pub rows_next : (e : Entry) (es : List Entry) → row_words (e ∷ es) ≡ entry_words e ++ row_words es
unfolding row_words
rows_next e es = refl

pub rows_length : (n s : ℕ) (es : List Entry) → Wide n s es → length (row_words es) ≡ length es * row_length n s
rows_length n s [] w = ap length rows_none ∙ sym (zero-mul (row_length n s))
rows_length n s (e ∷ es) w =
    ap length (rows_next e es)
    ∙ omega (
      arith,
      length-append (entry_words e) (row_words es),
      entry_length n s e (w 0 (zero-lt-suc (length es))),
      rows_length n s es (wide_rest n s e es w),
    )

-- what stands at place t of row i
pub rows_at : (n s : ℕ) (es : List Entry) → Wide n s es → (i t : ℕ) → i < length es → t < row_length n s
    → get_or (row_words es) (i * row_length n s + t) 0 ≡ get_or (entry_words (get_or es i no_entry)) t 0
rows_at n s [] w i t h l = absurd (not-suc-le-zero h)
rows_at n s (e ∷ es) w zero t h l =
    let own : length (entry_words e) ≡ row_length n s = entry_length n s e (w 0 h) in
    rw (rows_next, zero-mul, zero-add) (get_or-append (entry_words e) (row_words es) 0 t (omega arith))
rows_at n s (e ∷ es) w (suc i) t h l =
    let own : length (entry_words e) ≡ row_length n s = entry_length n s e (w 0 (zero-lt-suc (length es))) in
    let place : suc i * row_length n s + t ≡ length (entry_words e) + (i * row_length n s + t) = omega arith in
    ap₂ (λ ws q. get_or ws q 0) (rows_next e es) place
    ∙ get_or-append-add (entry_words e) (row_words es) (i * row_length n s + t) 0
    ∙ rows_at n s es (wide_rest n s e es w) i t (le_of_suc-le-suc h) l

-- ---- the entries that words hold

pub entries_count : (n s k : ℕ) (ws : List ℕ) → length (entries_in n s k ws) ≡ k
unfolding entries_in
entries_count n s zero ws = refl
entries_count n s (suc k) ws = ap suc (entries_count n s k (drop (row_length n s) ws))

-- the entry at the front of words
abbrev pub row_entry : (n s : ℕ) → List ℕ → Entry
row_entry n s ws = entry (take n ws) (take s (drop n ws))

-- entry i is row i
pub entries_at : (n s k : ℕ) (ws : List ℕ) (i : ℕ) → i < k
    → get_or (entries_in n s k ws) i no_entry ≡ row_entry n s (drop (i * row_length n s) ws)
unfolding entries_in
entries_at n s zero ws i h = absurd (not-suc-le-zero h)
entries_at n s (suc k) ws zero h = rw zero-mul
entries_at n s (suc k) ws (suc i) h =
    let start : row_length n s + i * row_length n s ≡ suc i * row_length n s = omega arith in
    entries_at n s k (drop (row_length n s) ws) i (le_of_suc-le-suc h)
    ∙ ap (row_entry n s) (drop-drop (i * row_length n s) (row_length n s) ws ∙ ap (λ q. drop q ws) start)

entries_none : (n s : ℕ) (ws : List ℕ) → entries_in n s zero ws ≡ []
unfolding entries_in
entries_none n s ws = refl

entries_next : (n s k : ℕ) (ws : List ℕ)
    → entries_in n s (suc k) ws ≡ row_entry n s ws ∷ entries_in n s k (drop (row_length n s) ws)
unfolding entries_in
entries_next n s k ws = refl

-- the words of the first entry that words hold are the first row
entry_front : (n s : ℕ) (ws : List ℕ) → entry_words (row_entry n s ws) ≡ take (row_length n s) ws
unfolding row_length
entry_front n s ws = sym (take-add n s ws)

-- the rows of the entries that words hold are the front of the words
pub entries_rows : (n s k : ℕ) (ws : List ℕ) → k * row_length n s ≤ length ws
    → row_words (entries_in n s k ws) ≡ take (k * row_length n s) ws
entries_rows n s zero ws h = rw (entries_none, zero-mul) rows_none
entries_rows n s (suc k) ws h =
    let place : row_length n s + k * row_length n s ≡ suc k * row_length n s = omega arith in
    ap row_words (entries_next n s k ws)
    ∙ rows_next (row_entry n s ws) (entries_in n s k (drop (row_length n s) ws))
    ∙ ap₂ (λ xs ys. xs ++ ys) (entry_front n s ws)
    (entries_rows n s k (drop (row_length n s) ws) (omega (arith, length-drop (row_length n s) ws)))
    ∙ sym (take-add (row_length n s) (k * row_length n s) ws)
    ∙ ap (λ q. take q ws) place

-- the entries come back from their rows, whatever follows
pub entries_back : (n s : ℕ) (es : List Entry) (ws : List ℕ) → Wide n s es → entries_in n s (length es) (row_words es ++ ws) ≡ es
entries_back n s [] ws w = entries_none n s (row_words [] ++ ws)
entries_back n s (e ∷ es) ws w =
    ap (entries_in n s (suc (length es))) front
    ∙ entries_next n s (length es) (entry_words e ++ rest)
    ∙ ap₂ (λ d ds. d ∷ ds) first
    (ap (entries_in n s (length es)) (drop_at (entry_words e) rest (row_length n s) (entry_length n s e own))
    ∙ entries_back n s es ws (wide_rest n s e es w))
  where
    own : WideEntry n s e
    own = w 0 (zero-lt-suc (length es))

    rest : List ℕ
    rest = row_words es ++ ws

    front : row_words (e ∷ es) ++ ws ≡ entry_words e ++ rest
    front = ap (λ xs. xs ++ ws) (rows_next e es) ∙ append_assoc (entry_words e) (row_words es) ws

    cut : entry_words e ++ rest ≡ e.multipliers ++ (e.values ++ rest)
    cut = append_assoc e.multipliers e.values rest

    first : row_entry n s (entry_words e ++ rest) ≡ e
    first =
        ap (row_entry n s) cut
        ∙ ap₂ (λ xs vs. entry xs vs) (take_at e.multipliers (e.values ++ rest) n own.0)
        (ap (take s) (drop_at e.multipliers (e.values ++ rest) n own.0) ∙ take_at e.values rest s own.1)
