-- Document 02, #109: what clash answers and leaves in lent memory, for every input. "From a lent log of 0 to 64 rows (more is 2), each n
-- multipliers (n of 0 is 2), then s values, select positions such that the chosen frames have no common assignment and leaving out any
-- single one gives them one." That what is defined here does so is shown in proofs/, for `ClashDone` of Promises.antt.
use Rattle.std.specs.Prelude.{true, false, List, ℕ, suc, ◌+◌, ◌*◌, eqb, get_or, replicate}
use Rattle.algebra.specs.Choice.{choose, pick, first_from}
use Rattle.algebra.specs.Matrix.{Vector, Matrix, product}
use Rattle.algebra.specs.Quasiinverse.{Marks, count}
use Rattle.algebra.specs.Chosen.{chosen_rows}
use Rattle.checks.specs.declared.Refusal.{Refusal}
use Rattle.checks.specs.declared.Refusal.TheVariants.{Size, Words, Length, Number}
use Rattle.checks.specs.Told.{results}
use Rattle.checks.specs.Outcome.{Outcome, outcome, untouched}
use Rattle.checks.specs.InOrder.{Checks, passed, ◌else◌, ◌⨾◌, then_checks, in_order}
use Rattle.checks.specs.Prime.{IsModulus}
use Rattle.checks.specs.Sizes.{table_sizes}
use Rattle.checks.specs.Decide.{frame_size?, word_count?, long?}
use Rattle.words.specs.Decide.{below?}
use Rattle.field.specs.Residue.{residues}
use Rattle.field.specs.View.{table}
use Rattle.field.specs.Written.{marks_of}
use Rattle.ledger.specs.Ledger.{Entry, no_entry, Assignment, Meets}
use Rattle.ledger.specs.Board.{entries_in}
use Rattle.ledger.specs.Decide.{combined?}
use Rattle.clash.specs.Decide.{agree?, given_inverse, equal?}

-- the frames of a log, as the ledger has frames: row i is n multipliers and s values, from i × (n + s) on
abbrev pub frames_of : (m n s : ℕ) → List ℕ → List Entry
frames_of m n s log = entries_in n s m log

-- those of the frames that are chosen have a common assignment: some assignment meets each of them, in all s values
abbrev pub Agree : (p n s : ℕ) → List Entry → (Chosen : ℕ → Type 0) → Type 0
Agree p n s es Chosen = (x : Assignment p) × ((i : ℕ) → Chosen i → Meets p n s (get_or es i no_entry) x)

-- their multiplier rows, as a table of m rows and n columns
abbrev pub log_table : (p m n s : ℕ) → List ℕ → Matrix (residues p)
log_table p m n s log = table p log 0 (n + s) m n

module _ (p : ℕ) (ok : IsModulus p) (m n s : ℕ) (log : List ℕ) where
  -- "the multiplier rows' J": those that are no combination of the rows before them; and D of the rows
  abbrev pub log_rows : Marks
  log_rows = chosen_rows (residues p) (combined? p ok) m n (log_table p m n s log)

  abbrev pub log_inverse : Matrix (residues p)
  log_inverse = (given_inverse p ok n s m log).D

  -- "the first frame contradicting the earlier ones": the first that has no common assignment with all frames before it; or m
  unfoldable pub contradiction : ℕ
  contradiction = first_from (λ y. pick (agree? p ok n s (frames_of m n s log) (suc y)) false true) 0 m

  -- (row y of the multipliers) times D: as D is zero outside J, the multipliers by which row y is a combination of rows of J
  unfoldable pub combination_of : (y : ℕ) → Vector (residues p)
  combination_of = product (residues p) n (log_table p m n s log) log_inverse

  -- "The clash taken is that of the first frame contradicting the earlier ones, with the earlier ones in the multiplier rows' J that it
  -- combines from."
  unfoldable pub clashing : Marks
  clashing t = choose (eqb t contradiction) true (pick (equal? (combination_of contradiction t) (residues p).zero) false true)

  -- "Lent is one mark a row, 1 if selected, else 0. Without a clash all are 0 and the answer is 0; otherwise the number selected."
  unfoldable pub clash_of : Outcome (List ℕ)
  clash_of =
      pick (agree? p ok n s (frames_of m n s log) m)
      (outcome (results 0) (replicate m 0))
      (outcome (results (count m clashing)) (marks_of m clashing))

-- "Order: 1, 2, 12, 3, 4": 1, and 2 for m and n as of a table; 2 for an n of 0; 12; 3 for the log and the marks; 4 for the log
abbrev pub clash_checks : (p m n s : ℕ) (log marks : List ℕ) → Checks Refusal
clash_checks p m n s log marks =
    then_checks (table_sizes p m n)
    (λ _.
    frame_size? n else Size
    ⨾ word_count? s else Words
    ⨾ long? log (m * (n + s)) else Length
    ⨾ long? marks m else Length
    ⨾ below? p log else Number
    ⨾ passed)

-- the number of frames that are selected, with the marks
unfoldable pub clash_call : (p m n s : ℕ) (log marks : List ℕ) → Outcome (List ℕ)
clash_call p m n s log marks =
    in_order (clash_checks p m n s log marks) (λ hs. clash_of p hs.0 m n s log) (untouched marks)
