-- The frames of a log in memory: what stands in row i of the log is frame i, so that an assignment meets a frame in a word exactly if
-- the row of the table applied to that word is the value in the log.
use mathlib.Core.Path.{◌≡◌, sym, ap, ◌∙◌}
use mathlib.Core.List.{List}
use Prim.Native.Nat.{ℕ, ◌+◌, ◌*◌, ◌<◌}
use native.Mathlib.Omega.{arith}
use lib.ListN.{length, get_or, drop}
use lib.Seq.{get_or-take, get_or-drop}
use Rattle.algebra.specs.Matrix.{Vector, sum, apply}
use Rattle.algebra.proofs.Sums.{sum_same}
use Rattle.field.specs.Residue.{reduce, residues, ◌⊗◌}
use Rattle.field.proofs.Views.{table_entry}
use Rattle.ledger.specs.Ledger.{Entry, no_entry, Assignment, MeetsWord}
use Rattle.ledger.specs.Board.{row_length}
use Rattle.ledger.proofs.LayoutRows.{entries_count, entries_at}
use Rattle.clash.specs.Calls.{frames_of, log_table}
use Rattle.clash.specs.Parts.{log_value}

module _ (p m n s : ℕ) (log : List ℕ) where
  -- there are m
  pub frames_many : length (frames_of m n s log) ≡ m
  frames_many = entries_count n s m log

  module _ (i : ℕ) (row : i < m) where
    abbrev frame : Entry
    frame = get_or (frames_of m n s log) i no_entry

    -- frame i's multipliers and values stand in row i
    pub frame_multiplier : (j : ℕ) → j < n → get_or frame.multipliers j 0 ≡ get_or log (i * (n + s) + j) 0
    unfolding row_length
    frame_multiplier j l =
        ap (λ e. get_or e.multipliers j 0) (entries_at n s m log i row)
        ∙ get_or-take n (drop (i * (n + s)) log) j 0 l
        ∙ get_or-drop (i * (n + s)) log j 0

    pub frame_value : (w : ℕ) → w < s → get_or frame.values w 0 ≡ get_or log (i * (n + s) + n + w) 0
    unfolding row_length
    frame_value w l =
        ap (λ e. get_or e.values w 0) (entries_at n s m log i row)
        ∙ get_or-take s (drop n (drop (i * (n + s)) log)) w 0 l
        ∙ get_or-drop n (drop (i * (n + s)) log) w 0
        ∙ get_or-drop (i * (n + s)) log (n + w) 0
        ∙ ap (λ q. get_or log q 0) (let e : i * (n + s) + (n + w) ≡ i * (n + s) + n + w = omega arith in e)

    -- a number of row i of the table
    pub table_number : (j : ℕ) → j < n → log_table p m n s log i j ≡ reduce p (get_or log (i * (n + s) + j) 0)
    table_number j l =
        table_entry p log 0 (n + s) m n i j row l
        ∙ ap (λ q. reduce p (get_or log q 0)) (let e : 0 + i * (n + s) + j ≡ i * (n + s) + j = omega arith in e)

    -- the row applied to a column is the sum that meeting names
    row_applied : (x : Vector (residues p))
        → apply (residues p) n (log_table p m n s log) x i
        ≡ sum (residues p) n (λ j. reduce p (get_or frame.multipliers j 0) ⊗ x j)
    unfolding apply
    row_applied x =
        sum_same (residues p) n (λ j. log_table p m n s log i j ⊗ x j) (λ j. reduce p (get_or frame.multipliers j 0) ⊗ x j)
        (λ j l. ap (λ a. a ⊗ x j) (table_number j l ∙ ap (reduce p) (sym (frame_multiplier j l))))

    module _ (x : Assignment p) (w : ℕ) (word : w < s) where
      -- the frame is met in word w exactly if the row gives its value
      pub met_solves : MeetsWord p n frame x w → apply (residues p) n (log_table p m n s log) (λ t. x t w) i ≡ log_value p n s log i w
      met_solves h = row_applied (λ t. x t w) ∙ h ∙ ap (reduce p) (frame_value w word)

      pub solves_met : apply (residues p) n (log_table p m n s log) (λ t. x t w) i ≡ log_value p n s log i w → MeetsWord p n frame x w
      solves_met h = sym (row_applied (λ t. x t w)) ∙ h ∙ ap (reduce p) (sym (frame_value w word))
