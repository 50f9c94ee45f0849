-- What the definition of clash takes as decided or given: whether the first k frames of a log have a common assignment, whether residues
-- are equal, and D of the multiplier rows. The types say what, and nothing computes with it. No other file of these definitions takes
-- anything from proofs.
use Rattle.std.specs.Prelude.{◌≡◌, List, ℕ, ◌+◌, ◌<◌, get_or}
use Rattle.algebra.specs.Matrix.{apply}
use Rattle.algebra.specs.Chosen.{Inverse}
use Rattle.algebra.proofs.Settled.{solvable?}
use Rattle.algebra.proofs.Marked.{inverse_of_lem}
use Rattle.checks.specs.Prime.{IsModulus}
use Rattle.field.specs.Residue.{Residue, residues}
use Rattle.field.specs.View.{table}
use Rattle.field.proofs.Field.{residues_field, residue_equal?}
use Rattle.field.proofs.Views.{table_sized}
use Rattle.ledger.specs.Ledger.{Entry, no_entry, Assignment, Meets, multiplier_rows, value_table}
use Rattle.ledger.specs.Decide.{combined?}

module _ (p : ℕ) (ok : IsModulus p) (n s : ℕ) where
  -- some assignment meets each of the first k frames
  pub agree? : (es : List Entry) (k : ℕ) → Dec ((x : Assignment p) × ((i : ℕ) → i < k → Meets p n s (get_or es i no_entry) x))
  unfolding apply multiplier_rows value_table
  agree? es k = solvable? (residues p) (residues_field p ok.prime) k n s (multiplier_rows p es) (value_table p es)

  -- D of the multipliers of the m rows of a log
  pub given_inverse : (m : ℕ) (log : List ℕ) → Inverse (residues p) (combined? p ok) m n (table p log 0 (n + s) m n)
  given_inverse m log = inverse_of_lem (residues p) (residues_field p ok.prime) (combined? p ok) (table_sized p log 0 (n + s) m n)

pub equal? : {p : ℕ} (x y : Residue p) → Dec (x ≡ y)
equal? x y = residue_equal? x y
