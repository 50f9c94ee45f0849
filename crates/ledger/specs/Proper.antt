-- What a history keeps of the ledger, whatever calls it makes.
use Rattle.std.specs.Prelude.{◌≡◌, List, ℕ, ◌≤◌, ◌<◌, length, get_or}
use Rattle.algebra.specs.Span.{Independent}
use Rattle.field.specs.Residue.{residues}
use Rattle.ledger.specs.Ledger.{Entry, no_entry, multiplier_rows}

-- a ledger that a history can reach: at most n entries, each of n multipliers and s values below p, the rows independent
pub record Proper (p n s : ℕ) (es : List Entry) : Type 0 where
  pub fits : length es ≤ n
  pub wide : (i : ℕ) → i < length es → length (get_or es i no_entry).multipliers ≡ n
  pub below : (i j : ℕ) → i < length es → j < n → get_or (get_or es i no_entry).multipliers j 0 < p
  pub values_long : (i : ℕ) → i < length es → length (get_or es i no_entry).values ≡ s
  pub value_below : (i w : ℕ) → i < length es → w < s → get_or (get_or es i no_entry).values w 0 < p
  pub independent : Independent (residues p) (length es) n (multiplier_rows p es)
