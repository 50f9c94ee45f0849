-- One entry more behind others: how many there are then, which they are, and what holds of all of them.
use mathlib.Core.Path.{◌≡◌, ◌∙◌}
use mathlib.Core.Logic.{⊎_elim}
use mathlib.Core.List.{List, [], ◌∷◌, ◌++◌}
use Prim.Native.Nat.{ℕ, suc, ◌<◌}
use native.Mathlib.Nat.{le_of_suc-le-suc, eq-or-lt_of_le}
use native.Mathlib.Numerals.{add-one}
use lib.ListN.{length, get_or, length-append, get_or-append}
use lib.Seq.{get_or-append_seam}
use Rattle.ledger.specs.Ledger.{Entry, no_entry}

module _ (es : List Entry) (e : Entry) where
  pub length_more : length (es ++ (e ∷ [])) ≡ suc (length es)
  length_more = length-append es (e ∷ []) ∙ add-one (length es)

  pub entry_before : (i : ℕ) → i < length es → get_or (es ++ (e ∷ [])) i no_entry ≡ get_or es i no_entry
  entry_before i h = get_or-append es (e ∷ []) no_entry i h

  pub entry_last : get_or (es ++ (e ∷ [])) (length es) no_entry ≡ e
  entry_last = get_or-append_seam es e [] no_entry

  -- what holds of the entries and of the last one holds of all
  pub each_more : (Q : Entry → Type 0) → ((i : ℕ) → i < length es → Q (get_or es i no_entry)) → Q e
      → (i : ℕ) → i < length (es ++ (e ∷ [])) → Q (get_or (es ++ (e ∷ [])) i no_entry)
  each_more Q h q i l = ⊎_elim last (λ b. rw (entry_before i b) (h i b)) (eq-or-lt_of_le (le_of_suc-le-suc (rw length_more at l)))
    where
      last : i ≡ length es → Q (get_or (es ++ (e ∷ [])) i no_entry)
      last d = rw (d, entry_last) q
