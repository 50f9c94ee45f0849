-- "A mark stays one per record" (02, #103), and one is enough. In every list of calls, a show that is not refused marks record j exactly if
-- word w of the record, whichever it is, is settled when it is looked at alone; and exactly if the unit row of j is a combination of the
-- multipliers of the frames then standing. So no word that the frames settle is withheld, and none that they leave open is given.
use mathlib.Core.Path.{◌≡◌}
use mathlib.Core.Logic.{◌↔◌}
use mathlib.Core.List.{List}
use Prim.Native.Nat.{ℕ, ◌<◌}
use lib.IntN.{ℤ}
use lib.ListN.{length, get_or}
use Rattle.algebra.specs.Matrix.{unit}
use Rattle.algebra.specs.Span.{IsCombination}
use Rattle.checks.specs.Prime.{IsModulus}
use Rattle.checks.specs.Refusal.{IsRefusal}
use Rattle.field.specs.Residue.{residues}
use Rattle.ledger.specs.Ledger.{Entry, Settled, SettledWord, multiplier_rows}
use Rattle.ledger.specs.Calls.{open_call}
use Rattle.ledger.specs.History.{Call}
use Rattle.ledger.specs.Turns.{Turn}
use Rattle.ledger.specs.Demand3.{standing, reply_at}
use Rattle.ledger.proofs.Histories.{open_accepted}
use Rattle.ledger.proofs.Demand3.{demand_3, standing_proper}
use Rattle.ledger.proofs.SettledWords.{settled_by_multipliers, word_settled_exactly}

module _ (p : ℕ) (ok : IsModulus p) (n s : ℕ) (ws : List ℕ) (done : (open_call p n s ws).told.number ≡ 0) where
  -- the show of a turn, with whatever low end, is not refused
  abbrev ShowsAt : {cs : List Call} → Turn cs → (low : ℕ) (marks : List ℕ) (numbers : List ℤ) → Type 0
  ShowsAt t low marks numbers = (t.call ≡ Call.show low marks numbers) × (IsRefusal (reply_at p n s ws t).told.number → ⊥)

  abbrev Marked : {cs : List Call} → Turn cs → ℕ → Type 0
  Marked t j = get_or (reply_at p n s ws t).words j 0 ≡ 1

  -- the frames that stand when the turn's call comes
  abbrev held_at : {cs : List Call} → Turn cs → List Entry
  held_at t = standing p ok n s t.before

  marked_settled : {cs : List Call} (t : Turn cs) (low : ℕ) (marks : List ℕ) (numbers : List ℤ) → ShowsAt t low marks numbers
      → (j : ℕ) → j < n → Marked t j ↔ Settled p n s (held_at t) j
  marked_settled {cs} t low marks numbers (e, f) j l = ((demand_3 p ok n s ws done cs).shows t low marks numbers e f).marked_exactly j l

  pub marked_words : {cs : List Call} (t : Turn cs) (low : ℕ) (marks : List ℕ) (numbers : List ℤ) → ShowsAt t low marks numbers
      → (j w : ℕ) → j < n → w < s → Marked t j ↔ SettledWord p n (held_at t) w j
  marked_words t low marks numbers h j w l b =
      let m = marked_settled t low marks numbers h j l in
      let a = word_settled_exactly p ok n s (held_at t) (standing_proper p ok n s ws done t.before) (open_accepted p n s ws done).words.0 j l w b in
      (λ x. a.1 (m.0 x), λ x. m.1 (a.0 x))

  pub marked_by_multipliers : {cs : List Call} (t : Turn cs) (low : ℕ) (marks : List ℕ) (numbers : List ℤ) → ShowsAt t low marks numbers
      → (j : ℕ) → j < n
      → Marked t j ↔ IsCombination (residues p) (length (held_at t)) n (multiplier_rows p (held_at t)) (unit (residues p) j)
  marked_by_multipliers t low marks numbers h j l =
      let m = marked_settled t low marks numbers h j l in
      let a = settled_by_multipliers p ok n s (held_at t) (standing_proper p ok n s ws done t.before) (open_accepted p n s ws done).words.0 j l in
      (λ x. a.0 (m.0 x), λ x. m.1 (a.1 x))
