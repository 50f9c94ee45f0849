-- What show is to give of each record, and what settles all records. 01: "Missing = n - k: every list of further calls after which
-- all records are settled has at least n - k takes answered new, and after some n - k takes, all answered new, all are settled."
use Rattle.std.specs.Prelude.{◌≡◌, ℕ, ◌<◌, eqb, ℤ, pos, length, replicate}
use mathlib.Core.List.{List, Memᴰ}
use Rattle.algebra.specs.Choice.{choose}
use Rattle.field.specs.Written.{tabulate}
use Rattle.signed.specs.Reading.{reading}
use Rattle.frame.specs.Format.{frame_of}
use Rattle.ledger.specs.Ledger.{Entry, Ledger, Assignment, MeetsAll, Settled}
use Rattle.ledger.specs.History.{Call, take, Reply, After}
use Rattle.ledger.specs.Heard.{news}

-- record j is marked 1 and the signed readings of its s words with the low end given exactly if all assignments meeting the ledger's
-- frames agree at j; otherwise 0, and 0 for each word. The low end is in the numbers alone: "What counts as a settled record is untouched"
-- (02, #106)
abbrev pub Gives : (p n s low : ℕ) → List Entry → (j mark : ℕ) → (number : ℕ → ℤ) → Type 0
Gives p n s low es j mark number =
    (Settled p n s es j → (x : Assignment p) → MeetsAll p n s es x
    → (mark ≡ 1) × ((w : ℕ) → w < s → number w ≡ reading p low (x j w).value))
    × ((Settled p n s es j → ⊥) → (mark ≡ 0) × ((w : ℕ) → w < s → number w ≡ pos 0))

-- all records are settled
abbrev pub AllSettled : (p n s : ℕ) → List Entry → Type 0
AllSettled p n s es = (j : ℕ) → j < n → Settled p n s es j

-- what calls have made of a ledger and answered: new to every one, and all records are settled
pub record Settling (p n s : ℕ) (cs : List Call) (a : After Ledger) : Type 0 where
  pub all_new : (r : Reply) → Memᴰ r a.replies → r.told.number ≡ 0
  pub news_told : news cs a.replies ≡ length cs
  pub settles : AllSettled p n s a.state.entries

-- ---- frames that carry one record each

-- multiplier 1 at record c, else 0
unfoldable pub unit_row_of : (n c : ℕ) → List ℕ
unit_row_of n c = tabulate n (λ j. choose (eqb c j) 1 0)

-- the take that is lent the bytes of the frame with these multipliers and s values of 0, and a mix of n words
unfoldable pub unit_take : (p n s c : ℕ) → Call
unit_take p n s c = take (frame_of p n (unit_row_of n c) (replicate s 0)) (replicate n 0)
