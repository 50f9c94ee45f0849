-- The mission's own sentence: a heat whose frames all carry what seal gives for one set of records, whichever frames were lost,
-- doubled or summed, is shown as those records or as unknown, and a frame that is the sum of two standing ones is never new. The records
-- are sealed with a low end (02, #106), and a show may be given another one. A record has s words (02, #103).
use Rattle.std.specs.Prelude.{◌≡◌, ℕ, ◌+◌, ◌*◌, ◌%◌, ◌<◌, ℤ, length, get_or}
use mathlib.Core.List.{List, Memᴰ}
use Rattle.checks.specs.Prime.{IsModulus}
use Rattle.checks.specs.Refusal.{IsRefusal}
use Rattle.checks.specs.Told.{results}
use Rattle.checks.specs.Outcome.{outcome}
use Rattle.field.specs.Residue.{reduce}
use Rattle.signed.specs.Reading.{residue_of, IsReading}
use Rattle.frame.specs.Sealing.{Records, word_of}
use Rattle.frame.specs.Calls.{read_call, seal_call}
use Rattle.ledger.specs.Ledger.{Entry, no_entry, Assignment, MeetsAll}
use Rattle.ledger.specs.History.{Call, take, show}
use Rattle.ledger.specs.Turns.{Turn}
use Rattle.ledger.specs.Demand3.{standing, reply_at}

-- n records of s words, each in the range that the low end gives
pub record HeatRecords (p n s low : ℕ) (zs : List ℤ) : Type 0 where
  pub low_below : low < p
  pub many : length zs ≡ n * s
  pub in_range : Records p low zs

-- the assignment that the records are
abbrev pub record_residues : (p s : ℕ) → List ℤ → Assignment p
record_residues p s zs j w = reduce p (residue_of p (word_of s zs j w))

-- the bytes read as the multipliers xs and the values vs
abbrev pub ReadsAs : (p n s : ℕ) (frame xs vs : List ℕ) → Type 0
ReadsAs p n s frame xs vs =
    (multipliers values : List ℕ) → length multipliers ≡ n → length values ≡ s
    → read_call p n s frame multipliers values ≡ outcome (results s) (xs, vs)

-- seal gives the values vs for the records zs and the multipliers xs, whatever values are lent
abbrev pub SealsAs : (p n s low : ℕ) → List ℤ → (xs vs : List ℕ) → Type 0
SealsAs p n s low zs xs vs = (lent : List ℕ) → length lent ≡ s → seal_call p n s low zs xs lent ≡ outcome (results s) vs

-- a frame comes from the records: what it reads as, if it reads as anything, is what seal gives for them
abbrev pub ComesFrom : (p n s low : ℕ) → List ℤ → (frame : List ℕ) → Type 0
ComesFrom p n s low zs frame = (xs vs : List ℕ) → ReadsAs p n s frame xs vs → SealsAs p n s low zs xs vs

-- every frame taken comes from the records, in whatever order, however often, with any calls between
abbrev pub Honest : (p n s low : ℕ) → List ℤ → List Call → Type 0
Honest p n s low zs cs = (frame mix : List ℕ) → Memᴰ (take frame mix) cs → ComesFrom p n s low zs frame

-- what a 9 proves: the frames es that stood and the refused one come from no one set of records, with whatever low end
abbrev pub NoRecords : (p n s : ℕ) → List Entry → (frame : List ℕ) → Type 0
NoRecords p n s es frame =
    (low : ℕ) (zs : List ℤ) → HeatRecords p n s low zs
    → ((i : ℕ) → i < length es → SealsAs p n s low zs (get_or es i no_entry).multipliers (get_or es i no_entry).values)
    → ComesFrom p n s low zs frame → ⊥

-- n numbers are the sums of those of xs and ys, modulo p: of multipliers, or of values
pub record IsSum (p n : ℕ) (xs ys summed : List ℕ) : Type 0 where
  pub long : length summed ≡ n
  pub sums : (j : ℕ) → j < n → get_or summed j 0 ≡ (get_or xs j 0 + get_or ys j 0) % p

module _ (p : ℕ) (ok : IsModulus p) (n s : ℕ) (ws : List ℕ) where
  -- what holds of an honest list of calls on the board that open wrote into ws
  pub record HonestHeat (low : ℕ) (zs : List ℤ) (cs : List Call) : Type 0 where
    -- no take is refused by 9
    pub never_nine : (t : Turn cs) → (reply_at p n s ws t).told.number ≡ 9 → ⊥
    -- the records meet all standing frames
    pub records_meet : MeetsAll p n s (standing p ok n s cs) (record_residues p s zs)
    -- the number of every word of a record that a show marks is what the word reads as with the show's own low end: the one number in that
    -- range that is congruent to it modulo p
    pub shows_readings : (t : Turn cs) (other : ℕ) (marks : List ℕ) (numbers : List ℤ) → t.call ≡ show other marks numbers
        → (IsRefusal (reply_at p n s ws t).told.number → ⊥) → (j w : ℕ) → j < n → w < s
        → get_or (reply_at p n s ws t).words j 0 ≡ 1 → IsReading p other (word_of s zs j w) (word_of s (reply_at p n s ws t).numbers j w)
    -- with the low end that the records were sealed with it is the word itself
    pub shows_records : (t : Turn cs) (marks : List ℕ) (numbers : List ℤ) → t.call ≡ show low marks numbers
        → (IsRefusal (reply_at p n s ws t).told.number → ⊥) → (j w : ℕ) → j < n → w < s
        → get_or (reply_at p n s ws t).words j 0 ≡ 1 → word_of s (reply_at p n s ws t).numbers j w ≡ word_of s zs j w
