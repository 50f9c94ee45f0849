-- What a call answers, writes and leaves where the frames es stand, in 01's words: the promises of take, withdraw and show that demand 3
-- makes of every call of a list.
use Rattle.std.specs.Prelude.{◌≡◌, ◌↔◌, List, [], ◌∷◌, ◌++◌, ℕ, suc, ◌-◌, ◌*◌, ◌≤◌, ◌<◌, ℤ, pos, length, get_or}
use Rattle.std.proofs.Math.ListN as lists
use Rattle.algebra.specs.Matrix.{Vector}
use Rattle.algebra.specs.Span.{Combines}
use Rattle.checks.specs.declared.Refusal.{Refusal}
use Rattle.checks.specs.declared.Refusal.TheVariants.{Length, Number, Conflict, Withdrawal}
use Rattle.checks.specs.Refusal.{IsRefusal}
use Rattle.checks.specs.Told.{Told, refused, results}
use Rattle.checks.specs.InOrder.{AllHold, FirstFailing}
use Rattle.field.specs.Residue.{reduce, residues}
use Rattle.signed.specs.Reading.{IsRecord}
use Rattle.frame.specs.Reading.{frame_multipliers, frame_values}
use Rattle.frame.specs.Sealing.{word_of}
use Rattle.ledger.specs.Ledger.{Entry, entry, InSpan, GivesValues, Settled, multiplier_rows}
use Rattle.ledger.specs.Steps.{new_told, repeat_told, take_checks}
use Rattle.ledger.specs.History.{Call, take, withdraw, show, Reply}
use Rattle.ledger.specs.Settle.{Gives}

-- ---- answers

-- "Take a frame, with a lent mix of n words. Checks: .. 3, the frame's checks, then: if the multipliers are no combination of the ledger's
-- rows .., append: answer new, with the count .. Otherwise .. Answer repeat if the same combination of values gives the frame's value,
-- otherwise refusal 9." 02, #103: "A frame is a repeat only if all s values agree."
pub record TakeAnswers (p n s : ℕ) (es : List Entry) (frame mix : List ℕ) (told : Told) : Type 0 where
  pub refuses : (k : Refusal) → FirstFailing (take_checks p n s frame mix) k → told ≡ refused k
  pub news : AllHold (take_checks p n s frame mix) → (InSpan p n es (frame_multipliers p n frame) → ⊥) → told ≡ new_told (suc (length es))
  pub repeats : AllHold (take_checks p n s frame mix) → (c : InSpan p n es (frame_multipliers p n frame))
      → GivesValues p s es c.0 (frame_values p n s frame) → told ≡ repeat_told (length es)
  pub conflicts : AllHold (take_checks p n s frame mix) → (c : InSpan p n es (frame_multipliers p n frame))
      → (GivesValues p s es c.0 (frame_values p n s frame) → ⊥) → told ≡ refused Conflict

-- "Withdraw t: checks .. 10, then drops the last t entries. .. The answer is the count."
pub record WithdrawAnswers (es : List Entry) (t : ℕ) (told : Told) : Type 0 where
  pub drops : t ≤ length es → told ≡ results (length es - t)
  pub overlong : (t ≤ length es → ⊥) → told ≡ refused Withdrawal

-- "Show: checks .. 3. Lent: n marks, n signed numbers. .. The answer is n minus the count." 02, #106: "An L of p or more is 4, .. last of
-- all in show". 02, #103: "Show lends n × s numbers".
pub record ShowAnswers (p n s : ℕ) (es : List Entry) (low : ℕ) (marks : List ℕ) (numbers : List ℤ) (told : Told) : Type 0 where
  pub shows : length marks ≡ n → length numbers ≡ n * s → low < p → told ≡ results (n - length es)
  pub lengths : (length marks ≡ n → length numbers ≡ n * s → ⊥) → told ≡ refused Length
  pub low_end : length marks ≡ n → length numbers ≡ n * s → p ≤ low → told ≡ refused Number

abbrev pub Answers : (p n s : ℕ) → List Entry → Call → Told → Type 0
Answers p n s es (take frame mix) told = TakeAnswers p n s es frame mix told
Answers p n s es (withdraw t) told = WithdrawAnswers es t told
Answers p n s es (show low marks numbers) told = ShowAnswers p n s es low marks numbers told

-- ---- the standing frames

-- how a call changes the standing frames, from es to fs, by what it told: "append: answer new, .. Neither changes the list", "drops the last
-- t entries", "A refused call leaves it as it is"; a show only reads them
abbrev pub Changes : (p n s : ℕ) → Call → Told → (es fs : List Entry) → Type 0
Changes p n s (take frame mix) told es fs =
    (told.number ≡ 0 → fs ≡ es ++ (entry (frame_multipliers p n frame) (frame_values p n s frame) ∷ [])) × ((told.number ≡ 0 → ⊥) → fs ≡ es)
Changes p n s (withdraw t) told es fs =
    ((IsRefusal told.number → ⊥) → fs ≡ lists.take (length es - t) es) × (IsRefusal told.number → fs ≡ es)
Changes p n s (show low marks numbers) told es fs = fs ≡ es

-- ---- what is written

-- what a show with the low end that is not refused replies where the frames es stand: the answer is n minus their number; record j is
-- marked 1 exactly if it is settled, and its s words given as `Gives` says, word w of record j at j × s + w; there are n marks and n × s
-- numbers, and every number is in the range that the low end gives, 0 for a record that is not settled included
pub record Shows (p n s low : ℕ) (es : List Entry) (r : Reply) : Type 0 where
  pub low_below : low < p
  pub missing : r.told ≡ results (n - length es)
  pub marks_long : length r.words ≡ n
  pub numbers_long : length r.numbers ≡ n * s
  pub marked_exactly : (j : ℕ) → j < n → (get_or r.words j 0 ≡ 1) ↔ Settled p n s es j
  pub gives : (j : ℕ) → j < n → Gives p n s low es j (get_or r.words j 0) (word_of s r.numbers j)
  pub in_range : (q : ℕ) → q < n * s → IsRecord p low (get_or r.numbers q (pos 0))

-- the mix of a frame with the multipliers xs where the frames es stand: "the combination is unique; its multipliers are written
-- to the mix, the rest 0"
pub record IsMix (p n : ℕ) (es : List Entry) (xs mix : List ℕ) : Type 0 where
  pub long : length mix ≡ n
  pub below : (i : ℕ) → i < length es → get_or mix i 0 < p
  pub combines : Combines (residues p) (length es) n (multiplier_rows p es) (λ i. reduce p (get_or mix i 0)) (λ j. reduce p (get_or xs j 0))
  pub only : (u : Vector (residues p)) → Combines (residues p) (length es) n (multiplier_rows p es) u (λ j. reduce p (get_or xs j 0))
      → (i : ℕ) → i < length es → u i ≡ reduce p (get_or mix i 0)
  pub rest : (i : ℕ) → length es ≤ i → get_or mix i 0 ≡ 0

-- ---- the count, and memory that is not written

-- what an answer that carries a count tells of the count k that the board then has: new and repeat carry it, withdraw answers it, and
-- show answers n minus it
abbrev pub Counted : (n : ℕ) → Call → Told → ℕ → Type 0
Counted n (take frame mix) told k = (IsRefusal told.number → ⊥) → told.values ≡ pos k ∷ []
Counted n (withdraw t) told k = (IsRefusal told.number → ⊥) → told ≡ results k
Counted n (show low marks numbers) told k = (IsRefusal told.number → ⊥) → told ≡ results (n - k)

-- what a call leaves of the memory lent to it that it does not write: "answer new, with the count; mix untouched", and so every take
-- that is neither answered repeat, 100, nor refused by 9; a show that is refused
abbrev pub Untouched : Call → Reply → Type 0
Untouched (take frame mix) r = (r.told.number ≡ 100 → ⊥) → (r.told.number ≡ 9 → ⊥) → r.words ≡ mix
Untouched (withdraw t) r = Unit {0}
Untouched (show low marks numbers) r = IsRefusal r.told.number → (r.words ≡ marks) × (r.numbers ≡ numbers)
