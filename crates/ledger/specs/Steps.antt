-- The ledger's step for each call: its checks in the order that 01 and 02 give, what is told, what the ledger then holds, and what becomes of the
-- memory lent to the call.
use Rattle.std.specs.Prelude.{List, [], ◌∷◌, ◌++◌, ℕ, zero, suc, ◌-◌, ◌*◌, ℤ, pos, length, take, replicate}
use Rattle.std.proofs.Math.Decide.{dec_lt}
use Rattle.algebra.specs.Choice.{pick_by}
use Rattle.algebra.specs.Matrix.{Vector}
use Rattle.checks.specs.declared.Refusal.{Refusal}
use Rattle.checks.specs.declared.Refusal.TheVariants.{Length, Number, Conflict, Withdrawal}
use Rattle.checks.specs.InOrder.{Checks, passed, ◌else◌, ◌⨾◌, in_order}
use Rattle.checks.specs.Told.{Told, refused, gives, results}
use Rattle.checks.specs.Outcome.{Outcome, outcome, untouched}
use Rattle.checks.specs.Decide.{long?}
use Rattle.checks.specs.Prime.{IsModulus}
use Rattle.field.specs.Residue.{residues}
use Rattle.field.specs.Written.{tabulate, numbers}
use Rattle.signed.specs.Reading.{reading}
use Rattle.frame.specs.Reading.{frame_multipliers, frame_values, frame_checks}
use Rattle.ledger.specs.Ledger.{Entry, entry, Ledger, ledger}
use Rattle.ledger.specs.Decide.{in_span?, agreed?, gives_values?, within?}

-- ---- take

-- new tells 0 and the count, repeat 100 and the count
abbrev pub new_told : ℕ → Told
new_told k = gives (pos k)

abbrev pub repeat_told : ℕ → Told
repeat_told k = record { number = 100; values = pos k ∷ [] }

-- the multipliers of the combination, then zeros
unfoldable pub mix_words : (p n : ℕ) → List Entry → Vector (residues p) → List ℕ
mix_words p n es u = numbers (length es) u ++ replicate (n - length es) 0

-- 3 comes before anything of the frame
abbrev pub take_checks : (p n s : ℕ) (frame mix : List ℕ) → Checks Refusal
take_checks p n s frame mix = long? mix n else Length ⨾ frame_checks p n s frame

-- 9 of a frame whose multipliers the combination u gives
abbrev pub value_checks : (p s : ℕ) → List Entry → Vector (residues p) → List ℕ → Checks Refusal
value_checks p s es u vs = gives_values? p s es u vs else Conflict ⨾ passed

module _ (p : ℕ) (ok : IsModulus p) (n s : ℕ) (l : Ledger) where
  -- a combination: repeat if the same combination of values gives the frame's values, otherwise 9; the mix is written either way
  unfoldable pub take_in_span : List ℕ → Vector (residues p) → Outcome (Ledger × List ℕ)
  take_in_span vs u =
      in_order (value_checks p s l.entries u vs) (λ _. outcome (repeat_told (length l.entries)) (l, mix_words p n l.entries u))
      (λ k. outcome (refused k) (l, mix_words p n l.entries u))

  -- no combination of the ledger's rows: append, answer new with the count, mix untouched
  unfoldable pub take_accepted : (multipliers values mix : List ℕ) → Outcome (Ledger × List ℕ)
  take_accepted xs vs mix =
      pick_by (in_span? p ok n l.entries xs) (λ c. take_in_span vs c.0)
      (outcome (new_told (suc (length l.entries))) (ledger (l.entries ++ (entry xs vs ∷ [])), mix))

  unfoldable pub ledger_take : (frame mix : List ℕ) → Outcome (Ledger × List ℕ)
  ledger_take frame mix =
      in_order (take_checks p n s frame mix) (λ _. take_accepted (frame_multipliers p n frame) (frame_values p n s frame) mix) (untouched (l, mix))

-- ---- withdraw: 10, then the last t entries are dropped

abbrev pub withdraw_checks : Ledger → ℕ → Checks Refusal
withdraw_checks l t = within? t (length l.entries) else Withdrawal ⨾ passed

unfoldable pub ledger_withdraw : Ledger → ℕ → Outcome Ledger
ledger_withdraw l t =
    in_order (withdraw_checks l t)
    (λ _. outcome (results (length l.entries - t)) (ledger (take (length l.entries - t) l.entries))) (untouched l)

-- ---- show

-- f 0, f 1, .., f (n - 1), of signed numbers
unfoldable pub tabulateℤ : ℕ → (ℕ → ℤ) → List ℤ
tabulateℤ zero f = []
tabulateℤ (suc n) f = f 0 ∷ tabulateℤ n (λ k. f (suc k))

-- record after record, the numbers of its s words: those of record 0, those of record 1, ..
unfoldable pub record_by_record : (n s : ℕ) → (ℕ → ℕ → ℤ) → List ℤ
record_by_record zero s f = []
record_by_record (suc n) s f = tabulateℤ s (f 0) ++ record_by_record n s (λ j. f (suc j))

-- record j is marked 1 and the signed readings of its words with the low end given exactly if all assignments meeting the ledger's frames
-- agree at j; otherwise 0, and 0 for each word
module _ (p : ℕ) (ok : IsModulus p) (n s : ℕ) (es : List Entry) where
  unfoldable pub shown_mark : ℕ → ℕ
  shown_mark j = pick_by (agreed? p ok n s es j) (λ a. 1) 0

  unfoldable pub shown_number : (low j w : ℕ) → ℤ
  shown_number low j w = pick_by (agreed? p ok n s es j) (λ a. reading p low (a.0 w).value) (pos 0)

-- 3, then 4: "An L of p or more is 4, .. last of all in show" (02, #106)
abbrev pub show_checks : (p n s low : ℕ) (marks : List ℕ) (zs : List ℤ) → Checks Refusal
show_checks p n s low marks zs = long? marks n else Length ⨾ long? zs (n * s) else Length ⨾ dec_lt low p else Number ⨾ passed

-- the answer is n minus the count. 02, #103: "Show lends n × s numbers, record after record, and a mark stays one per record."
unfoldable pub ledger_show : (p : ℕ) → IsModulus p → (n s : ℕ) → Ledger → (low : ℕ) → List ℕ → List ℤ → Outcome (List ℕ × List ℤ)
ledger_show p ok n s l low marks zs =
    in_order (show_checks p n s low marks zs)
    (λ _.
    outcome (results (n - length l.entries))
    (tabulate n (shown_mark p ok n s l.entries), record_by_record n s (shown_number p ok n s l.entries low)))
    (untouched (marks, zs))
