-- What holds of a proper ledger: its frames have a common assignment, a row is a combination of its rows in one way only, so
-- that take's answer is the one of any combination, and show marks exactly the settled records and gives what all assignments
-- have there.
use mathlib.Core.Path.{◌≡◌, refl, sym, ap, ◌∙◌}
use mathlib.Core.Logic.{◌↔◌}
use mathlib.Core.List.{List, [], ◌∷◌, ◌++◌}
use Prim.Native.Nat.{ℕ, suc, ◌-◌, ◌*◌, ◌<◌}
use native.Mathlib.Decide.{map_dec}
use native.Mathlib.Omega.{arith}
use lib.IntN.{ℤ, pos}
use lib.ListN.{length, get_or}
use Rattle.algebra.specs.Matrix.{Vector, apply}
use Rattle.algebra.specs.Span.{Solves}
use Rattle.algebra.specs.Ring.{IsField}
use Rattle.algebra.proofs.Choice.{pick_by_elim, pick_by_same, pick_by_no}
use Rattle.algebra.proofs.Sums as sums
use Rattle.checks.specs.Prime.{IsModulus}
use Rattle.checks.specs.declared.Refusal.{Refusal}
use Rattle.checks.specs.declared.Refusal.TheVariants.{Conflict}
use Rattle.checks.specs.Told.{refused, results}
use Rattle.checks.specs.Outcome.{outcome, untouched}
use Rattle.checks.proofs.InOrder.{none_left, fails_here, in_order_done, in_order_refused, ◌and_then◌}
use Rattle.field.specs.Residue.{Residue, reduce, residues, ◌⊗◌}
use Rattle.field.specs.Written.{tabulate, numbers}
use Rattle.field.proofs.Residues.{value_below}
use Rattle.field.proofs.Field.{residues_field}
use Rattle.field.proofs.Written.{length_tabulate, get_d_tabulate, is_tabulate}
use Rattle.signed.specs.Reading.{reading, IsRecord}
use Rattle.signed.proofs.Readings.{reading_is_record, zero_is_record}
use Rattle.frame.specs.Reading.{accepted, rejected, read_frame}
use Rattle.ledger.specs.Ledger.{Entry, entry, ledger, Assignment, InSpan, GivesValues, MeetsAll, Settled, Agreed, multiplier_rows, value_table}
use Rattle.ledger.specs.Decide.{in_span?, agreed?}
use Rattle.ledger.specs.Steps.{new_told, repeat_told, mix_words, take_in_span, take_accepted, ledger_take, record_by_record, shown_mark}
use Rattle.ledger.specs.Steps.{shown_number, ledger_show}
use Rattle.ledger.specs.Settle.{Gives}
use Rattle.ledger.specs.Proper.{Proper}
use Rattle.ledger.proofs.LedgerSteps.{take_found, take_found_lem}
use Rattle.ledger.proofs.RankRows as rows

-- what is written depends on what stands below the bound
pub tabulate_same : (k : ℕ) {f g : ℕ → ℕ} → ((i : ℕ) → i < k → f i ≡ g i) → tabulate k f ≡ tabulate k g
tabulate_same k {f} {g} h = is_tabulate k g (tabulate k f) (length_tabulate k f) (λ i l. get_d_tabulate k f i l ∙ h i l)

module _ (p : ℕ) (ok : IsModulus p) (n s : ℕ) (es : List Entry) where
  F : IsField (residues p)
  F = residues_field p ok.prime

  -- ---- take, by what reading finds

  pub take_rejected : (frame mix : List ℕ) (k : Refusal) → length mix ≡ n → read_frame p n s frame ≡ rejected k
      → ledger_take p ok n s (ledger es) frame mix ≡ untouched (ledger es, mix) k
  unfolding take_found
  take_rejected frame mix k h e =
      take_found_lem p ok n s (ledger es) frame mix
      ∙ in_order_done _ _ _ (h and_then none_left) (λ _. ap (λ f. take_found p ok n s (ledger es) f mix) e)

  pub take_accepted_lem : (frame mix xs vs : List ℕ) → length mix ≡ n → read_frame p n s frame ≡ accepted xs vs
      → ledger_take p ok n s (ledger es) frame mix ≡ take_accepted p ok n s (ledger es) xs vs mix
  unfolding take_found
  take_accepted_lem frame mix xs vs h e =
      take_found_lem p ok n s (ledger es) frame mix
      ∙ in_order_done _ _ _ (h and_then none_left) (λ _. ap (λ f. take_found p ok n s (ledger es) f mix) e)

  -- no combination: new
  pub take_new : (xs vs mix : List ℕ) → (InSpan p n es xs → ⊥)
      → take_accepted p ok n s (ledger es) xs vs mix ≡ outcome (new_told (suc (length es))) (ledger (es ++ (entry xs vs ∷ [])), mix)
  unfolding take_accepted
  take_new xs vs mix new = pick_by_no (in_span? p ok n es xs) _ _ new

  module _ (proper : Proper p n s es) where
    -- 01: "Otherwise the combination is unique"
    pub combination_once : (xs : List ℕ) (c d : InSpan p n es xs) (t : ℕ) → t < length es → c.0 t ≡ d.0 t
    combination_once xs c d =
        rows.combination_once (residues p) F.ring (multiplier_rows p es) proper.independent (λ j. reduce p (get_or xs j 0))
        c.0 d.0 c.1 d.1

    pub same_mix : (xs : List ℕ) (c d : InSpan p n es xs) → mix_words p n es c.0 ≡ mix_words p n es d.0
    unfolding mix_words
    same_mix xs c d =
        let same : numbers (length es) c.0 ≡ numbers (length es) d.0 =
        tabulate_same (length es) (λ t h. ap (λ (a : Residue p). a.value) (combination_once xs c d t h)) in
        rw same

    same_values : (xs vs : List ℕ) (c d : InSpan p n es xs) → GivesValues p s es d.0 vs → GivesValues p s es c.0 vs
    same_values xs vs c d e w b =
        sums.sum_same (residues p) (length es) (λ t. c.0 t ⊗ value_table p es t w) (λ t. d.0 t ⊗ value_table p es t w)
        (λ t h. ap (λ a. a ⊗ value_table p es t w) (combination_once xs c d t h))
        ∙ e w b

    -- any combination decides: repeat if the same combination of values gives the frame's values
    pub take_repeat : (xs vs mix : List ℕ) (c : InSpan p n es xs) → GivesValues p s es c.0 vs
        → take_accepted p ok n s (ledger es) xs vs mix ≡ outcome (repeat_told (length es)) (ledger es, mix_words p n es c.0)
    unfolding take_accepted take_in_span
    take_repeat xs vs mix c e =
        pick_by_elim (λ r. r ≡ outcome (repeat_told (length es)) (ledger es, mix_words p n es c.0)) (in_span? p ok n es xs) _ _
        (λ d.
        in_order_done _ _ _ (same_values xs vs d c e and_then none_left)
        (λ _. ap (λ ws. outcome (repeat_told (length es)) (ledger es, ws)) (same_mix xs d c)))
        (λ f. absurd (f c))

    -- otherwise refusal 9
    pub take_conflict : (xs vs mix : List ℕ) (c : InSpan p n es xs) → (GivesValues p s es c.0 vs → ⊥)
        → take_accepted p ok n s (ledger es) xs vs mix ≡ outcome (refused Conflict) (ledger es, mix_words p n es c.0)
    unfolding take_accepted take_in_span
    take_conflict xs vs mix c other =
        pick_by_elim (λ r. r ≡ outcome (refused Conflict) (ledger es, mix_words p n es c.0)) (in_span? p ok n es xs) _ _
        (λ d.
        in_order_refused _ _ (fails_here (λ e. other (same_values xs vs c d e)))
        ∙ ap (λ ws. outcome (refused Conflict) (ledger es, ws)) (same_mix xs d c))
        (λ f. absurd (f c))

    -- ---- the standing frames have a common assignment, a word at a time
    pub standing_met : (x : Assignment p) × MeetsAll p n s es x
    unfolding apply multiplier_rows value_table
    standing_met = (λ j w. (word w).0 j, λ i h w l. (word w).1 i h)
      where
        word : (w : ℕ) → (x : Vector (residues p)) × Solves (residues p) (length es) n (multiplier_rows p es) x (λ i. value_table p es i w)
        word w = rows.independent_solves (residues p) F (length es) n (multiplier_rows p es) proper.independent (λ i. value_table p es i w)

    -- ---- show

    -- a settled record is one on which the assignments agree, and the other way round
    settled_agreed : (j : ℕ) → Settled p n s es j → Agreed p n s es j
    settled_agreed j e = let (x, met) = standing_met in (x j, λ y m. e y x m met)

    agreed_settled : (j : ℕ) → Agreed p n s es j → Settled p n s es j
    agreed_settled j (v, a) x y m l w b = a x m w b ∙ sym (a y l w b)

    -- whether a record is settled is decided
    pub settled? : (j : ℕ) → Dec (Settled p n s es j)
    settled? j = map_dec (agreed_settled j) (settled_agreed j) (agreed? p ok n s es j)

    shown_settled : (low j : ℕ) → Settled p n s es j → (x : Assignment p) → MeetsAll p n s es x
        → (shown_mark p ok n s es j ≡ 1) × ((w : ℕ) → w < s → shown_number p ok n s es low j w ≡ reading p low (x j w).value)
    unfolding shown_mark shown_number
    shown_settled low j e x met =
        let a : Agreed p n s es j = (x j, λ y m. e y x m met) in (
          pick_by_same (agreed? p ok n s es j) (λ _. 1) 0 (λ _ _. refl) a,
          λ w h.
              pick_by_same (agreed? p ok n s es j) (λ b. reading p low (b.0 w).value) (pos 0)
              (λ b c. ap (λ (r : Residue p). reading p low r.value) (sym (b.1 x met w h) ∙ c.1 x met w h)) a,
        )

    shown_unsettled : (low j : ℕ) → (Settled p n s es j → ⊥)
        → (shown_mark p ok n s es j ≡ 0) × ((w : ℕ) → w < s → shown_number p ok n s es low j w ≡ pos 0)
    unfolding shown_mark shown_number
    shown_unsettled low j e = (
      pick_by_no (agreed? p ok n s es j) (λ _. 1) 0 (λ a. e (agreed_settled j a)),
      λ w h. pick_by_no (agreed? p ok n s es j) (λ b. reading p low (b.0 w).value) (pos 0) (λ a. e (agreed_settled j a)),
    )

    -- 01: "Record j is marked 1 and its signed reading given exactly if all assignments of residues meeting the ledger's frames
    -- agree at j; otherwise 0 and 0.", of each of its words
    pub shown_exactly : (low j : ℕ) → Gives p n s low es j (shown_mark p ok n s es j) (shown_number p ok n s es low j)
    shown_exactly low j = (shown_settled low j, shown_unsettled low j)

    -- whichever it is, it is in the range that the low end gives
    pub shown_in_range : (low j w : ℕ) → low < p → IsRecord p low (shown_number p ok n s es low j w)
    unfolding shown_number
    shown_in_range low j w b =
        pick_by_elim (IsRecord p low) (agreed? p ok n s es j) (λ a. reading p low (a.0 w).value) (pos 0)
        (λ a. reading_is_record p low (a.0 w).value b (value_below (omega arith) (a.0 w)))
        (λ _. zero_is_record p low)

    -- so a record is marked 1 exactly if it is settled
    pub marked_exactly : (j : ℕ) → (shown_mark p ok n s es j ≡ 1) ↔ Settled p n s es j
    marked_exactly j = (only (settled? j), λ e. let (x, met) = standing_met in (shown_settled 0 j e x met).0)
      where
        only : Dec (Settled p n s es j) → shown_mark p ok n s es j ≡ 1 → Settled p n s es j
        only (yes e) d = e
        only (no e) d = absurd (omega (arith, (shown_unsettled 0 j e).0))

    -- and this is what a show that is not refused leaves in the memory lent to it, with n minus the count for an answer
    pub show_accepted : (low : ℕ) (marks : List ℕ) (zs : List ℤ) → length marks ≡ n → length zs ≡ n * s → low < p
        → ledger_show p ok n s (ledger es) low marks zs
        ≡ outcome (results (n - length es)) (tabulate n (shown_mark p ok n s es), record_by_record n s (shown_number p ok n s es low))
    unfolding ledger_show
    show_accepted low marks zs h l b =
        in_order_done _ _ _ (h and_then l and_then b and_then none_left) (λ _. refl)
