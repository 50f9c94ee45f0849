-- Lists of calls on the ledger: a list after a list, that a ledger stays proper, that without withdrawals entries are only
-- added behind those that stand, that no reply tells 11, how the entries change, what is told of the count, what is left as it was
-- lent, and that a refused take or withdrawal leaves the ledger as it is.
use mathlib.Core.Path.{◌≡◌, refl, sym, ap, ap₂, ◌∙◌}
use mathlib.Core.List.{List, [], ◌∷◌, ◌++◌, append-nil, append_assoc}
use Prim.Native.Nat.{ℕ, ◌-◌}
use native.Mathlib.Nat.{sub-le}
use native.Mathlib.Omega.{arith}
use lib.IntN.{ℤ, pos}
use lib.ListN.{length}
use lib.Seq.{length-take-le}
use Rattle.checks.specs.Prime.{IsModulus}
use Rattle.checks.specs.declared.Refusal.TheVariants.{Conflict, Withdrawal}
use Rattle.checks.specs.Refusal.{IsRefusal}
use Rattle.checks.specs.Told.{results}
use Rattle.checks.proofs.Refusals.{refusal_number_lem}
use Rattle.checks.proofs.InOrder.{in_order_elim}
use Rattle.checks.specs.Outcome.{Outcome}
use Rattle.frame.proofs.Round.{accepted_found}
use Rattle.ledger.specs.Ledger.{Entry, entry, Ledger}
use Rattle.ledger.specs.Steps.{ledger_take, ledger_show}
use Rattle.ledger.specs.History.{Call, reply, After, after, ledger_step, run, ledger_run}
use Rattle.ledger.specs.Turns.{reply_of}
use Rattle.ledger.specs.Answers.{Changes, Counted, Untouched}
use Rattle.ledger.specs.Heard.{NoWithdrawal}
use Rattle.ledger.specs.Proper.{Proper}
use Rattle.ledger.proofs.EntryMore.{length_more}
use Rattle.ledger.proofs.Proper.{step_proper}
use Rattle.ledger.proofs.LedgerSteps.{Took, new, repeat, conflict, refusal, took, Withdrew, dropped, overlong, withdrew, Showed, answered, unshown}
use Rattle.ledger.proofs.LedgerSteps.{showed}

-- a list of calls after another
pub run_append : {S : Type 0} (step : S → Call → After S) (s : S) (cs ds : List Call)
    → run step s (cs ++ ds)
    ≡ after (run step (run step s cs).state ds).state ((run step s cs).replies ++ (run step (run step s cs).state ds).replies)
unfolding run
run_append step s [] ds = refl
run_append {S} step s (c ∷ cs) ds =
    ap (λ (a : After S). after a.state ((step s c).replies ++ a.replies)) (run_append step (step s c).state cs ds)
    ∙ ap (λ rs. after (run step (run step (step s c).state cs).state ds).state rs)
    (sym (append_assoc (step s c).replies (run step (step s c).state cs).replies _))

module _ (p : ℕ) (ok : IsModulus p) (n s : ℕ) where
  -- a proper ledger stays proper
  pub run_proper : (l : Ledger) → Proper p n s l.entries → (cs : List Call) → Proper p n s (ledger_run p ok n s l cs).state.entries
  unfolding run
  run_proper l proper [] = proper
  run_proper l proper (c ∷ cs) = run_proper (ledger_step p ok n s l c).state (step_proper p n s l.entries proper ok c) cs

  -- ---- without withdrawals

  -- a take adds one entry or none
  took_appends : (l : Ledger) (frame mix : List ℕ) {r : Outcome (Ledger × List ℕ)} → Took p ok n s l frame mix r
      → (ds : List Entry) × (r.lent.0.entries ≡ l.entries ++ ds)
  took_appends l frame mix (new xs vs e f) = (entry xs vs ∷ [], refl)
  took_appends l frame mix (repeat xs vs e c g) = ([], sym (append-nil l.entries))
  took_appends l frame mix (conflict xs vs e c g) = ([], sym (append-nil l.entries))
  took_appends l frame mix (refusal k h) = ([], sym (append-nil l.entries))

  pub only_appends : (l : Ledger) (cs : List Call) → NoWithdrawal cs
      → (ds : List Entry) × ((ledger_run p ok n s l cs).state.entries ≡ l.entries ++ ds)
  unfolding run ledger_step
  only_appends l [] h = ([], sym (append-nil l.entries))
  only_appends l (Call.take frame mix ∷ cs) h =
      let r = ledger_take p ok n s l frame mix in
      let (ds, e) = took_appends l frame mix (took p ok n s l frame mix) in
      let (ds', e') = only_appends r.lent.0 cs h in
      (ds ++ ds', e' ∙ ap (λ es. es ++ ds') e ∙ append_assoc l.entries ds ds')
  only_appends l (Call.withdraw t ∷ cs) h = absurd h
  only_appends l (Call.show low marks numbers ∷ cs) h = only_appends l cs h

  -- ---- no reply tells 11

  took_not_eleven : (l : Ledger) (frame mix : List ℕ) {r : Outcome (Ledger × List ℕ)} → Took p ok n s l frame mix r
      → r.told.number ≡ 11 → ⊥
  took_not_eleven l frame mix (new xs vs e f) d = omega arith
  took_not_eleven l frame mix (repeat xs vs e c g) d = omega arith
  took_not_eleven l frame mix (conflict xs vs e c g) d = omega arith
  took_not_eleven l frame mix (refusal k h) d = h.1 d

  withdrew_not_eleven : (l : Ledger) (t : ℕ) {r : Outcome Ledger} → Withdrew l t r → r.told.number ≡ 11 → ⊥
  withdrew_not_eleven l t (dropped h) d = omega arith
  withdrew_not_eleven l t overlong d = omega arith

  showed_not_eleven : (l : Ledger) {r : Outcome (List ℕ × List ℤ)} → Showed n l r → r.told.number ≡ 11 → ⊥
  showed_not_eleven l (answered lent) d = omega arith
  showed_not_eleven l (unshown lent k h) d = h.1 d

  pub step_not_eleven : (l : Ledger) (c : Call) → (reply_of (ledger_step p ok n s l c)).told.number ≡ 11 → ⊥
  unfolding ledger_step
  step_not_eleven l (Call.take frame mix) d = took_not_eleven l frame mix (took p ok n s l frame mix) d
  step_not_eleven l (Call.withdraw t) d = withdrew_not_eleven l t (withdrew l t) d
  step_not_eleven l (Call.show low marks numbers) d = showed_not_eleven l (showed p ok n s l low marks numbers) d

  -- ---- how the entries change

  took_changes : (l : Ledger) (frame mix : List ℕ) {r : Outcome (Ledger × List ℕ)} → Took p ok n s l frame mix r
      → Changes p n s (Call.take frame mix) r.told l.entries r.lent.0.entries
  took_changes l frame mix (new xs vs e f) =
      let (xs-found, v-found) = accepted_found p n s frame xs vs e in
      (λ _. ap₂ (λ ys w. l.entries ++ (entry ys w ∷ [])) (sym xs-found) (sym v-found), λ h. absurd (h refl))
  took_changes l frame mix (repeat xs vs e c g) = (λ d. absurd (omega arith), λ _. refl)
  took_changes l frame mix (conflict xs vs e c g) = (λ d. absurd (omega arith), λ _. refl)
  took_changes l frame mix (refusal k i) = (λ d. absurd (omega (arith, refusal_number_lem k)), λ _. refl)

  withdrew_changes : (l : Ledger) (t : ℕ) {r : Outcome Ledger} → Withdrew l t r
      → Changes p n s (Call.withdraw t) r.told l.entries r.lent.entries
  withdrew_changes l t (dropped h) = (λ _. refl, λ i. absurd (omega arith))
  withdrew_changes l t overlong = (λ f. absurd (f (refusal_number_lem Withdrawal)), λ _. refl)

  pub step_changes : (l : Ledger) (c : Call)
      → Changes p n s c (reply_of (ledger_step p ok n s l c)).told l.entries (ledger_step p ok n s l c).state.entries
  unfolding ledger_step
  step_changes l (Call.take frame mix) = took_changes l frame mix (took p ok n s l frame mix)
  step_changes l (Call.withdraw t) = withdrew_changes l t (withdrew l t)
  step_changes l (Call.show low marks numbers) = refl

  -- ---- what is told of the count

  took_counted : (l : Ledger) (frame mix : List ℕ) {r : Outcome (Ledger × List ℕ)} → Took p ok n s l frame mix r
      → Counted n (Call.take frame mix) r.told (length r.lent.0.entries)
  took_counted l frame mix (new xs vs e f) h = ap (λ k. pos k ∷ []) (sym (length_more l.entries (entry xs vs)))
  took_counted l frame mix (repeat xs vs e c g) h = refl
  took_counted l frame mix (conflict xs vs e c g) h = absurd (h (refusal_number_lem Conflict))
  took_counted l frame mix (refusal k i) h = absurd (h (refusal_number_lem k))

  withdrew_counted : (l : Ledger) (t : ℕ) {r : Outcome Ledger} → Withdrew l t r
      → Counted n (Call.withdraw t) r.told (length r.lent.entries)
  withdrew_counted l t (dropped h) f =
      ap results (sym (length-take-le (length l.entries - t) l.entries (sub-le (length l.entries) t)))
  withdrew_counted l t overlong f = absurd (f (refusal_number_lem Withdrawal))

  showed_counted : (l : Ledger) (low : ℕ) (marks : List ℕ) (zs : List ℤ) {r : Outcome (List ℕ × List ℤ)} → Showed n l r
      → Counted n (Call.show low marks zs) r.told (length l.entries)
  showed_counted l low marks zs (answered lent) f = refl
  showed_counted l low marks zs (unshown lent k h) f = absurd (f (refusal_number_lem k))

  pub step_counted : (l : Ledger) (c : Call)
      → Counted n c (reply_of (ledger_step p ok n s l c)).told (length (ledger_step p ok n s l c).state.entries)
  unfolding ledger_step
  step_counted l (Call.take frame mix) = took_counted l frame mix (took p ok n s l frame mix)
  step_counted l (Call.withdraw t) = withdrew_counted l t (withdrew l t)
  step_counted l (Call.show low marks numbers) = showed_counted l low marks numbers (showed p ok n s l low marks numbers)

  -- ---- what is left as it was lent

  took_untouched : (l : Ledger) (frame mix : List ℕ) {r : Outcome (Ledger × List ℕ)} → Took p ok n s l frame mix r
      → Untouched (Call.take frame mix) (reply r.told r.lent.1 [])
  took_untouched l frame mix (new xs vs e f) h i = refl
  took_untouched l frame mix (repeat xs vs e c g) h i = absurd (h refl)
  took_untouched l frame mix (conflict xs vs e c g) h i = absurd (i refl)
  took_untouched l frame mix (refusal k j) h i = refl

  show_untouched : (l : Ledger) (low : ℕ) (marks : List ℕ) (zs : List ℤ) →
      let r = ledger_show p ok n s l low marks zs in
      Untouched (Call.show low marks zs) (reply r.told r.lent.0 r.lent.1)
  unfolding ledger_show
  show_untouched l low marks zs =
      in_order_elim _ _ (λ (o : Outcome (List ℕ × List ℤ)). Untouched (Call.show low marks zs) (reply o.told o.lent.0 o.lent.1))
      (λ _ h. absurd (omega arith)) (λ k _ _. (refl, refl))

  pub step_untouched : (l : Ledger) (c : Call) → Untouched c (reply_of (ledger_step p ok n s l c))
  unfolding ledger_step
  step_untouched l (Call.take frame mix) = took_untouched l frame mix (took p ok n s l frame mix)
  step_untouched l (Call.withdraw t) = tt
  step_untouched l (Call.show low marks numbers) = show_untouched l low marks numbers

-- ---- a refused call leaves the ledger as it is

pub took_refused : (p : ℕ) (ok : IsModulus p) (n s : ℕ) (l : Ledger) (frame mix : List ℕ) {r : Outcome (Ledger × List ℕ)}
    → Took p ok n s l frame mix r → IsRefusal r.told.number → r.lent.0 ≡ l
took_refused p ok n s l frame mix (new xs vs e f) h = absurd (omega arith)
took_refused p ok n s l frame mix (repeat xs vs e c g) h = refl
took_refused p ok n s l frame mix (conflict xs vs e c g) h = refl
took_refused p ok n s l frame mix (refusal k i) h = refl

pub withdrew_refused : (l : Ledger) (t : ℕ) {r : Outcome Ledger} → Withdrew l t r → IsRefusal r.told.number → r.lent ≡ l
withdrew_refused l t (dropped h) i = absurd (omega arith)
withdrew_refused l t overlong i = refl
