-- What a call can do to the ledger, case by case: a take appends, repeats or is refused, a withdrawal drops or is refused, a
-- show answers or is refused. Callers go by these cases and open no decision.
use mathlib.Core.Path.{◌≡◌, refl, sym, ap, ◌∙◌, subst}
use mathlib.Core.List.{List, [], ◌∷◌, ◌++◌}
use Prim.Native.Nat.{ℕ, suc, ◌-◌, ◌*◌, ◌≤◌}
use native.Mathlib.Omega.{arith}
use lib.IntN.{ℤ}
use lib.ListN.{length, take}
use Rattle.algebra.proofs.Choice.{pick_by_elim}
use Rattle.checks.specs.declared.Refusal.{Refusal}
use Rattle.checks.specs.Refusal.{refusal_number}
use Rattle.checks.specs.Told.{refused, results}
use Rattle.checks.specs.Outcome.{Outcome, outcome, untouched}
use Rattle.checks.specs.Prime.{IsModulus}
use Rattle.checks.specs.declared.Refusal.TheVariants.{Length, Number, Conflict, Withdrawal}
use Rattle.checks.specs.InOrder.{passed, ◌else◌, ◌⨾◌, in_order}
use Rattle.checks.specs.Decide.{long?}
use Rattle.checks.proofs.InOrder.{none_left, fails_here, or_later, in_order_done, in_order_refused, in_order_elim, in_order_map, in_order_then, kind_of_list, ◌and_then◌}
use Rattle.frame.specs.Reading.{frame_multipliers, frame_values, frame_checks, Found, accepted, rejected, read_frame}
use Rattle.frame.proofs.ReadKinds.{reading_elim}
use Rattle.ledger.specs.Ledger.{entry, Ledger, ledger, InSpan, GivesValues}
use Rattle.ledger.specs.Decide.{in_span?, gives_values?}
use Rattle.ledger.specs.Steps.{new_told, repeat_told, mix_words, take_in_span, take_accepted, ledger_take, ledger_withdraw, ledger_show}

-- a kind that take and show refuse by before they look at the standing frames: not 9, and not 11, which is for words that hold no ledger
abbrev pub EarlyKind : Refusal → Type 0
EarlyKind k = (refusal_number k ≡ 9 → ⊥) × (refusal_number k ≡ 11 → ⊥)

-- ---- take

-- what is rejected is rejected for one of these
abbrev Judged : Found → Type 0
Judged (accepted xs vs) = Unit {0}
Judged (rejected k) = EarlyKind k

read_judged : (p n s : ℕ) (bytes : List ℕ) → Judged (read_frame p n s bytes)
read_judged p n s bytes = reading_elim Judged p n s bytes (λ xs vs. tt) (λ k r. (λ e. omega arith, λ e. omega arith))

-- what take comes to, from what reading found
module _ (p : ℕ) (ok : IsModulus p) (n s : ℕ) (l : Ledger) where
  unfoldable pub take_found : Found → List ℕ → Outcome (Ledger × List ℕ)
  take_found (accepted xs vs) mix = take_accepted p ok n s l xs vs mix
  take_found (rejected k) mix = untouched (l, mix) k

  -- a mix of another length is refused by 3, whatever the frame
  pub take_length_first : (frame mix : List ℕ) → (length mix ≡ n → ⊥) → ledger_take p ok n s l frame mix ≡ untouched (l, mix) Length
  unfolding ledger_take
  take_length_first frame mix h = in_order_refused _ _ (fails_here h)

  -- past the length of the mix
  pub take_found_lem : (frame mix : List ℕ)
      → ledger_take p ok n s l frame mix
      ≡ in_order (long? mix n else Length ⨾ passed) (λ _. take_found (read_frame p n s frame) mix) (untouched (l, mix))
  unfolding ledger_take read_frame take_found
  take_found_lem frame mix =
      let o = take_accepted p ok n s l (frame_multipliers p n frame) (frame_values p n s frame) mix in
      let lent : Ledger × List ℕ = (l, mix) in
      in_order_then (long? mix n else Length ⨾ passed) (frame_checks p n s frame) o (untouched lent)
      ∙ ap (λ x. in_order (long? mix n else Length ⨾ passed) (λ _. x) (untouched (l, mix)))
      (sym (in_order_map (λ f. take_found f mix) (frame_checks p n s frame) _ _))

module _ (p : ℕ) (ok : IsModulus p) (n s : ℕ) (l : Ledger) (frame mix : List ℕ) where
  pub data Took : Outcome (Ledger × List ℕ) → Type 0 where
    new : (xs vs : List ℕ) → read_frame p n s frame ≡ accepted xs vs → (InSpan p n l.entries xs → ⊥)
        → Took (outcome (new_told (suc (length l.entries))) (ledger (l.entries ++ (entry xs vs ∷ [])), mix))
    repeat : (xs vs : List ℕ) → read_frame p n s frame ≡ accepted xs vs → (c : InSpan p n l.entries xs)
        → GivesValues p s l.entries c.0 vs
        → Took (outcome (repeat_told (length l.entries)) (l, mix_words p n l.entries c.0))
    conflict : (xs vs : List ℕ) → read_frame p n s frame ≡ accepted xs vs → (c : InSpan p n l.entries xs)
        → (GivesValues p s l.entries c.0 vs → ⊥)
        → Took (outcome (refused Conflict) (l, mix_words p n l.entries c.0))
    refusal : (k : Refusal) → EarlyKind k → Took (untouched (l, mix) k)

  pub took : Took (ledger_take p ok n s l frame mix)
  unfolding take_found take_accepted take_in_span
  took =
      subst Took (sym (take_found_lem p ok n s l frame mix))
      (in_order_elim _ _ Took (λ _. go (read_frame p n s frame) refl (read_judged p n s frame))
      (λ k f. refusal k (kind_of_list EarlyKind ((λ e. omega arith, λ e. omega arith), λ _. tt) f)))
    where
      combined : (xs vs : List ℕ) → read_frame p n s frame ≡ accepted xs vs → (c : InSpan p n l.entries xs)
          → Took (take_in_span p ok n s l vs c.0)
      combined xs vs e c = by_value (gives_values? p s l.entries c.0 vs)
        where
          by_value : Dec (GivesValues p s l.entries c.0 vs) → Took (take_in_span p ok n s l vs c.0)
          by_value (yes g) = subst Took (sym (in_order_done _ _ _ (g and_then none_left) (λ _. refl))) (repeat xs vs e c g)
          by_value (no f) = subst Took (sym (in_order_refused _ _ (fails_here f))) (conflict xs vs e c f)

      go : (f : Found) → read_frame p n s frame ≡ f → Judged f → Took (take_found p ok n s l f mix)
      go (accepted xs vs) e j = pick_by_elim Took (in_span? p ok n l.entries xs) _ _ (combined xs vs e) (new xs vs e)
      go (rejected k) e j = refusal k j

-- ---- withdraw

pub data Withdrew (l : Ledger) (t : ℕ) : Outcome Ledger → Type 0 where
  dropped : t ≤ length l.entries
      → Withdrew l t (outcome (results (length l.entries - t)) (ledger (take (length l.entries - t) l.entries)))
  overlong : Withdrew l t (untouched l Withdrawal)

pub withdrew : (l : Ledger) (t : ℕ) → Withdrew l t (ledger_withdraw l t)
unfolding ledger_withdraw
withdrew l t =
    in_order_elim _ _ (Withdrew l t) (λ hs. dropped hs.0)
    (λ k f. subst (λ q. Withdrew l t (untouched l q)) (sym (kind_of_list (λ q. q ≡ Withdrawal) (refl, λ _. tt) f)) overlong)

-- ---- show

-- marks or numbers of another length are refused by 3, whatever the low end
pub show_lengths_first : (p : ℕ) (ok : IsModulus p) (n s : ℕ) (l : Ledger) (low : ℕ) (marks : List ℕ) (zs : List ℤ)
    → (length marks ≡ n → length zs ≡ n * s → ⊥) → ledger_show p ok n s l low marks zs ≡ untouched (marks, zs) Length
unfolding ledger_show
show_lengths_first p ok n s l low marks zs bad = in_order_refused _ _ (or_later (λ h. fails_here (bad h)))

-- what is told: n minus the count, or a refusal that is neither 9 nor 11
pub data Showed (n : ℕ) (l : Ledger) : Outcome (List ℕ × List ℤ) → Type 0 where
  answered : (lent : List ℕ × List ℤ) → Showed n l (outcome (results (n - length l.entries)) lent)
  unshown : (lent : List ℕ × List ℤ) (k : Refusal) → EarlyKind k → Showed n l (untouched lent k)

pub showed : (p : ℕ) (ok : IsModulus p) (n s : ℕ) (l : Ledger) (low : ℕ) (marks : List ℕ) (zs : List ℤ)
    → Showed n l (ledger_show p ok n s l low marks zs)
unfolding ledger_show
showed p ok n s l low marks zs =
    in_order_elim _ _ (Showed n l) (λ _. answered _)
    (λ k f. unshown (marks, zs) k (kind_of_list EarlyKind (three, λ _. (three, λ _. (four, λ _. tt))) f))
  where
    three : EarlyKind Length
    three = (λ e. omega arith, λ e. omega arith)

    four : EarlyKind Number
    four = (λ e. omega arith, λ e. omega arith)
