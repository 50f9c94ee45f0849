-- What signed and residue come to: refused by the first check that fails, or done.
use mathlib.Core.Path.{◌≡◌, refl, sym}
use Prim.Native.Nat.{ℕ, ◌<◌}
use lib.IntN.{ℤ, pos}
use Rattle.checks.specs.declared.Refusal.{Refusal}
use Rattle.checks.specs.Told.{gives}
use Rattle.checks.specs.Outcome.{outcome, untouched}
use Rattle.checks.specs.declared.Refusal.TheVariants.{Number}
use Rattle.checks.specs.Prime.{IsModulus}
use Rattle.checks.specs.InOrder.{AllHold, FirstFailing}
use Rattle.checks.proofs.InOrder.{none_left, fails_here, in_order_done, in_order_refused, hold_and_then, fails_in_front, fails_then, ◌and_then◌}
use Rattle.signed.specs.Reading.{reading, residue_of, IsRecord}
use Rattle.signed.specs.Calls.{low_checks, signed_rest, signed_call, residue_rest, residue_call}

module _ (p low : ℕ) where
  -- a low end that is none is refused whatever comes behind it
  pub signed_no_low : (v : ℕ) {k : Refusal} → FirstFailing (low_checks p low) k → untouched tt k ≡ signed_call p low v
  unfolding signed_call
  signed_no_low v f = sym (in_order_refused _ _ (fails_in_front (low_checks p low) (λ _. signed_rest p v) f))

  pub residue_no_low : (z : ℤ) {k : Refusal} → FirstFailing (low_checks p low) k → untouched tt k ≡ residue_call p low z
  unfolding residue_call
  residue_no_low z f = sym (in_order_refused _ _ (fails_in_front (low_checks p low) (λ _. residue_rest p low z) f))

  module _ (lowered : AllHold (low_checks p low)) where
    pub signed_refused : (v : ℕ) → (v < p → ⊥) → untouched tt Number ≡ signed_call p low v
    unfolding signed_call
    signed_refused v f = sym (in_order_refused _ _ (fails_then (low_checks p low) (λ _. signed_rest p v) lowered (λ _. fails_here f)))

    pub signed_done : (v : ℕ) → v < p → outcome (gives (reading p low v)) tt ≡ signed_call p low v
    unfolding signed_call
    signed_done v h =
        sym
        (in_order_done _ _ _ (hold_and_then {cs = low_checks p low} {more = λ _. signed_rest p v} lowered (λ _. h and_then none_left)) (λ _. refl))

    pub residue_refused : (z : ℤ) → (IsRecord p low z → ⊥) → untouched tt Number ≡ residue_call p low z
    unfolding residue_call
    residue_refused z f = sym (in_order_refused _ _ (fails_then (low_checks p low) (λ _. residue_rest p low z) lowered (λ _. fails_here f)))

    pub residue_done : (z : ℤ) → IsRecord p low z → outcome (gives (pos (residue_of p z))) tt ≡ residue_call p low z
    unfolding residue_call
    residue_done z r =
        sym
        (in_order_done _ _ _ (hold_and_then {cs = low_checks p low} {more = λ _. residue_rest p low z} lowered (λ _. r and_then none_left)) (λ _. refl))

-- where the low end's checks hold
pub low_checks_hold : (p low : ℕ) → IsModulus p → low < p → AllHold (low_checks p low)
low_checks_hold p low ok l = ok and_then l and_then none_left
