-- The two calls undo each other for every low end: what signed gives for a residue, residue takes back to it, and what residue gives for a
-- record, signed reads as that record. 01: "Reading and its inverse undo each other on the whole range."
use mathlib.Core.Path.{◌≡◌, sym, ap, ◌∙◌, subst}
use Prim.Native.Nat.{ℕ, ◌<◌}
use lib.IntN.{ℤ, pos}
use Rattle.checks.specs.Told.{gives}
use Rattle.checks.specs.Prime.{IsModulus}
use Rattle.checks.specs.Outcome.{Outcome, outcome}
use Rattle.checks.proofs.Refusals.{given_value, refused_gives_none}
use Rattle.checks.proofs.InOrder.{in_order_elim}
use Rattle.signed.specs.Reading.{reading, residue_of, IsRecord}
use Rattle.signed.specs.Calls.{signed_call, residue_call}
use Rattle.signed.proofs.Calls.{low_checks_hold, signed_done, residue_done}
use Rattle.signed.proofs.Readings.{reading_is_record, residue_of_reading, reading_of_residue}

module _ (p low : ℕ) where
  -- signed, then residue
  pub signed_then_residue : (v : ℕ) (z : ℤ) → (signed_call p low v).told ≡ gives z → residue_call p low z ≡ outcome (gives (pos v)) tt
  unfolding signed_call
  signed_then_residue v z =
      in_order_elim _ _ (λ (o : Outcome (Unit {0})). o.told ≡ gives z → residue_call p low z ≡ outcome (gives (pos v)) tt)
      (λ (ok, (l, (h, _))) e. back ok l h (given_value e))
      (λ k _ e. absurd (refused_gives_none k z e))
    where
      back : IsModulus p → low < p → v < p → reading p low v ≡ z → residue_call p low z ≡ outcome (gives (pos v)) tt
      back ok l h e =
          subst (λ y. residue_call p low y ≡ outcome (gives (pos v)) tt) e
          (sym (residue_done p low (low_checks_hold p low ok l) (reading p low v) (reading_is_record p low v l h))
          ∙ ap (λ k. outcome (gives (pos k)) tt) (residue_of_reading p low v h))

  -- residue, then signed
  pub residue_then_signed : (z : ℤ) (v : ℕ) → (residue_call p low z).told ≡ gives (pos v) → signed_call p low v ≡ outcome (gives z) tt
  unfolding residue_call
  residue_then_signed z v =
      in_order_elim _ _ (λ (o : Outcome (Unit {0})). o.told ≡ gives (pos v) → signed_call p low v ≡ outcome (gives z) tt)
      (λ (ok, (l, (r, _))) e. back ok l r (given_value e))
      (λ k _ e. absurd (refused_gives_none k (pos v) e))
    where
      back : IsModulus p → low < p → IsRecord p low z → pos (residue_of p z) ≡ pos v → signed_call p low v ≡ outcome (gives z) tt
      back ok l r e =
          let (below, same) = reading_of_residue p low z l r in
          let v-is : residue_of p z ≡ v = cc in
          subst (λ k. signed_call p low k ≡ outcome (gives z) tt) v-is
          (sym (signed_done p low (low_checks_hold p low ok l) (residue_of p z) below)
          ∙ ap (λ y. outcome (gives y) tt) same)
