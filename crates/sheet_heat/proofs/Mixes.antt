-- The mix that is lent to take: of n words, take tells the same and leaves the same ledger whatever they hold, and leaves n words.
use mathlib.Core.Path.{◌≡◌, refl, sym, ap, ◌∙◌}
use mathlib.Core.List.{List}
use Prim.Native.Nat.{ℕ, ◌≤◌}
use lib.ListN.{length}
use Rattle.algebra.specs.Choice.{pick_by}
use Rattle.checks.specs.Told.{Told}
use Rattle.checks.specs.Outcome.{Outcome}
use Rattle.checks.specs.Prime.{IsModulus}
use Rattle.checks.proofs.InOrder.{none_left, in_order_done, ◌and_then◌}
use Rattle.frame.specs.Reading.{Found, accepted, rejected, read_frame}
use Rattle.ledger.specs.Ledger.{Ledger}
use Rattle.ledger.specs.Decide.{in_span?}
use Rattle.ledger.specs.Steps.{take_accepted, ledger_take}
use Rattle.ledger.proofs.LedgerSteps.{take_found, take_found_lem, took}
use Rattle.ledger.proofs.Shown.{took_long}
use Rattle.sheet_heat.specs.Sheet.{sheet_words}

-- what is made of either choice alike is made of the pick
pick_by_alike : {P A B : Type 0} (g : A → B) (d : Dec P) (f : P → A) (a b : A) → g a ≡ g b → g (pick_by d f a) ≡ g (pick_by d f b)
unfolding pick_by
pick_by_alike g (yes h) f a b e = refl
pick_by_alike g (no h) f a b e = e

module _ (p : ℕ) (ok : IsModulus p) (n : ℕ) (l : Ledger) (frame : List ℕ) where
  -- past the length of the mix
  found : (mix : List ℕ) → length mix ≡ n → ledger_take p ok n sheet_words l frame mix ≡ take_found p ok n sheet_words l (read_frame p n sheet_words frame) mix
  found mix h = take_found_lem p ok n sheet_words l frame mix ∙ in_order_done _ _ _ (h and_then none_left) (λ _. refl)

  -- what is made of an outcome without its mix
  module _ {B : Type 0} (g : Told → Ledger → B) where
    abbrev made : Outcome (Ledger × List ℕ) → B
    made r = g r.told r.lent.0

    made_found : (f : Found) (mix ks : List ℕ) → made (take_found p ok n sheet_words l f mix) ≡ made (take_found p ok n sheet_words l f ks)
    unfolding take_found take_accepted
    made_found (accepted xs vs) mix ks = pick_by_alike made (in_span? p ok n l.entries xs) _ _ _ refl
    made_found (rejected k) mix ks = refl

    pub take_same : (mix ks : List ℕ) → length mix ≡ n → length ks ≡ n
        → made (ledger_take p ok n sheet_words l frame mix) ≡ made (ledger_take p ok n sheet_words l frame ks)
    take_same mix ks h e = ap made (found mix h) ∙ made_found (read_frame p n sheet_words frame) mix ks ∙ sym (ap made (found ks e))

  -- the mix keeps its length
  pub take_long : length l.entries ≤ n → (mix : List ℕ) → length mix ≡ n → length (ledger_take p ok n sheet_words l frame mix).lent.1 ≡ n
  take_long fits mix h = took_long p ok n sheet_words l frame mix (took p ok n sheet_words l frame mix) fits h
