-- What open answers: refused by the first of its checks that fails, or done with a fresh board.
use mathlib.Core.Path.{◌≡◌, refl, sym, ap, ◌∙◌}
use mathlib.Core.List.{List}
use Prim.Native.Nat.{ℕ}
use lib.ListN.{length}
use Rattle.checks.specs.declared.Refusal.{Refusal}
use Rattle.checks.specs.declared.Refusal.TheVariants.{Length}
use Rattle.checks.specs.InOrder.{Checks, passed, ◌else◌, ◌⨾◌, Given, AllHold, FirstFailing}
use Rattle.checks.specs.Decide.{long?}
use Rattle.checks.specs.Told.{done}
use Rattle.checks.specs.Outcome.{outcome, untouched}
use Rattle.checks.specs.Sizes.{frame_sizes}
use Rattle.checks.proofs.InOrder.{none_left, fails_here, hold_and_then, fails_in_front, fails_then, in_order_done, in_order_refused, ◌and_then◌}
use Rattle.ledger.specs.Board.{board_length}
use Rattle.ledger.specs.Calls.{open_checks, open_call}
use Rattle.ledger.specs.Changes.{Fresh}
use Rattle.ledger.proofs.LayoutChanges.{fresh_layout}

module _ (p n s : ℕ) (ws : List ℕ) where
  -- 3, which stands after 1, 2 and 12
  abbrev length_check : Given (frame_sizes p n s) → Checks Refusal
  length_check _ = long? ws (board_length n s) else Length ⨾ passed

  by_check : {k : Refusal} → FirstFailing (open_checks p n s ws) k → untouched ws k ≡ open_call p n s ws
  unfolding open_call
  by_check f = sym (in_order_refused _ _ f)

  -- 1, 2, 12
  pub open_no_sizes : {k : Refusal} → FirstFailing (frame_sizes p n s) k → untouched ws k ≡ open_call p n s ws
  open_no_sizes f = by_check (fails_in_front (frame_sizes p n s) length_check f)

  module _ (sizes : AllHold (frame_sizes p n s)) where
    pub open_no_length : (length ws ≡ board_length n s → ⊥) → untouched ws Length ≡ open_call p n s ws
    open_no_length h = by_check (fails_then (frame_sizes p n s) length_check sizes (λ _. fails_here h))

    all_hold : length ws ≡ board_length n s → AllHold (open_checks p n s ws)
    all_hold h = hold_and_then {more = length_check} sizes (λ _. h and_then none_left)

    pub open_done : length ws ≡ board_length n s → (cs : List ℕ) → Fresh p n s cs → outcome done cs ≡ open_call p n s ws
    unfolding open_call
    open_done h cs f = ap (outcome done) (fresh_layout p n s cs f) ∙ sym (in_order_done _ _ _ (all_hold h) (λ _. refl))
