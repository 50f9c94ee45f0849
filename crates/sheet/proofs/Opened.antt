-- An accepted open: its words are a board of one word a record, since otherwise open would have told a refusal.
use mathlib.Core.Path.{◌≡◌, sym, ap, ◌∙◌, subst}
use mathlib.Core.List.{List}
use Prim.Native.Nat.{ℕ}
use Rattle.checks.specs.Outcome.{Outcome, outcome}
use Rattle.ledger.specs.Calls.{open_call}
use Rattle.std.specs.Prelude.{Result, Ok}
use Rattle.checks.specs.declared.Refusal.{Refusal}
use Rattle.checks.specs.Told.{done_told}
use Rattle.sheet_heat.specs.Sheet.{sheet_words}
use Rattle.sheet_heat.specs.Calls.{SheetBoard}
use Rattle.sheet_heat.proofs.Boards as boards

module _ (p n : ℕ) (us ws : List ℕ) (r : Result Unit Refusal) (h : r ≡ Ok tt) (e : outcome (done_told r) us ≡ open_call p n sheet_words ws) where
  accepted : (open_call p n sheet_words ws).told.number ≡ 0
  accepted = ap (λ (o : Outcome (List ℕ)). o.told.number) (sym e) ∙ ap (λ (x : Result Unit Refusal). (done_told x).number) h

  pub opened_board : SheetBoard us
  opened_board = subst SheetBoard (sym (ap (λ (o : Outcome (List ℕ)). o.lent) e)) (boards.opened_board p n ws accepted)
