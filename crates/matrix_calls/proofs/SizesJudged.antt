-- What `checks::table_sizes` answers, as a fact and not as an arm of a match: 1 and 2 hold, or the kind of the first that fails, before
-- whatever else is checked.
use Rattle.std.specs.Prelude.{◌≡◌, ℕ, Result, Ok, Err}
use mathlib.Core.Path.{subst}
use Rattle.checks.specs.declared.Refusal.{Refusal}
use Rattle.checks.specs.InOrder.{Checks, Given, then_checks, FirstFailing}
use Rattle.checks.specs.Sizes.{table_sizes, Judges}
use Rattle.checks.proofs.InOrder.{given}
use Rattle.checks.proofs.TableSizes.{sizes_first}

module _ {p m n : ℕ} {v : Result Unit Refusal} (told : Judges (table_sizes p m n) v) where
  pub sizes_passed : {u : Unit} → v ≡ Ok u → Given (table_sizes p m n)
  sizes_passed e = given (subst (Judges (table_sizes p m n)) e told)

  pub sizes_failed : {k : Refusal} {rest : Checks Refusal} → v ≡ Err k
      → FirstFailing (then_checks (table_sizes p m n) (λ _. rest)) k
  sizes_failed e = sizes_first (subst (Judges (table_sizes p m n)) e told)
