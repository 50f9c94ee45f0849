-- What follows of the list of 1 and 2, in front of other checks: they hold and the first of the others that fails has its kind, or one
-- of them fails, whatever else is checked.
use Prim.Native.Nat.{ℕ}
use Rattle.checks.specs.declared.Refusal.{Refusal}
use Rattle.checks.specs.InOrder.{Checks, Given, then_checks, FirstFailing}
use Rattle.checks.specs.Sizes.{table_sizes}
use Rattle.checks.proofs.InOrder.{◌then◌, fails_in_front}

-- 1 and 2 hold, and then the first of the others that fails has the kind k
pub past_sizes : {p m n : ℕ} {cs : Checks Refusal} {k : Refusal} → Given (table_sizes p m n) → FirstFailing cs k
    → FirstFailing (then_checks (table_sizes p m n) (λ _. cs)) k
past_sizes s f = s.0 then s.1.0 then f

-- 1 or 2 fails, before whatever else is checked
pub sizes_first : {p m n : ℕ} {cs : Checks Refusal} {k : Refusal} → FirstFailing (table_sizes p m n) k
    → FirstFailing (then_checks (table_sizes p m n) (λ _. cs)) k
sizes_first {p} {m} {n} {cs} f = fails_in_front (table_sizes p m n) (λ _. cs) f
