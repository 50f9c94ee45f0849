-- What a call comes to: what is told, and what it leaves in the memory lent to it to be written, whatever that is. Every call's
-- definition gives one, and every call's contract equates one with it.
use Rattle.checks.specs.declared.Refusal.{Refusal}
use Rattle.checks.specs.Told.{Told, refused}

pub record Outcome (M : Type 0) : Type 0 where
  pub told : Told
  pub lent : M

abbrev pub outcome : {M : Type 0} → Told → M → Outcome M
outcome told lent = record { told = told; lent = lent }

-- refused by the kind, with the lent memory as it was
abbrev pub untouched : {M : Type 0} → M → Refusal → Outcome M
untouched lent k = outcome (refused k) lent
