-- The checks of signed and of residue in order, and what each call comes to. 01: "Called from outside, each checks 1, then 4."; 02, #106:
-- "An L of p or more is 4". Both numbers that 4 is about are looked at in the order of the arguments. Nothing is lent to be written.
use Rattle.std.specs.Prelude.{ℕ, ℤ, pos}
use Rattle.std.proofs.Math.Decide.{dec_lt}
use Rattle.checks.specs.declared.Refusal.{Refusal}
use Rattle.checks.specs.declared.Refusal.TheVariants.{Modulus, Number}
use Rattle.checks.specs.Told.{gives}
use Rattle.checks.specs.Outcome.{Outcome, outcome, untouched}
use Rattle.checks.specs.InOrder.{Checks, passed, ◌else◌, ◌⨾◌, then_checks, in_order}
use Rattle.checks.specs.Decide.{modulus?}
use Rattle.signed.specs.Reading.{reading, residue_of}
use Rattle.signed.specs.Decide.{record?}

-- what both check first: 1, then 4 of the low end
abbrev pub low_checks : (p low : ℕ) → Checks Refusal
low_checks p low = modulus? p else Modulus ⨾ dec_lt low p else Number ⨾ passed

-- the signed reading of v modulo p, with the low end
abbrev pub signed_rest : (p v : ℕ) → Checks Refusal
signed_rest p v = dec_lt v p else Number ⨾ passed

abbrev pub signed_checks : (p low v : ℕ) → Checks Refusal
signed_checks p low v = then_checks (low_checks p low) (λ _. signed_rest p v)

unfoldable pub signed_call : (p low v : ℕ) → Outcome (Unit {0})
signed_call p low v = in_order (signed_checks p low v) (λ _. outcome (gives (reading p low v)) tt) (untouched tt)

-- the residue that the record z modulo p is read from, with the low end
abbrev pub residue_rest : (p low : ℕ) (z : ℤ) → Checks Refusal
residue_rest p low z = record? p low z else Number ⨾ passed

abbrev pub residue_checks : (p low : ℕ) (z : ℤ) → Checks Refusal
residue_checks p low z = then_checks (low_checks p low) (λ _. residue_rest p low z)

unfoldable pub residue_call : (p low : ℕ) (z : ℤ) → Outcome (Unit {0})
residue_call p low z = in_order (residue_checks p low z) (λ _. outcome (gives (pos (residue_of p z))) tt) (untouched tt)
