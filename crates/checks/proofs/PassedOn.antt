-- What a caller has of an answer whose error is a refusal: `?` hands on the refusal that it met, since a kind is converted to itself; and
-- whether a function that went through a list of checks answers an error tells whether all hold.
use Rattle.std.specs.Prelude.{◌≡◌, true, false, Result, Ok, Err, IsErrAnd, is_err}
use mathlib.Core.Bool.{true≢false, false≢true}
use mathlib.Core.Path.{ap}
use Rattle.checks.specs.declared.Refusal.{Refusal}
use Rattle.checks.specs.InOrder.{Checks, AllHold, FirstFailing}
use Rattle.checks.specs.Sizes.{Judges}

pub refused_on : {T : Type 0} (r : Result T Refusal) {k : Refusal} → IsErrAnd r (λ e. e ≡ k) → r ≡ Err k
refused_on (Err e) h = ap Err h
refused_on (Ok _) h = elim h [ ]

pub no_error_holds : {cs : Checks Refusal} (r : Result Unit Refusal) → Judges cs r → is_err r ≡ false → AllHold cs
no_error_holds (Ok _) h e = h
no_error_holds (Err k) h e = absurd (true≢false e)

pub error_fails : {cs : Checks Refusal} (r : Result Unit Refusal) → Judges cs r → is_err r ≡ true → (k : Refusal) × FirstFailing cs k
error_fails (Ok _) h e = absurd (false≢true e)
error_fails (Err k) h e = (k, h)
