-- `dauneroad_signed` meets its contract: it tells the number of the answer below it, and the record that is read is handed on.
use mathlib.Core.Path.{◌≡◌, ap}
use mir.Syntax.{w32}
use mir.Val.{SFits}
use mir.ValLaws.{to_z-of_z}
use Rattle.checks.specs.declared.Refusal.{Refusal}
use Rattle.std.specs.Prelude.{Result, Ok, Err, ℤ, ℕ}
use Rattle.checks.specs.Told.{signed_told}
use Rattle.dauneroad.specs.Exports.{value_or, answer, signed_answer}
use Rattle.dauneroad.proofs.dauneroad_signed.Goals as goal
use Rattle.dauneroad.proofs.dauneroad_signed.Goals.{After-signed}

-- what is told of the answer, whichever it is, with the lent memory
told : (c : After-signed) (t : Result ℤ Refusal) → c.signed.result ≡ t
    → let a = c.args in
    answer (signed_told t).number (value_or a.«record».now (signed_told t).values) ≡ signed_answer a.p a.low a.v a.«record».now
told c t e = ap (λ r. answer r.told.number (value_or c.args.«record».now r.told.values)) (rw e at c.signed.ensures)

pub returns-in-Ok : goal.returns-in-Ok
returns-in-Ok c =
    let fits : SFits w32 c.in-Ok.z = record { sfits = c.in-Ok.known_told-1-own.given.0.1 } in
    rw (to_z-of_z w32 c.in-Ok.z fits) (told (goal.at.returns-in-Ok c).After-signed (Ok _) c.in-Ok.is)

pub returns-in-Err : goal.returns-in-Err
returns-in-Err c = rw c.from.ensures (told (goal.at.returns-in-Err c).After-signed (Err _) c.in-Err.is)
