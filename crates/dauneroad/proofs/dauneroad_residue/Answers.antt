-- `dauneroad_residue` meets its contract: it tells the number of the answer below it, and the residue is handed on.
use mathlib.Core.Path.{◌≡◌, ap}
use mir.Syntax.{w32}
use mir.ValLaws.{to_z-of_z}
use Rattle.checks.specs.declared.Refusal.{Refusal}
use Rattle.std.specs.Prelude.{Result, Ok, Err, ℤ, ℕ}
use Rattle.checks.specs.Told.{value_told}
use Rattle.dauneroad.specs.Exports.{number_or, answer, residue_answer}
use Rattle.dauneroad.proofs.dauneroad_residue.Goals as goal
use Rattle.dauneroad.proofs.dauneroad_residue.Goals.{After-residue}

-- what is told of the answer, whichever it is, with the lent memory
told : (c : After-residue) (t : Result ℕ Refusal) → c.residue.result ≡ t
    → let a = c.args in
    answer (value_told t).number (number_or a.residue.now (value_told t).values)
    ≡ residue_answer a.p a.low a.«record» a.residue.now
told c t e =
    ap (λ r. answer r.told.number (number_or c.args.residue.now r.told.values))
    (rw (e, to_z-of_z w32 c.args.«record» c.ranges.«record») at c.residue.ensures)

pub returns-in-Ok : goal.returns-in-Ok
returns-in-Ok c = told (goal.at.returns-in-Ok c).After-residue (Ok _) c.in-Ok.is

pub returns-in-Err : goal.returns-in-Err
returns-in-Err c = rw c.from.ensures (told (goal.at.returns-in-Err c).After-residue (Err _) c.in-Err.is)
