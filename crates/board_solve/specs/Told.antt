-- What take's answer tells, as the firmware gets it: 0 for new and 100 for repeat, with the count; or the refusal's number.
use Rattle.std.specs.Prelude.{Result, Ok, Err}
use Rattle.checks.specs.declared.Refusal.{Refusal}
use Rattle.checks.specs.Told.{Told, refused}
use Rattle.ledger.specs.Steps.{new_told, repeat_told}
use Rattle.board_solve.specs.declared.Taken.{Taken}
use Rattle.board_solve.specs.declared.Taken.TheVariants as taking

abbrev pub take_told : Result Taken Refusal → Told
take_told (Ok (taking.New k)) = new_told k
take_told (Ok (taking.Repeat k)) = repeat_told k
take_told (Err k) = refused k
