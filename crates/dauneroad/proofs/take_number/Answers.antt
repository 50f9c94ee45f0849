-- `dauneroad::take_number` meets its contract: the number told, whichever the answer is.
use Rattle.std.proofs.Common.{◌≡◌, rules}
use Rattle.board_solve.specs.declared.Taken.TheVariants.{New, Repeat}
use Rattle.dauneroad.proofs.take_number.Goals as goal

-- new
pub returns-in-Ok-New : goal.returns-in-Ok-New
returns-in-Ok-New c =
    let taken : c.in-Ok-New.field-0 ≡ New c.in-Ok-New.field-0-0 = search rules in
    rw (c.in-Ok-New.is, taken)

-- repeat
pub returns-in-Ok-Repeat : goal.returns-in-Ok-Repeat
returns-in-Ok-Repeat c =
    let taken : c.in-Ok-Repeat.field-0 ≡ Repeat c.in-Ok-Repeat.field-0-0 = search rules in
    rw (c.in-Ok-Repeat.is, taken)
