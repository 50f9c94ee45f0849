-- `sheet_heat::show_lines` meets its contract: the records' lines and the missing line are those of what show left and answered, and
-- show is not refused.
use mathlib.Core.Path.{◌≡◌, ◌∙◌}
use Rattle.signed.specs.Balanced.{balanced_low}
use Rattle.ledger.specs.Board.{modulus_word}
use Rattle.sheet_heat.proofs.Written.{ending_written, show_not_refused}
use Rattle.sheet_heat.proofs.show_lines.Goals as goal
use Rattle.sheet_heat.proofs.show_lines.Goals.{After-balanced_low-low}

-- the low end that show is given is the old one
old-low : (c : After-balanced_low-low) → let a = c.args in
    c.balanced_low-low.result ≡ balanced_low (modulus_word a.board.now)
old-low c = c.balanced_low-low.ensures

pub returns-in-Ok : goal.returns-in-Ok
returns-in-Ok c =
    let pre = c.requires in
    ending_written pre.0 _ _ pre.1 pre.2 (c.show.auto.marks ∙ pre.1) (rw (c.in-Ok.is, old-low (goal.at.returns-in-Ok c).After-balanced_low-low) at c.show.ensures)
    c.record_lines-at.ensures.put c.missing_line.ensures

pub returns-in-Err : goal.returns-in-Err
returns-in-Err c =
    let pre = c.requires in
    absurd (show_not_refused _ pre.0 _ _ _ _ c.in-Err.field-0 pre.1 pre.2 (rw (c.in-Err.is, old-low (goal.at.returns-in-Err c).After-balanced_low-low) at c.show.ensures))
