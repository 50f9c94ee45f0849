-- Where open is accepted the words are a board, and the frames and the ending are the heat's text; a refused open is its line.
use Rattle.sheet.proofs.Opened.{opened_board}
use Rattle.sheet.proofs.Whole.{on_ok, prints_refused, prints_opened}
use Rattle.sheet.proofs.heat.open_in.Goals as goal

pub take_all-requires : goal.take_all-requires
take_all-requires g c = opened_board _ _ _ _ _ c.in-Ok.is c.«open».ensures

pub returns-in_ok-take_all-in-Ok : goal.returns-in_ok-take_all-in-Ok
returns-in_ok-take_all-in-Ok g c =
    let t = c.in_ok-take_all-in-Ok.ensures.text in
    on_ok _ _ _ c.ending.ensures (prints_opened _ _ _ _ _ _ _ _ _ _ _ c.in-Ok.ensures t.1 t.2)

pub returns-in-Err : goal.returns-in-Err
returns-in-Err g c = on_ok _ _ _ c.refused.ensures (prints_refused _ _ _ _ _ _ _ _ c.in-Err.ensures)
