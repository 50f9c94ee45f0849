-- A cut header is one line; behind a whole one stands the heat.
use Rattle.std.proofs.Common.{arith}
use Rattle.sheet.proofs.Whole.{on_ok, prints_cut, prints_behind}
use Rattle.sheet.proofs.run.Goals as goal

pub returns-in-Err : goal.returns-in-Err
returns-in-Err g c =
    let long = c.filled-bytes.ensures.0 in
    on_ok _ _ _ c.refused.ensures
    (prints_cut _ _ _ _ _ _ _ (omega (arith, long, c.read_full.auto.buffer)) c.in-Err.ensures c.in_ok-came.ensures.bytes
    (λ h. c.in_ok-came.ensures.end (omega (arith, h, long, c.read_full.auto.buffer))))

pub returns-in-Ok : goal.returns-in-Ok
returns-in-Ok g c =
    prints_behind _ _ _ _ _ _ _ _ _ (omega (arith, c.filled-bytes.ensures.0, c.read_full.auto.buffer)) c.in-Ok.ensures c.in_ok-came.ensures.bytes
    c.«open».ensures
