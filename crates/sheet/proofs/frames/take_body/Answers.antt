-- A frame is cut where fewer bytes came than its length says; otherwise it is taken, and they are all its bytes.
use Rattle.std.proofs.Common.{arith, length}
use Rattle.sheet.proofs.Steps.{told_whole, told_cut, cut_written, cut_frame, whole_frame}
use Rattle.sheet.proofs.frames.take_body.Goals as goal

pub returns-in-Err : goal.returns-in-Err
returns-in-Err g c =
    let (fewer, six) = told_cut _ _ _ c.in-Err.ensures in
    record {
      sheet = c.requires;
      text =
          cut_frame _ _ _ _ _ _ (length c.args.frame.now) _ _ (omega (arith, fewer, c.read_full.auto.buffer)) c.in_ok-came.ensures.bytes
          (c.in_ok-came.ensures.end fewer) (cut_written _ _ _ six c.in_ok-refused.ensures);
    }

pub returns-clause-text : goal.returns-clause-text
returns-clause-text g c =
    whole_frame _ _ _ _ _ _ _ _ _ _ _ c.read_full.auto.buffer (omega (arith, c.read_full.auto.buffer, told_whole _ _ _ c.in_default.ensures)) c.in_ok-came.ensures.bytes
    c.in_ok-frame.ensures.line c.in_ok-frame.ensures.board c.in_ok-frame.ensures.mix
