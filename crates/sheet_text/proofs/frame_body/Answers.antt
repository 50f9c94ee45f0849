-- `sheet_text::frame_body` meets its contract: a frame is cut where fewer bytes came than its length says.
use mathlib.Core.Path.{sym}
use native.Mathlib.Omega.{arith}
use Rattle.sheet_text.proofs.Input.{body_cut, body_whole}
use Rattle.sheet_text.proofs.frame_body.Goals as goal

pub returns-then-came-length : goal.returns-then-came-length
returns-then-came-length c = let a = c.args in sym (body_cut a.length a.came (omega arith))

pub returns : goal.returns
returns c = let a = c.args in sym (body_whole a.length a.came (omega arith))
