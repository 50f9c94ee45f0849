-- `frame_bytes::width::width_of` meets its contract: each return is one of the width's four cases.
use mathlib.Core.Path.{sym}
use native.Mathlib.Omega.{arith}
use Rattle.frame.proofs.Widths.{width_one, width_two, width_three, width_four}
use Rattle.frame_bytes.proofs.width.width_of.Goals as goal

pub returns-then-p-le-ONE_BYTE : goal.returns-then-p-le-ONE_BYTE
returns-then-p-le-ONE_BYTE c = sym (width_one _ (omega arith))

pub returns-then-p-le65536 : goal.returns-then-p-le65536
returns-then-p-le65536 c = sym (width_two _ (omega arith) (omega arith))

pub returns-then-p-le16777216 : goal.returns-then-p-le16777216
returns-then-p-le16777216 c = sym (width_three _ (omega arith) (omega arith))

pub returns : goal.returns
returns c = sym (width_four _ (omega arith))
