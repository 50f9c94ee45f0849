-- `sheet_text::header` meets its contract: fewer than five bytes are a cut header, and the first four of five are p.
use mathlib.Core.Path.{sym}
use native.Mathlib.Omega.{arith}
use Rattle.sheet_text.proofs.Input.{header_cut, header_open}
use Rattle.sheet_text.proofs.header.Goals as goal

pub returns-then-bytes-lt5 : goal.returns-then-bytes-lt5
returns-then-bytes-lt5 c = sym (header_cut c.args.bytes.now (omega arith))

pub overflow_cast-result : goal.overflow_cast-result
overflow_cast-result c = omega (arith, c.shared_slice_known-2-1.given 4)

pub returns : goal.returns
returns c = rw c.number_at.ensures.1 (sym (header_open c.args.bytes.now (omega arith)))
