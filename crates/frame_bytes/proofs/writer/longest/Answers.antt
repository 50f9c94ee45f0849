-- `frame_bytes::writer::longest` meets its contract.
use native.Mathlib.Omega.{arith}
use Rattle.frame.specs.Format.{longest}
use Rattle.frame_bytes.proofs.writer.longest.Goals as goal

pub returns : goal.returns
unfolding longest
returns c = omega arith
