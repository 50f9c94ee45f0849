-- `codec::put_bytes` meets its contract: what is copied to the part from `at` on is placed there.
use mathlib.Core.Path.{refl}
use native.Mathlib.Omega.{arith}
use Rattle.codec.proofs.Placed.{placed_part}
use Rattle.codec.proofs.put_bytes.Goals as goal

pub returns : goal.returns
returns c = record { memory = rw c.copy_from_slice.ensures.after (placed_part c.args.at _ _ _ (omega arith)); end = refl }
