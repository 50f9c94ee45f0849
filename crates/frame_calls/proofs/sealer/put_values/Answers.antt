-- `frame_calls::sealer::put_values` meets its contract. The loop's invariant: the first u values are those of their words.
use native.Mathlib.Omega.{arith}
use Rattle.frame.proofs.SealSums.{is_sealed}
use Rattle.frame_calls.proofs.sealer.put_values.Goals as goal

pub returns : goal.returns
returns c = is_sealed _ _ _ _ _ _ (omega arith) (λ w h. c.loop-u.invariant w (omega arith))
