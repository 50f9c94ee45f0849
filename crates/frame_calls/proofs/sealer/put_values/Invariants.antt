-- `frame_calls::sealer::put_values` meets its contract. The loop's invariant: the first u values are those of their words.
use mathlib.Core.Path.{◌≡◌}
use Prim.Native.Nat.{ℕ, ◌<◌}
use lib.ListN.{length, get_or}
use Rattle.frame.specs.Sealing.{sealed_word}
use Rattle.frame_calls.proofs.sealer.put_values.Given as goal

abbrev pub invariant-loop-u : goal.invariant-loop-u
invariant-loop-u l =
    (w : ℕ) → w < l.u → get_or l.values w 0 ≡ sealed_word l.p (length l.multipliers) (length l.initial.values) l.records l.multipliers w
