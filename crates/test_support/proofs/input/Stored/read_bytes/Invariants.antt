-- What came stands at the front of the bytes; the measure is what there is room for still.
use Rattle.std.proofs.Common.{length, ◌-◌, ◌≤◌}
use Rattle.test_support.proofs.input.Stored.read_bytes.Given as goal

abbrev pub invariant-loop-came : goal.invariant-loop-came
invariant-loop-came l = l.came ≤ length l.bytes

abbrev pub decreases-loop-came : goal.decreases-loop-came
decreases-loop-came l = length l.initial.bytes - l.came
