-- `sheet_heat::record_lines` meets its contract. The loop's invariant: the lines of the first j records stand at the front, of fifteen
-- bytes at most each.
use Prim.Native.Nat.{◌*◌, ◌≤◌}
use Rattle.codec.specs.Placed.{Put}
use Rattle.sheet_text.specs.Lines.{record_lines}
use Rattle.sheet_heat.proofs.record_lines.Given as goal

abbrev pub invariant-loop-j : goal.invariant-loop-j
invariant-loop-j l = Put 0 (record_lines l.j l.marks l.numbers) l.initial.out l.out l.at × (l.at ≤ 15 * l.j)
