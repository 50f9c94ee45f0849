-- `words::copy` meets its contract: the numbers from start on are put to the front.
use mathlib.Core.Path.{◌∙◌}
use Prim.Native.Nat.{◌+◌, ◌-◌}
use native.Mathlib.Nat.{zero-add}
use native.Mathlib.Omega.{arith}
use Rattle.words.proofs.Parts.{part_length, part_at}
use Rattle.words.proofs.copy.Goals as goal

pub returns : goal.returns
returns c =
    let a = c.args in
    let e = c.put.ensures in
    let size = a.start + a.n - a.start in
    let long = part_length a.xs.now a.start size (omega arith) in
    record {
      same_length = e.0;
      front = λ j h. (rw zero-add at (e.1 j (omega (arith, long)))) ∙ part_at a.xs.now a.start size j (omega arith);
      rest = λ j h. e.3 j (omega (arith, long));
    }
