-- What is put at the front of the buffer is a line, and stands in it.
use mathlib.Core.Path.{ap, ◌∙◌}
use mathlib.Core.List.{List}
use Prim.Native.Nat.{ℕ, ◌≤◌}
use native.Mathlib.Nat.{zero-add}
use native.Mathlib.Omega.{arith}
use lib.ListN.{length, drop, length-append}
use Rattle.codec.specs.Placed.{Put}
use Rattle.codec.proofs.Placed.{placed_front}
use Rattle.sheet_text.specs.Written.{Printed}

-- what is put at the front is a line
pub put_line : {r : ℕ} {line xs ys : List ℕ} → Put 0 line xs ys r → Printed line xs ys r
put_line {line = line} p = record { memory = p.memory; size = p.end ∙ zero-add (length line) }

-- a line that was written stands in the buffer: its length is at most the buffer's
pub printed_within : {r : ℕ} {line xs ys : List ℕ} → Printed line xs ys r → r ≤ length ys
printed_within {r} {line} {xs} {ys} p =
    omega (arith, p.size, ap length (p.memory ∙ placed_front line xs), length-append line (drop (length line) xs))
