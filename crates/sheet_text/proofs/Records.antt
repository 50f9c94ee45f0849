-- What is printed of a record is at most as long as an i32 with its sign.
use mathlib.Core.Bool.{Bool, true, false}
use Prim.Native.Nat.{ℕ, ◌≤◌}
use native.Mathlib.Omega.{arith}
use lib.Dec.{eqb}
use lib.IntN.{ℤ}
use lib.ListN.{length}
use mir.Syntax.{w32}
use mir.Val.{SFits}
use Rattle.algebra.specs.Choice.{choose}
use Rattle.codec.specs.Decimal.{signed_decimal}
use Rattle.codec.proofs.Signs.{signed_at_most}
use Rattle.sheet_text.specs.Lines.{record_text, unknown_word}

pub record_at_most : (mark : ℕ) (z : ℤ) → SFits w32 z → length (record_text mark z) ≤ 11
unfolding record_text unknown_word
record_at_most mark z f = go (eqb mark 1)
  where
    go : (t : Bool) → length (choose t (signed_decimal z) unknown_word) ≤ 11
    go true = signed_at_most z f
    go false = omega arith
