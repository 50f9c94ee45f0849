-- `codec::put_signed` meets its contract: below 0 it puts a minus and the digits of the size, from 0 on the digits alone.
use mathlib.Core.Path.{◌≡◌, ap}
use mathlib.Core.List.{◌++◌}
use Prim.Native.Nat.{suc, ◌≤◌}
use native.Mathlib.Omega.{arith}
use lib.IntN.{nat_abs}
use lib.ListN.{length}
use mir.Syntax.{w32}
use mir.ValLaws.{to_z-of_z}
use Rattle.codec.specs.Decimal.{decimal, minus, signed_decimal}
use Rattle.codec.proofs.Signs.{digits_below, digits_from}
use Rattle.codec.proofs.Placed.{put_then}
use Rattle.codec.proofs.put_signed.Goals as goal
use Rattle.codec.proofs.put_signed.Goals.{Else-z-lt0, Then-z-lt0}

-- the digits on either side of 0
below : (c : Then-z-lt0) → signed_decimal c.args.z ≡ minus ++ decimal c.unsigned_abs-size.result
below c =
    let size : c.unsigned_abs-size.result ≡ nat_abs c.args.z = rw (to_z-of_z w32 c.args.z c.ranges.z) at c.unsigned_abs-size.ensures.value in
    rw size (digits_below c.args.z (rw (to_z-of_z w32 c.args.z c.ranges.z) at c.if-z-lt0.true))

from : (c : Else-z-lt0) → signed_decimal c.args.z ≡ decimal c.unsigned_abs-size.result
from c =
    let size : c.unsigned_abs-size.result ≡ nat_abs c.args.z = rw (to_z-of_z w32 c.args.z c.ranges.z) at c.unsigned_abs-size.ensures.value in
    rw size (digits_from c.args.z (rw (to_z-of_z w32 c.args.z c.ranges.z) at c.if-z-lt0.false))

longer : (c : Then-z-lt0) → length (signed_decimal c.args.z) ≡ suc (length (decimal c.unsigned_abs-size.result))
unfolding minus
longer c = ap length (below c)

pub put_bytes-end-requires : goal.put_bytes-end-requires
put_bytes-end-requires c = let l = longer (goal.at.put_bytes-end-requires c).Then-z-lt0 in omega arith

pub put_decimal-requires : goal.put_decimal-requires
put_decimal-requires c =
    let l = longer (goal.at.put_decimal-requires c).Then-z-lt0 in
    let w = c.put_bytes-end in
    omega (arith, w.ensures.end, w.auto.out)

pub returns-then-z-lt0 : goal.returns-then-z-lt0
unfolding minus
returns-then-z-lt0 c =
    let a = c.args in
    let inside : a.at ≤ length a.out.now = omega arith in
    rw (below (goal.at.returns-then-z-lt0 c).Then-z-lt0) (put_then inside c.put_bytes-end.ensures c.put_decimal.ensures)

pub put_decimal-requires-2 : goal.put_decimal-requires-2
put_decimal-requires-2 c = let l = ap length (from (goal.at.put_decimal-requires-2 c).Else-z-lt0) in omega arith

pub returns : goal.returns
returns c = rw (from (goal.at.returns c).Else-z-lt0) c.put_decimal-2.ensures
