-- `field::arith::inverse` meets its contract. The loop's invariant: x is from 1 and below p, y is not 1 or 0, s is not 0, and they
-- are where Euclid's steps from a and p lead (`proofs/Euclid.antt`). The measure is x.
use mathlib.Core.Path.{◌≡◌}
use Prim.Native.Nat.{◌%◌, ◌<◌}
use native.Mathlib.Nat.{mod-lt}
use native.Mathlib.Omega.{arith}
use Rattle.field.proofs.Euclid.{divide_second, divide_first, second_fits, first_fits, first_up_to, second_up_to}
use Rattle.field.proofs.Euclid.{first_below, second_above, second_positive, first_positive, first_inverse, second_inverse}
use Rattle.field.proofs.arith.inverse.Goals as goal
use Rattle.field.proofs.arith.inverse.Goals.{Else-y-eq1}

pub loop-x-init : goal.loop-x-init
loop-x-init c = (
  omega arith,
  omega arith,
  omega arith,
  omega arith,
  record { over = 0; under = 1; first = omega arith; second = omega arith; whole = omega arith },
)

pub overflow_mul-t : goal.overflow_mul-t
overflow_mul-t c = omega (arith, second_fits c.loop-x.invariant.4)

pub overflow_add-t : goal.overflow_add-t
overflow_add-t c = omega (arith, second_up_to (omega arith) (divide_second c.loop-x.invariant.4))

pub overflow_sub-result : goal.overflow_sub-result
overflow_sub-result c = second_up_to (omega arith) (divide_second c.loop-x.invariant.4)

pub returns-then-y-eq1 : goal.returns-then-y-eq1
returns-then-y-eq1 c =
    let i = c.loop-x.invariant in
    let e = rw c.if-y-eq1.true at (divide_second i.4) in
    (omega (arith, second_above (first_below i.2 i.3 i.4) e), second_inverse (second_up_to i.0 e) e)

-- the rest of y is not 0: p is prime
rest_positive :
    (c : Else-y-eq1) → 0 < c.loop-x.y % c.loop-x.x
rest_positive c =
    second_positive c.requires.0.prime (omega arith) c.loop-x.invariant.1 (divide_second c.loop-x.invariant.4)

pub nonzero_div-s : goal.nonzero_div-s
nonzero_div-s c = rest_positive (goal.at.nonzero_div-s c).Else-y-eq1

pub overflow_mul-s : goal.overflow_mul-s
overflow_mul-s c = omega (arith, first_fits (divide_second c.loop-x.invariant.4))

pub overflow_add-s : goal.overflow_add-s
overflow_add-s c = omega (arith, first_up_to (rest_positive (goal.at.overflow_add-s c).Else-y-eq1) (divide_first (divide_second c.loop-x.invariant.4)))

pub nonzero_rem-x : goal.nonzero_rem-x
nonzero_rem-x c = rest_positive (goal.at.nonzero_rem-x c).Else-y-eq1

pub loop-x-smaller : goal.loop-x-smaller
loop-x-smaller c =
    let l = c.loop-x in
    omega (arith, mod-lt l.x (rest_positive (goal.at.loop-x-smaller c).Else-y-eq1), mod-lt l.y l.invariant.0)

pub loop-x-preserved : goal.loop-x-preserved
loop-x-preserved c =
    let e = divide_first (divide_second c.loop-x.invariant.4) in
    let y = c.loop-x.y % c.loop-x.x in
    let less : y < c.loop-x.x = mod-lt c.loop-x.y c.loop-x.invariant.0 in
    let two : 1 < y = omega (arith, rest_positive (goal.at.loop-x-preserved c).Else-y-eq1, c.if-y-eq1.false) in (
      first_positive c.requires.0.prime two (omega arith) e,
      omega (arith, mod-lt c.loop-x.x (rest_positive (goal.at.loop-x-preserved c).Else-y-eq1)),
      two,
      omega arith,
      e,
    )

pub returns : goal.returns
returns c =
    let i = c.loop-x.invariant in
    let one : c.loop-x.x ≡ 1 = omega arith in
    (first_below i.2 i.3 i.4, first_inverse (rw one at i.4))
