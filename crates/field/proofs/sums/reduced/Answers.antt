-- `field::sums::reduced` meets its contract: the high limb is reduced first, so that the number put together again has 64 bits.
use Prim.Native.Nat.{◌+◌, ◌/◌}
use native.Mathlib.Omega.{arith}
use Rattle.field.specs.Residue.{reduce}
use Rattle.field.specs.Limbs.{limb_base, low, high}
use Rattle.field.proofs.Limbs.{high_fits, mod_fits, joined_fits, joined_mod}
use Rattle.field.proofs.sums.reduced.Goals as goal

pub overflow_add-top : goal.overflow_add-top
unfolding high
overflow_add-top c = high_fits c.args.hi c.args.lo c.requires.1 c.ranges.lo

pub overflow_mul-result : goal.overflow_mul-result
overflow_mul-result c = omega (arith, mod_fits c.args.p (c.args.hi + c.args.lo / limb_base) c.requires.0 c.ranges.p)

pub overflow_add-result : goal.overflow_add-result
unfolding low high
overflow_add-result c = joined_fits c.args.p (c.args.hi + high c.args.lo) c.args.lo c.requires.0 c.ranges.p

pub overflow_cast-result : goal.overflow_cast-result
overflow_cast-result c = mod_fits c.args.p _ c.requires.0 c.ranges.p

pub returns : goal.returns
unfolding low high reduce
returns c = joined_mod c.args.p c.args.lo c.args.hi
