-- `matrix_mul::limbs::Powers::folded` meets its contract: the parts of the number are put together with 2^32 and 2^64 modulo p.
use Rattle.field.specs.Residue.{reduce}
use Rattle.field.specs.Limbs.{low, high}
use Rattle.field.proofs.Limbs.{high_fits}
use Rattle.matrix_mul.proofs.Powers.{high_fits_times, low_fits_times, two_fit_times, three_fit_times, folded_mod}
use Rattle.matrix_mul.proofs.limbs.Powers.folded.Goals as goal
use Rattle.matrix_mul.proofs.limbs.Powers.folded.Goals.{Start}

pub overflow_add-top : goal.overflow_add-top
unfolding high
overflow_add-top c = high_fits c.args.hi c.args.lo c.requires c.ranges.lo

pub overflow_mul-x : goal.overflow_mul-x
unfolding high
overflow_mul-x c = high_fits_times c.args.self _ c.args.lo (overflow_add-top (goal.at.overflow_mul-x c).Start)

pub overflow_mul-x-2 : goal.overflow_mul-x-2
unfolding low
overflow_mul-x-2 c = low_fits_times c.args.self _ c.args.lo (overflow_add-top (goal.at.overflow_mul-x-2 c).Start)

pub overflow_add-x : goal.overflow_add-x
unfolding low high
overflow_add-x c = two_fit_times c.args.self _ c.args.lo (overflow_add-top (goal.at.overflow_add-x c).Start)

pub overflow_add-x-2 : goal.overflow_add-x-2
unfolding low high
overflow_add-x-2 c = three_fit_times c.args.self _ c.args.lo (overflow_add-top (goal.at.overflow_add-x-2 c).Start)

pub returns : goal.returns
unfolding low high reduce
returns c = folded_mod c.args.self c.args.lo c.args.hi
