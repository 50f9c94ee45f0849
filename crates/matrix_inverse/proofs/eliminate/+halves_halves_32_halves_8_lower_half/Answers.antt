-- The cycle of calls {halves, halves_32, halves_8, lower_half} meets its contracts. What each call asks and what they leave together is
-- said in `ElimHalves`; here it is put to the places of the code. `halves_32` and `halves_8` make the scratch memory, of zeros, and
-- `lower_half` picks it by the number of rows.
use mathlib.Core.Path.{◌∙◌}
use Prim.Native.Nat.{ℕ, ◌-◌, ◌/◌}
use native.Mathlib.Omega.{arith}
use Rattle.matrix_mul.specs.Places.{place, Used}
use Rattle.matrix_inverse.specs.Steps.{Scratch}
use Rattle.matrix_inverse.proofs.ElimColumns.{fresh_columns, columns_joined, marked_used, used_kept}
use Rattle.matrix_inverse.proofs.StepScratch.{used_twice, scratch_fewer, scratch_again, scratch_zeros}
use Rattle.matrix_inverse.proofs.ElimHalves.{halved, upper_call, lower_long, lower_below}
use Rattle.matrix_inverse.proofs.ElimHalves.{between, lower_call, after, joined_halves}
use Rattle.matrix_inverse.proofs.eliminate.+halves_halves_32_halves_8_lower_half.Goals as goal
use Rattle.matrix_inverse.proofs.eliminate.+halves_halves_32_halves_8_lower_half.Goals.{halves-After-halves-upper}

-- the call for the upper rows: its column marks tell which rows of E are zeros
upper_used : (t : ℕ) → (c : halves-After-halves-upper t) → Used c.args.n (c.args.m / 2) c.halves-upper.new.d (place c.args.at c.args.stride) c.halves-upper.result
upper_used t c =
    let e = c.requires.0 in
    let E = c.halves-upper.ensures.0 in
    marked_used E (E.kept.same_length ∙ e.d_long) (omega (arith, e.fits)) e.n_most

-- the scratch memory after it
upper_scratch : (t : ℕ) → (c : halves-After-halves-upper t) → Scratch c.args.p (c.args.m - c.args.m / 2) c.halves-upper.new.t c.halves-upper.new.c
upper_scratch t c = scratch_again c.requires.2 c.halves-upper.ensures.1 c.halves-upper.ensures.2

pub halves-halves-upper-requires : goal.halves-halves-upper-requires
halves-halves-upper-requires t c =
    let e = c.requires.0 in (
      omega arith,
      (upper_call e (halved c.args.m e.m_most), omega arith, scratch_fewer (omega arith) c.requires.2),
    )

-- the step between
pub halves-reduce_rows-requires : goal.halves-reduce_rows-requires
halves-reduce_rows-requires t c =
    let here = (goal.at.halves-reduce_rows-requires t c).After-halves-upper in
    let e = c.requires.0 in
    let s = halved c.args.m e.m_most in
    record {
      halves = between e s c.halves-upper.ensures.0 (upper_scratch t here);
      lower_long = lower_long e s;
      lower_below = lower_below e s;
      used = upper_used t here;
    }

-- the call for the reduced lower rows
pub halves-lower_half-marks-requires : goal.halves-lower_half-marks-requires
halves-lower_half-marks-requires t c =
    let here = (goal.at.halves-lower_half-marks-requires t c).After-halves-upper in
    let e = c.requires.0 in
    let s = halved c.args.m e.m_most in (
      omega arith,
      (
        fresh_columns (lower_call e s c.halves-upper.ensures.0 (upper_scratch t here) c.reduce_rows.ensures),
        omega arith,
        s.lower_most,
      ),
    )

-- the step after it
pub halves-join_halves-requires : goal.halves-join_halves-requires
halves-join_halves-requires t c =
    let here = (goal.at.halves-join_halves-requires t c).After-halves-upper in
    let e = c.requires.0 in
    let E = c.lower_half-marks.ensures in
    let h = after e (halved c.args.m e.m_most) c.halves-upper.ensures.0 (upper_scratch t here) c.reduce_rows.ensures E.kept in
    record {
      halves = h;
      upper_used = used_kept h.fits E.kept (upper_used t here);
      lower_used = marked_used E h.d_long (omega (arith, h.fits)) h.n_most;
    }

-- the whole table
pub halves-returns : goal.halves-returns
halves-returns t c =
    let here = (goal.at.halves-returns t c).After-halves-upper in
    let e = c.requires.0 in
    let first = c.halves-upper.ensures in
    let step = c.reduce_rows.ensures in
    let E = c.lower_half-marks.ensures in
    let joined = c.join_halves.ensures in (
      joined_halves e (halved c.args.m e.m_most) first.0 (upper_scratch t here) step
          (columns_joined E first.0.columns_marked joined.1)
          joined.0,
      used_twice first.1 step.t_again,
      used_twice (used_twice first.2 step.c_again) joined.2,
    )

-- zeros are the scratch memory
pub halves_32-halves-requires : goal.halves_32-halves-requires
halves_32-halves-requires t c =
    let pre = c.requires in
    (omega arith, (pre.0, pre.1, scratch_zeros 16 pre.0.is_modulus (omega arith)))

pub halves_8-halves-requires : goal.halves_8-halves-requires
halves_8-halves-requires t c =
    let pre = c.requires in
    (omega arith, (pre.0, pre.1, scratch_zeros 4 pre.0.is_modulus (omega arith)))

-- two halves of the same rows
pub lower_half-halves_8-requires : goal.lower_half-halves_8-requires
lower_half-halves_8-requires t c = (omega arith, (c.requires.0, c.requires.1, c.if-m-le8.true))

pub lower_half-halves_32-requires : goal.lower_half-halves_32-requires
lower_half-halves_32-requires t c = (omega arith, c.requires)
