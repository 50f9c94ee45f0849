-- `matrix_mul::limbs::Limbs::add_rows` meets its contract. The loop's invariant: both lists have the limbs added at the first j places, and
-- are at the others as they were.
use mathlib.Core.Path.{◌≡◌}
use mathlib.Core.List.{List}
use Prim.Native.Nat.{ℕ}
use native.Mathlib.Omega.{arith}
use lib.ListN.{get_or}
use Rattle.field.specs.Limbs.{low, high}
use Rattle.field.proofs.Limbs.{low_fits, high_fits}
use Rattle.words.proofs.Walk.{walked_front, walked_more}
use Rattle.matrix_mul.proofs.limbs.Limbs.add_rows.Invariants.{with-low, with-high}
use Rattle.matrix_mul.proofs.limbs.Limbs.add_rows.Goals as goal

-- where nothing is added the limbs are as they were
nothing-low : (x : ℕ → ℕ) (lo : List ℕ) (j : ℕ) → x j ≡ 0 → get_or lo j 0 ≡ with-low x lo j
unfolding with-low low
nothing-low x lo j e = omega (arith, e)

nothing-high : (x : ℕ → ℕ) (hi : List ℕ) (j : ℕ) → x j ≡ 0 → get_or hi j 0 ≡ with-high x hi j
unfolding with-high high
nothing-high x hi j e = omega (arith, e)

pub loop-j-init : goal.loop-j-init
loop-j-init c =
    let none = c.requires.2.nothing in (
      walked_front c.args.from _ _ (λ j h. nothing-low _ _ j (none j h)),
      walked_front c.args.from _ _ (λ j h. nothing-high _ _ j (none j h)),
    )

pub overflow_add-self : goal.overflow_add-self
unfolding low
overflow_add-self c =
    let l = c.loop-j in
    low_fits _ _ (rw (l.invariant.0.left l.j (omega arith)) (c.requires.0.fits_lo l.j (omega arith)))

pub overflow_add-self-in-loop-j : goal.overflow_add-self-in-loop-j
unfolding high
overflow_add-self-in-loop-j c =
    let l = c.loop-j in
    high_fits _ _ (rw (l.invariant.1.left l.j (omega arith)) (c.requires.0.fits_hi l.j (omega arith)))
    (record { fits = c.four_at-x.type_inv })

pub loop-j-preserved : goal.loop-j-preserved
unfolding low high with-low with-high
loop-j-preserved c =
    let l = c.loop-j in
    let e = c.four_at-x.ensures.0 in (
      walked_more l.j _ _ _ _ l.invariant.0 (omega (arith, c.args.self.now.long_lo)) (rw (l.invariant.0.left l.j (omega arith), e)),
      walked_more l.j _ _ _ _ l.invariant.1 (omega (arith, c.args.self.now.long_hi)) (rw (l.invariant.1.left l.j (omega arith), e)),
    )

pub returns : goal.returns
unfolding with-low with-high
returns c =
    let l = c.loop-j in
    record {
      low_at = λ j h. l.invariant.0.passed j (omega (arith, c.requires.2.within));
      high_at = λ j h. l.invariant.1.passed j (omega (arith, c.requires.2.within));
    }
