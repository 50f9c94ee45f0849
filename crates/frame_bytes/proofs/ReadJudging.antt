-- Judging the numbers of a frame in byte order: what is left decides as long as all before it are good, and the first bad
-- number settles it. The multipliers come first, and behind them the values, of which each must be below p.
use mathlib.Core.Path.{◌≡◌, sym, ap, ◌∙◌}
use mathlib.Core.List.{List, ◌∷◌}
use Prim.Native.Nat.{ℕ, suc, ◌+◌, ◌*◌, ◌-◌, ◌≤◌, ◌<◌}
use native.Mathlib.Nat.{mul-suc}
use native.Mathlib.Omega.{arith}
use lib.ListN.{drop}
use Rattle.checks.specs.declared.Refusal.{Refusal}
use Rattle.checks.specs.declared.Refusal.TheVariants.{Number, ZeroMultiplier}
use Rattle.checks.specs.InOrder.{AllHold, FirstFailing}
use Rattle.checks.proofs.InOrder.{none_left, fails_here, ◌then◌, ◌and_then◌}
use Rattle.words.specs.Words.{Below}
use Rattle.codec.specs.BigEndian.{number_at}
use Rattle.frame.specs.Reading.{numbers_in}
use Rattle.frame.proofs.Bytes.{numbers_none, numbers_more}
use Rattle.frame_bytes.specs.Stages.{values_after, checks_from}

-- one number of those left
one_less : (w left : ℕ) → 0 < left → w * left ≡ w + w * (left - 1)
one_less w left h = let e : left ≡ suc (left - 1) = omega arith in ap (λ (k : ℕ). w * k) e ∙ omega (arith, mul-suc w (left - 1))

first_left :
    (w : ℕ) (bytes : List ℕ) (at left x : ℕ) → x ≡ number_at w bytes at → 0 < left
    → numbers_in w left (drop at bytes) ≡ x ∷ numbers_in w (left - 1) (drop (at + w) bytes)
first_left w bytes at left x read more =
    let e : left ≡ suc (left - 1) = omega arith in
    ap (λ (n : ℕ). numbers_in w n (drop at bytes)) e ∙ numbers_more w bytes at (left - 1)
    ∙ ap (λ (y : ℕ). y ∷ numbers_in w (left - 1) (drop (at + w) bytes)) (sym read)

-- ---- the multipliers, and behind them the values

-- the numbers before the place are good, so that what is left decides
pub record Judging (p w s : ℕ) (bytes : List ℕ) (start k at left : ℕ) : Type 0 where
  pub fails : (r : Refusal) → FirstFailing (checks_from p w s bytes at left) r → FirstFailing (checks_from p w s bytes start k) r
  pub holds : AllHold (checks_from p w s bytes at left) → AllHold (checks_from p w s bytes start k)

module _ (p w s : ℕ) (bytes : List ℕ) (start k at left : ℕ) (g : Judging p w s bytes start k at left) where
  module _ (x : ℕ) (read : x ≡ number_at w bytes at) (more : 0 < left) where
    numbers : numbers_in w left (drop at bytes) ≡ x ∷ numbers_in w (left - 1) (drop (at + w) bytes)
    numbers = first_left w bytes at left x read more

    values : values_after w s bytes at left ≡ values_after w s bytes (at + w) (left - 1)
    unfolding values_after
    values = let e : at + w * left ≡ at + w + w * (left - 1) = omega (arith, one_less w left more) in rw e

    pub judging_zero : x ≡ 0 → FirstFailing (checks_from p w s bytes start k) ZeroMultiplier
    judging_zero z = g.fails _ (rw numbers (fails_here (λ l. omega arith)))

    pub judging_large : 0 < x → p ≤ x → FirstFailing (checks_from p w s bytes start k) Number
    judging_large z h = g.fails _ (rw numbers (z then fails_here (λ l. omega arith)))

    -- one good multiplier more
    pub judging_more : 0 < x → x < p → Judging p w s bytes start k (at + w) (left - 1)
    judging_more z l =
        record {
          fails = λ r f. g.fails r (rw (numbers, values) (z then l then f));
          holds = λ a. g.holds (rw (numbers, values) (z and_then l and_then a));
        }

  -- the values are the last numbers
  module _ (none : left ≡ 0) where
    last : values_after w s bytes at left ≡ numbers_in w s (drop at bytes)
    unfolding values_after
    last = let e : at + w * 0 ≡ at = omega arith in rw (none, e)

    pub judging_values_large : (Below p (numbers_in w s (drop at bytes)) → ⊥) → FirstFailing (checks_from p w s bytes start k) Number
    judging_values_large bad = g.fails _ (rw (last, none, numbers_none) (fails_here bad))

    pub judging_values : Below p (numbers_in w s (drop at bytes)) → AllHold (checks_from p w s bytes start k)
    judging_values below = g.holds (rw (last, none, numbers_none) (below and_then none_left))
