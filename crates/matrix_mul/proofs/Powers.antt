-- Three numbers that are put together with 2^32 and 2^64 modulo p: they have 64 bits, and are modulo p the number itself.
use mathlib.Core.Path.{◌≡◌, refl, sym, ap, ap₂, ◌∙◌}
use Prim.Native.Nat.{ℕ, ◌+◌, ◌*◌, ◌-◌, ◌/◌, ◌%◌, ◌^◌, ◌≤◌}
use native.Mathlib.Nat.{mod-add-div, mul-le-mul}
use native.Mathlib.Omega.{arith}
use mir.Val.{Fits}
use mir.Syntax.{w64}
use Rattle.field.specs.Limbs.{limb_base, low, high, whole}
use Rattle.checks.specs.Prime.{largest_modulus}
use Rattle.matrix_mul.specs.Rows.{Short}
use Rattle.matrix_mul.specs.declared.limbs.Powers.{Powers}
use Rattle.field.proofs.Residues.{modular, mod_times, times_mod}
use Rattle.matrix_mul.proofs.RowsTaken.{mod_short}

-- two such numbers have 64 bits together, with room for 2^32
pub Half : ℕ → Type 0
Half n = 2 * n + limb_base ≤ 2 ^ 64

-- a number of 32 bits times a short number
half_low : (x r : ℕ) → Short r → Half (low x * r)
unfolding Half Short low
half_low x r s =
    let h : x % limb_base ≤ limb_base - 1 = omega arith in
    let k : r ≤ largest_modulus - 1 = omega arith in
    omega (arith, mul-le-mul h k)

half_high : (x r : ℕ) → Fits w64 x → Short r → Half (high x * r)
unfolding Half Short high
half_high x r f s =
    let h : x / limb_base ≤ limb_base - 1 = omega arith in
    let k : r ≤ largest_modulus - 1 = omega arith in
    omega (arith, mul-le-mul h k)

pub half_fits : (n : ℕ) → Half n → Fits w64 n
unfolding Half
half_fits n h = omega arith

module _ (b : Powers) (top lo : ℕ) (f : Fits w64 top) where
  half_twice : Half (high top * b.twice)
  half_twice = half_high top b.twice f (rw b.is_twice (mod_short b.p (b.once * b.once) b.positive b.in_range))

  half_once : Half (low top * b.once)
  half_once = half_low top b.once (rw b.is_once (mod_short b.p limb_base b.positive b.in_range))

  pub high_fits_times : Fits w64 (high top * b.twice)
  high_fits_times = half_fits _ half_twice

  pub low_fits_times : Fits w64 (low top * b.once)
  low_fits_times = half_fits _ half_once

  pub two_fit_times : Fits w64 (high top * b.twice + low top * b.once)
  unfolding Half
  two_fit_times = omega (arith, half_twice, half_once)

  pub three_fit_times : Fits w64 (high top * b.twice + low top * b.once + low lo)
  unfolding Half low
  three_fit_times = omega (arith, half_twice, half_once)

-- summands may be changed to others with the same remainder
mod_sum : (p x x' y y' : ℕ) → x % p ≡ x' % p → y % p ≡ y' % p → (x + y) % p ≡ (x' + y') % p
mod_sum p x x' y y' e f =
    let before : (x % p + y % p) % p ≡ (x + y) % p = simp modular in
    let after : (x' % p + y' % p) % p ≡ (x' + y') % p = simp modular in
    sym before ∙ ap₂ (λ a b. (a + b) % p) e f ∙ after

-- so r and s count as b and b × b
mod_powers : (p b r s x y z : ℕ) → r ≡ b % p → s ≡ r * r % p → (x * s + y * r + z) % p ≡ (x * (b * b) + y * b + z) % p
mod_powers p b r s x y z once twice =
    mod_sum p _ _ z z
    (mod_sum p _ _ _ _
    (ap (λ n. x * n % p) (twice ∙ ap (λ n. n * n % p) once ∙ mod_times b (b % p) p ∙ times_mod b b p) ∙ times_mod x (b * b) p)
    (ap (λ n. y * n % p) once ∙ times_mod y b p))
    refl

pub folded_mod : (b : Powers) (lo hi : ℕ)
    → (high (hi + high lo) * b.twice + low (hi + high lo) * b.once + low lo) % b.p ≡ whole lo hi % b.p
unfolding low high whole
folded_mod b lo hi =
    mod_powers b.p limb_base b.once b.twice _ _ _ b.is_once b.is_twice ∙ ap (λ n. n % b.p) same
  where
    top : ℕ
    top = hi + lo / limb_base

    same : top / limb_base * (limb_base * limb_base) + top % limb_base * limb_base + lo % limb_base ≡ lo + limb_base * hi
    same = omega (arith, mod-add-div lo limb_base, mod-add-div top limb_base)
