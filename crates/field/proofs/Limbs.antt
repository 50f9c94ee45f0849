-- The laws of limbs: adding the limbs of a product apart adds the product, k limbs stay within k times the largest limb, and so
-- 2^32 of them fit. `Within` is opened here alone, so that no invariant shows its large number.
use mathlib.Core.Path.{◌≡◌, refl, sym, ap, ◌∙◌}
use Prim.Native.Nat.{ℕ, ◌+◌, ◌*◌, ◌-◌, ◌/◌, ◌%◌, ◌<◌, ◌≤◌}
use native.Mathlib.Nat.{mod-lt, mod-add-div, mod-add-mod, mul-le-mul}
use native.Mathlib.Omega.{arith}
use mir.Val.{Fits}
use mir.Syntax.{w32, w64}
use Rattle.field.specs.Limbs.{limb_base, low, high, whole, LimbFits}
use Rattle.field.proofs.Residues.{mod_times}

pub whole_zero : whole 0 0 ≡ 0
unfolding whole
whole_zero = refl

-- the limbs of x added apart add x
pub whole_add : (lo hi x : ℕ) → whole (lo + low x) (hi + high x) ≡ whole lo hi + x
unfolding low high whole
whole_add lo hi x = omega (arith, mod-add-div x limb_base)

-- what is added to the low sum is added
pub whole_low : (n m lo hi : ℕ) → n ≡ m → whole (lo + n) hi ≡ m + whole lo hi
unfolding whole
whole_low n m lo hi e = omega arith

-- a number of 32 bits has 64
pub word_wide : (n : ℕ) → Fits w32 n → Fits w64 n
word_wide n f = omega arith

-- the product of two numbers of 32 bits has 64
pub product_fits : (a b : ℕ) → Fits w32 a → Fits w32 b → Fits w64 (a * b)
product_fits a b f g =
    let ha : a ≤ limb_base - 1 = omega arith in
    let hb : b ≤ limb_base - 1 = omega arith in
    omega (arith, mul-le-mul ha hb)

-- where one more limb fits, this one does
pub low_fits : (n x : ℕ) → LimbFits n → Fits w64 (n + low x)
unfolding LimbFits low
low_fits n x r = omega arith

pub high_fits : (n x : ℕ) → LimbFits n → Fits w64 x → Fits w64 (n + high x)
unfolding LimbFits high
high_fits n x r f = omega arith

pub number_fits : (n : ℕ) → LimbFits n → Fits w64 n
unfolding LimbFits
number_fits n r = omega arith

-- a number of 32 bits fits too
pub word_fits : (n x : ℕ) → LimbFits n → Fits w32 x → Fits w64 (n + x)
unfolding LimbFits
word_fits n x r f = omega arith

-- n is no more than k times the largest limb
pub Within : ℕ → ℕ → Type 0
Within k n = n ≤ k * (limb_base - 1)

pub within_zero : Within 0 0
unfolding Within
within_zero = omega arith

pub within_one : (n : ℕ) → n < limb_base → Within 1 n
unfolding Within
within_one n h = omega arith

pub within_low : (k n x : ℕ) → Within k n → Within (k + 1) (n + low x)
unfolding Within low
within_low k n x h = omega arith

pub within_high : (k n x : ℕ) → Within k n → Fits w64 x → Within (k + 1) (n + high x)
unfolding Within high
within_high k n x h f = omega arith

pub within_fits : (k n : ℕ) → k ≤ limb_base → Within k n → LimbFits n
unfolding Within LimbFits
within_fits k n h w = omega arith

pub within_more : (k m n : ℕ) → k ≤ m → Within k n → Within m n
unfolding Within
within_more k m n h w = omega arith

-- a residue modulo a number of 32 bits has 32 bits
pub mod_fits : (p n : ℕ) → 0 < p → Fits w32 p → Fits w32 (n % p)
mod_fits p n pos f = omega (arith, mod-lt n pos)

-- a high limb reduced modulo p, put above a low limb, has 64 bits
pub joined_fits : (p h l : ℕ) → 0 < p → Fits w32 p → Fits w64 (h % p * limb_base + low l)
unfolding low
joined_fits p h l pos f = omega (arith, mod-lt h pos)

-- and is, modulo p, the number itself
pub joined_mod : (p lo hi : ℕ) → ((hi + high lo) % p * limb_base + low lo) % p ≡ whole lo hi % p
unfolding low high whole
joined_mod p lo hi =
    sym (mod-add-mod (top % p * limb_base) p (lo % limb_base))
    ∙ ap (λ n. (n + lo % limb_base) % p) (mod_times top limb_base p)
    ∙ mod-add-mod (top * limb_base) p (lo % limb_base)
    ∙ ap (λ n. n % p) same
  where
    top : ℕ
    top = hi + lo / limb_base

    same : top * limb_base + lo % limb_base ≡ lo + limb_base * hi
    same = omega (arith, mod-add-div lo limb_base)

-- lo and hi are the sums of the limbs of no more than k products, which together make v
pub record Sums (k lo hi v : ℕ) : Type 0 where
  pub low_within : Within k lo
  pub high_within : Within k hi
  pub same : whole lo hi ≡ v

pub sums_none : Sums 0 0 0 0
sums_none = record { low_within = within_zero; high_within = within_zero; same = whole_zero }

-- a number of 32 bits to begin with
pub sums_one : (n : ℕ) → Fits w32 n → Sums 1 n 0 n
unfolding whole
sums_one n f =
    record { low_within = within_one n (omega arith); high_within = within_more 0 1 0 (omega arith) within_zero; same = omega arith }

-- one product more
pub sums_more : (k lo hi v x : ℕ) → Sums k lo hi v → Fits w64 x → Sums (k + 1) (lo + low x) (hi + high x) (v + x)
sums_more k lo hi v x s f =
    record {
      low_within = within_low k lo x s.low_within;
      high_within = within_high k hi x s.high_within f;
      same = whole_add lo hi x ∙ ap (λ n. n + x) s.same;
    }

-- k is a bound only
pub sums_widen : (k m lo hi v : ℕ) → k ≤ m → Sums k lo hi v → Sums m lo hi v
sums_widen k m lo hi v h s =
    record {
      low_within = within_more k m lo h s.low_within;
      high_within = within_more k m hi h s.high_within;
      same = s.same;
    }

-- the limbs of 2^32 products fit
pub sums_low_fits : (k lo hi v : ℕ) → k ≤ limb_base → Sums k lo hi v → LimbFits lo
sums_low_fits k lo hi v h s = within_fits k lo h s.low_within

pub sums_high_fits : (k lo hi v : ℕ) → k ≤ limb_base → Sums k lo hi v → LimbFits hi
sums_high_fits k lo hi v h s = within_fits k hi h s.high_within
