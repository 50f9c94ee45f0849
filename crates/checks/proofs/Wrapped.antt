-- Division by a product modulo 2^32, over plain numbers. Where v is the inverse of q, a multiple t × q of q times v is t, and
-- so at most p / s for an s up to q; and a product at most p / s, for an s not below half of q, times q is p itself.
use mathlib.Core.Path.{◌≡◌, sym, ap, subst, ◌∙◌}
use Prim.Native.Nat.{ℕ, ◌+◌, ◌*◌, ◌/◌, ◌%◌, ◌≤◌, ◌<◌, ◌∣◌}
use native.Mathlib.Nat.{dvd-mul_left, div-mul_cancel, le-div_iff_mul-le, div-lt_self, div-mul-le_self, mod-add-div, mod-eq_of_lt}
use native.Mathlib.Nat.{add-mul-mod_self_left, mul-le-mul, mul-le-mul_left, mul-one}
use native.Mathlib.Omega.{arith}
use Rattle.checks.specs.Inverses.{word_base}

-- q × v is 1 and a multiple of 2^32
inverse_whole : (q v : ℕ) → q * v % word_base ≡ 1 → 1 + word_base * (q * v / word_base) ≡ q * v
inverse_whole q v inverse =
    ap (λ (n : ℕ). n + word_base * (q * v / word_base)) (sym inverse) ∙ mod-add-div (q * v) word_base

-- a multiple of q has a low product
pub multiple_low :
    (p q v s : ℕ) → q * v % word_base ≡ 1 → 0 < s → s ≤ q → p < word_base → q ∣ p → p * v % word_base ≤ p / s
multiple_low p q v s inverse positive l r h =
    subst (λ (n : ℕ). n ≤ p / s) (sym product) ((le-div_iff_mul-le positive).1 (omega (arith, mul-le-mul_left t l, whole)))
  where
    t : ℕ
    t = p / q

    c : ℕ
    c = q * v / word_base

    whole : t * q ≡ p
    whole = div-mul_cancel q h

    small : t < word_base
    small =
        let one : 1 ≤ q = omega arith in
        omega (arith, mul-le-mul_left t one, whole)

    spread : p * v ≡ t + word_base * (t * c)
    spread = omega (arith, ap (λ (n : ℕ). n * v) whole, ap (λ (n : ℕ). t * n) (inverse_whole q v inverse))

    product : p * v % word_base ≡ t
    product = ap (λ (n : ℕ). n % word_base) spread ∙ add-mul-mod_self_left t word_base (t * c) ∙ mod-eq_of_lt small

-- what has a low product is a multiple of q
pub low_multiple :
    (p q v s : ℕ) → q * v % word_base ≡ 1 → q ≤ 2 * s → p + p < word_base → p * v % word_base ≤ p / s → q ∣ p
low_multiple p q v s inverse l r h = subst (λ (n : ℕ). q ∣ n) back (dvd-mul_left q x)
  where
    x : ℕ
    x = p * v % word_base

    c : ℕ
    c = q * v / word_base

    d : ℕ
    d = p * v / word_base

    small : x * q < word_base
    small = omega (arith, mul-le-mul h l, div-mul-le_self p s)

    spread : x * q + word_base * (d * q) ≡ p + word_base * (p * c)
    spread =
        omega (arith, ap (λ (n : ℕ). n * q) (mod-add-div (p * v) word_base), ap (λ (n : ℕ). p * n) (inverse_whole q v inverse))

    back : x * q ≡ p
    back =
        sym (mod-eq_of_lt small)
        ∙ sym (add-mul-mod_self_left (x * q) word_base (d * q))
        ∙ ap (λ (n : ℕ). n % word_base) spread
        ∙ add-mul-mod_self_left p word_base (p * c)
        ∙ mod-eq_of_lt (omega arith)

-- the product with 1 is not low
pub one_high : (p s : ℕ) → 0 < p → 1 < s → p < word_base → p * 1 % word_base ≤ p / s → ⊥
one_high p s h l r k = omega (arith, div-lt_self h l, ap (λ (n : ℕ). n % word_base) (mul-one p) ∙ mod-eq_of_lt r)
