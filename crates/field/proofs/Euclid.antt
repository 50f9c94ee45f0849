-- Euclid's steps on a and p, over plain numbers: x and y are the rests, s and t say how often a goes into them modulo p, with
-- opposite signs. A step on either side keeps this, and x × t + y × s is p throughout: so s and t stay up to p, and where p is
-- prime no rest comes to 0 before one is 1.
use mathlib.Core.Path.{◌≡◌, sym, ap, subst, ◌∙◌}
use Prim.Native.Nat.{ℕ, ◌+◌, ◌*◌, ◌-◌, ◌/◌, ◌%◌, ◌≤◌, ◌<◌, ◌∣◌}
use native.Mathlib.Nat.{dvd-mul_right, pos_of_ne-zero, mod-add-div, div-le_self, mul-le-mul_right, add-mul-mod_self_left}
use native.Mathlib.Omega.{arith}
use Rattle.checks.specs.Prime.{Prime}
use Rattle.field.specs.Residue.{reduce, ◌⊗◌}
use Rattle.field.proofs.Residues.{reduce_same, reduce_times}

-- a × s is x and a × t is -y, up to multiples of p
pub record Euclid (p a x y s t : ℕ) : Type 0 where
  pub over : ℕ
  pub under : ℕ
  pub first : a * s ≡ x + p * over
  pub second : a * t + y ≡ p * under
  pub whole : x * t + y * s ≡ p

-- y is divided by x, and x by y
pub divide_second : {p a x y s t : ℕ} → Euclid p a x y s t → Euclid p a x (y % x) s (t + y / x * s)
divide_second {p} {a} {x} {y} {s} {t} e =
    record {
      over = e.over;
      under = e.under + y / x * e.over;
      first = e.first;
      second = omega (arith, e.second, mod-add-div y x, ap (λ (n : ℕ). y / x * n) e.first);
      whole = omega (arith, e.whole, ap (λ (n : ℕ). n * s) (mod-add-div y x));
    }

pub divide_first : {p a x y s t : ℕ} → Euclid p a x y s t → Euclid p a (x % y) y (s + x / y * t) t
divide_first {p} {a} {x} {y} {s} {t} e =
    record {
      over = e.over + x / y * e.under;
      under = e.under;
      first = omega (arith, e.first, mod-add-div x y, ap (λ (n : ℕ). x / y * n) e.second);
      second = e.second;
      whole = omega (arith, e.whole, ap (λ (n : ℕ). n * t) (mod-add-div x y));
    }

-- what is added to t and to s is at most p
pub second_fits : {p a x y s t : ℕ} → Euclid p a x y s t → y / x * s ≤ p
second_fits {x = x} {y = y} {s = s} e = omega (arith, e.whole, mul-le-mul_right s (div-le_self y x))

pub first_fits : {p a x y s t : ℕ} → Euclid p a x y s t → x / y * t ≤ p
first_fits {x = x} {y = y} {t = t} e = omega (arith, e.whole, mul-le-mul_right t (div-le_self x y))

-- s and t themselves are
pub first_up_to : {p a x y s t : ℕ} → 0 < y → Euclid p a x y s t → s ≤ p
first_up_to {s = s} h e = omega (arith, e.whole, mul-le-mul_right s h)

pub second_up_to : {p a x y s t : ℕ} → 0 < x → Euclid p a x y s t → t ≤ p
second_up_to {t = t} h e = omega (arith, e.whole, mul-le-mul_right t h)

pub first_below : {p a x y s t : ℕ} → 1 < y → 0 < s → Euclid p a x y s t → s < p
first_below {s = s} h l e = omega (arith, e.whole, mul-le-mul_right s h)

pub second_above : {p a x s t : ℕ} → s < p → Euclid p a x 1 s t → 0 < t
second_above {p} {a} {x} {s} {t} l e = pos_of_ne-zero (λ z. omega (arith, e.whole, ap (λ (n : ℕ). x * n) z))

-- a prime p leaves rests other than 0
pub second_positive : {p a x y s t : ℕ} → Prime p → 1 < x → x < p → Euclid p a x y s t → 0 < y
second_positive {p} {a} {x} {y} {s} {t} prime h l e = pos_of_ne-zero (λ z. prime.no_divisor x h l (divisor z))
  where
    divisor : y ≡ 0 → x ∣ p
    divisor z = subst (λ (n : ℕ). x ∣ n) (omega (arith, e.whole, ap (λ (n : ℕ). n * s) z)) (dvd-mul_right x t)

pub first_positive : {p a x y s t : ℕ} → Prime p → 1 < y → y < p → Euclid p a x y s t → 0 < x
first_positive {p} {a} {x} {y} {s} {t} prime h l e = pos_of_ne-zero (λ z. prime.no_divisor y h l (divisor z))
  where
    divisor : x ≡ 0 → y ∣ p
    divisor z = subst (λ (n : ℕ). y ∣ n) (omega (arith, e.whole, ap (λ (n : ℕ). n * t) z)) (dvd-mul_right y s)

-- at 1 the inverse is at hand: s, or what t lacks to p
pub first_inverse : {p a y s t : ℕ} → Euclid p a 1 y s t → reduce p a ⊗ reduce p s ≡ reduce p 1
first_inverse {p} {a} {y} {s} {t} e =
    sym (reduce_times p a s)
    ∙ reduce_same p (a * s) 1 (ap (λ (n : ℕ). n % p) e.first ∙ add-mul-mod_self_left 1 p e.over)

pub second_inverse : {p a x s t : ℕ} → t ≤ p → Euclid p a x 1 s t → reduce p a ⊗ reduce p (p - t) ≡ reduce p 1
second_inverse {p} {a} {x} {s} {t} l e =
    sym (reduce_times p a (p - t))
    ∙ reduce_same p (a * (p - t)) 1
    (sym (add-mul-mod_self_left (a * (p - t)) p e.under) ∙ ap (λ (n : ℕ). n % p) sum ∙ add-mul-mod_self_left 1 p a)
  where
    back : p - t + t ≡ p
    back = omega arith

    sum : a * (p - t) + p * e.under ≡ 1 + p * a
    sum = omega (arith, e.second, ap (λ (n : ℕ). a * n) back)
