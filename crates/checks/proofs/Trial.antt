-- Trial division, over plain numbers: a divisor strictly between 1 and p refutes that p is a modulus, where none is found
-- below a d with p / d < d there is none at all, and the search goes on by one number or from an odd one to the next.
use mathlib.Core.Path.{◌≡◌, subst}
use Prim.Native.Nat.{ℕ, suc, ◌+◌, ◌*◌, ◌/◌, ◌%◌, ◌≤◌, ◌<◌, ◌∣◌}
use native.Mathlib.Nat.{dvd-mul_right, dvd_trans, dvd_of_mod-eq-zero, mod-eq-zero_of_dvd, div-mul_cancel, le-div_iff_mul-le, div-lt_iff_lt-mul}
use native.Mathlib.Nat.{mul-le-mul, mul-le-mul_left, mul-le-mul_right, lt_of_mul-lt-mul_right}
use native.Mathlib.Decide.{dec_lt, ℕ_discrete}
use native.Mathlib.Omega.{arith}
use Rattle.checks.specs.Prime.{IsModulus, NoneBelow}

-- a number with a divisor strictly between is no modulus
pub divided : (d p : ℕ) → 1 < d → d < p → p % d ≡ 0 → IsModulus p → ⊥
divided d p h l z m = m.prime.no_divisor d h l (dvd_of_mod-eq-zero d z)

-- a d whose square is at most p is below p
pub under : (d p : ℕ) → 2 ≤ d → d ≤ p / d → d < p
under d p h l =
    let positive : 0 < d = omega arith in
    omega (arith, mul-le-mul_right d h, (le-div_iff_mul-le positive).0 l)

-- the square of 46,341 is past every modulus
pub past_root : (d p : ℕ) → 46341 ≤ d → p ≤ 2147483647 → p / d < d
past_root d p h r =
    let positive : 0 < d = omega arith in
    let product : p < d * d = omega (arith, mul-le-mul h h) in
    (div-lt_iff_lt-mul positive).1 product

-- with no divisor below d, and p below the square of d, there is none: the other factor would be below d
pub undivided : (d p : ℕ) → 0 < d → p / d < d → 2 ≤ p → p ≤ 2147483647 → NoneBelow d p → IsModulus p
undivided d p z s t r below = record { prime = record { two_or_more = t; no_divisor = none }; in_range = r }
  where
    other : (e q : ℕ) → q * e ≡ p → d ≤ e → e < p → ⊥
    other e q f g l =
        let product : p < d * d = (div-lt_iff_lt-mul z).0 s in
        let fewer : q * d < d * d = omega (arith, mul-le-mul_left q g) in
        let more : 1 * e < q * e = omega arith in
        below q (lt_of_mul-lt-mul_right e more) (lt_of_mul-lt-mul_right d fewer) (subst (λ (n : ℕ). q ∣ n) f (dvd-mul_right q e))

    none : (e : ℕ) → 1 < e → e < p → e ∣ p → ⊥
    none e h l v =
        elim (dec_lt e d) [ yes k ↦ below e h k v | no k ↦ other e (p / e) (div-mul_cancel e v) (omega arith) l ]

-- one number more
pub one_more : (n p : ℕ) → NoneBelow n p → (n ∣ p → ⊥) → NoneBelow (suc n) p
one_more n p below not e h l v = go (ℕ_discrete e n)
  where
    go : Dec (e ≡ n) → ⊥
    go (yes k) = not (subst (λ (m : ℕ). m ∣ p) k v)
    go (no k) = below e h (omega arith) v

-- the even number after an odd one does not divide an odd p
pub two_more : (q p : ℕ) → q % 2 ≡ 1 → (p % 2 ≡ 0 → ⊥) → NoneBelow q p → (p % q ≡ 0 → ⊥) → NoneBelow (q + 2) p
two_more q p odd odd-p below not e h l v =
    one_more (suc q) p (one_more q p below (λ d. not (mod-eq-zero_of_dvd q d))) even e h (omega arith) v
  where
    even : suc q ∣ p → ⊥
    even d = odd-p (mod-eq-zero_of_dvd 2 (dvd_trans 2 (dvd_of_mod-eq-zero 2 (omega arith)) d))
