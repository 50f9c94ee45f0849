-- The residues modulo p are a commutative ring, and a field where p is prime. The inverse of a goes by the remainders of p:
-- from a ⊗ s = x follows a ⊗ (- (p / x) ⊗ s) = p % x, which is smaller, and is not 0 since p is prime; at x = 1 the s is the
-- inverse. The function `inverse` takes other steps (`proofs/Euclid.antt`), and `inverse_result` says that it finds the same.
use mathlib.Core.Path.{◌≡◌, sym, ap, ◌∙◌}
use Prim.Native.Nat.{ℕ, zero, suc, ◌+◌, ◌*◌, ◌-◌, ◌/◌, ◌%◌, ◌≤◌, ◌<◌}
use native.Mathlib.Nat.{add_assoc, add_comm, add-zero, mul_assoc, mul_comm, mul-one, mul-add, mod_self, mod-lt, zero-mod, mod-add-div', emod_pos_of_not-dvd}
use native.Mathlib.Omega.{arith}
use native.Mathlib.Decide.{ℕ_discrete, map_dec}
use Rattle.algebra.specs.Ring.{IsCommutativeRing, IsField}
use Rattle.algebra.proofs.Rings.{times_zero}
use Rattle.checks.specs.Prime.{Prime}
use Rattle.field.specs.Residue.{Residue, reduce, ◌⊕◌, ◌⊗◌, negated, residues}
use Rattle.field.proofs.Residues.{modular, residue_path, reduce_value, reduce_more, reduce_plus, reduce_times, reduce_injective, value_below}
use Rattle.field.proofs.Residues.{positive_of_nonzero, nonzero_of_positive}

-- the residues modulo p are a commutative ring
pub residues_ring : (p : ℕ) → 0 < p → IsCommutativeRing (residues p)
unfolding reduce ◌⊕◌ ◌⊗◌ negated
residues_ring p positive =
    record {
      plus_assoc = λ a b c. residue_path (simp (modular, add_assoc));
      plus_comm = λ a b. residue_path (rw (add_comm a.value b.value));
      plus_zero = λ a. residue_path (simp (modular, add-zero) a.reduced);
      plus_minus = λ a.
          let whole : a.value + (p - a.value) ≡ p = omega (arith, value_below positive a) in
          residue_path (simp (modular, whole, mod_self, zero-mod));
      times_assoc = λ a b c. residue_path (simp (modular, mul_assoc));
      times_comm = λ a b. residue_path (rw (mul_comm a.value b.value));
      times_one = λ a. residue_path (simp (modular, mul-one) a.reduced);
      times_plus = λ a b c. residue_path (simp (modular, mul-add));
    }

-- what is added on both sides may go
plus_cancel : (p : ℕ) → 0 < p → (a b c : Residue p) → a ⊕ c ≡ b ⊕ c → a ≡ b
plus_cancel p positive a b c e = sym (back a) ∙ ap (λ (x : Residue p). x ⊕ negated c) e ∙ back b
  where
    L : IsCommutativeRing (residues p)
    L = residues_ring p positive

    back : (x : Residue p) → x ⊕ c ⊕ negated c ≡ x
    back x = L.plus_assoc x c (negated c) ∙ ap (λ (y : Residue p). x ⊕ y) (L.plus_minus c) ∙ L.plus_zero x

-- a step of the inverse: both sides are what p / x times x lacks to zero
inverse_step :
    (p x : ℕ) → 0 < p → (a s : Residue p) → a ⊗ s ≡ reduce p x → a ⊗ negated (reduce p (p / x) ⊗ s) ≡ reduce p (p % x)
inverse_step p x positive a s e = plus_cancel p positive _ _ (reduce p (p / x * x)) (left ∙ sym right)
  where
    L : IsCommutativeRing (residues p)
    L = residues_ring p positive

    q : Residue p
    q = reduce p (p / x)

    right : reduce p (p % x) ⊕ reduce p (p / x * x) ≡ reduce p 0
    right =
        let whole : p % x + p / x * x ≡ 0 + p = omega (arith, mod-add-div' p x) in
        sym (reduce_plus p (p % x) (p / x * x)) ∙ ap (reduce p) whole ∙ reduce_more p 0

    product : reduce p (p / x * x) ≡ a ⊗ (q ⊗ s)
    product =
        reduce_times p (p / x) x
        ∙ ap (λ (y : Residue p). q ⊗ y) (sym e)
        ∙ sym (L.times_assoc q a s)
        ∙ ap (λ (y : Residue p). y ⊗ s) (L.times_comm q a)
        ∙ L.times_assoc a q s

    left : a ⊗ negated (q ⊗ s) ⊕ reduce p (p / x * x) ≡ reduce p 0
    left =
        ap (λ (y : Residue p). a ⊗ negated (q ⊗ s) ⊕ y) product
        ∙ sym (L.times_plus a (negated (q ⊗ s)) (q ⊗ s))
        ∙ ap (λ (y : Residue p). a ⊗ y) (L.plus_comm (negated (q ⊗ s)) (q ⊗ s) ∙ L.plus_minus (q ⊗ s))
        ∙ times_zero (residues p) L a

-- the remainder of a prime is not 0
rest_positive : (p x : ℕ) → Prime p → 1 < x → x < p → 0 < p % x
rest_positive p x prime h l = emod_pos_of_not-dvd x (prime.no_divisor x h l)

-- the steps of the inverse, at most k of them, from x and s
unfoldable pub inverse_from : (p k x : ℕ) → Residue p → Residue p
inverse_from p zero x s = s
inverse_from p (suc k) zero s = s
inverse_from p (suc k) (suc zero) s = s
inverse_from p (suc k) (suc (suc x)) s =
    inverse_from p k (p % suc (suc x)) (negated (reduce p (p / suc (suc x)) ⊗ s))

-- they end at 1: k steps are enough from x ≤ k
inverse_ends :
    (p k x : ℕ) →
    Prime p →
    (a s : Residue p) →
    0 < x →
    x ≤ k →
    x < p →
    a ⊗ s ≡ reduce p x →
    a ⊗ inverse_from p k x s ≡ reduce p 1
unfolding inverse_from
inverse_ends p zero x prime a s h l b e = absurd (omega arith)
inverse_ends p (suc k) zero prime a s h l b e = absurd (omega arith)
inverse_ends p (suc k) (suc zero) prime a s h l b e = e
inverse_ends p (suc k) (suc (suc x)) prime a s h l b e =
    let y : ℕ = suc (suc x) in
    let two : 1 < y = omega arith in
    let less : p % y < y = mod-lt p (omega arith) in
    inverse_ends p k (p % y) prime a (negated (reduce p (p / y) ⊗ s))
    (rest_positive p y prime two b)
    (omega arith)
    (omega arith)
    (inverse_step p y (omega arith) a s e)

-- the inverse of a residue other than zero, modulo a prime
unfoldable pub inverted : {p : ℕ} → Residue p → Residue p
inverted {p} a = inverse_from p a.value a.value (reduce p 1)

-- a residue times its inverse is one
pub times_inverted : (p : ℕ) → Prime p → (a : Residue p) → (a ≡ reduce p 0 → ⊥) → a ⊗ inverted a ≡ reduce p 1
unfolding inverted
times_inverted p prime a nonzero =
    inverse_ends p a.value a.value prime a (reduce p 1) (positive_of_nonzero a nonzero) (omega arith) (value_below positive a)
    ((residues_ring p positive).times_one a ∙ sym (reduce_value a))
  where
    positive : 0 < p
    positive = omega (arith, prime.two_or_more)

-- equality of residues is decided by their values
pub residue_equal? : {p : ℕ} (a b : Residue p) → Dec (a ≡ b)
residue_equal? {p} a b = map_dec residue_path (ap (λ (x : Residue p). x.value)) (ℕ_discrete a.value b.value)

-- the residues modulo a prime are a field
unfoldable pub residues_field : (p : ℕ) → Prime p → IsField (residues p)
residues_field p prime =
    record {
      ring = residues_ring p positive;
      one_not_zero = λ e. let z : ◌≡◌ {A = ℕ} 1 0 = reduce_injective p 1 0 prime.two_or_more positive e in omega arith;
      inverse = inverted;
      times_inverse = times_inverted p prime;
      equal? = residue_equal?;
    }
  where
    positive : 0 < p
    positive = omega (arith, prime.two_or_more)

-- what times a gives one is the inverse of a
pub inverse_unique :
    (p : ℕ) (prime : Prime p) (a x : Residue p) →
    (a ≡ reduce p 0 → ⊥) →
    x ⊗ a ≡ reduce p 1 →
    x ≡ (residues_field p prime).inverse a
inverse_unique p prime a x nonzero e =
    sym (L.times_one x)
    ∙ ap (λ (y : Residue p). x ⊗ y) (sym (F.times_inverse a nonzero))
    ∙ sym (L.times_assoc x a (F.inverse a))
    ∙ ap (λ (y : Residue p). y ⊗ F.inverse a) e
    ∙ L.times_comm (reduce p 1) (F.inverse a)
    ∙ L.times_one (F.inverse a)
  where
    F : IsField (residues p)
    F = residues_field p prime

    L : IsCommutativeRing (residues p)
    L = F.ring

-- what the function `inverse` ensures of its result r makes r the inverse
pub inverse_result :
    (p a r : ℕ) (prime : Prime p) →
    0 < a →
    a < p →
    reduce p a ⊗ reduce p r ≡ reduce p 1 →
    reduce p r ≡ (residues_field p prime).inverse (reduce p a)
inverse_result p a r prime h l e =
    inverse_unique p prime (reduce p a) (reduce p r) (nonzero_of_positive p a h l)
    ((residues_field p prime).ring.times_comm (reduce p r) (reduce p a) ∙ e)
