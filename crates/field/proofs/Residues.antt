-- The laws of residues: two with equal values are equal, `reduce` takes sums, products and negatives of numbers to those of
-- residues, and the value of a residue is below p. Callers go by these laws and never by `%`.
use mathlib.Core.Path.{◌≡◌, sym, ap, subst, ◌∙◌}
use mathlib.Core.HLevel.{is_prop→PathP}
use Prim.Native.Nat.{ℕ, ◌+◌, ◌*◌, ◌-◌, ◌/◌, ◌%◌, ◌≤◌, ◌<◌}
use native.Mathlib.Nat.{ℕ_set, pos_of_ne-zero, mul_comm, mod-mod, mod-add-mod, add-mod-mod, mod-add-div, mod-lt, mod-eq_of_lt}
use native.Mathlib.Nat.{mod-eq-sub-mod, add-mod_right, add-mul-mod_self_left}
use native.Mathlib.Omega.{arith}
use Rattle.field.specs.Residue.{Residue, reduce, ◌⊕◌, ◌⊗◌, negated}

-- a factor may be reduced before the product is
pub mod_times : (a b p : ℕ) → a % p * b % p ≡ a * b % p
mod_times a b p =
    let product : a * b ≡ a % p * b + p * (a / p * b) = omega (arith, ap (λ (n : ℕ). n * b) (mod-add-div a p)) in
    sym (add-mul-mod_self_left (a % p * b) p (a / p * b)) ∙ ap (λ (n : ℕ). n % p) (sym product)

pub times_mod : (a b p : ℕ) → a * (b % p) % p ≡ a * b % p
times_mod a b p = rw (mul_comm a (b % p), mul_comm a b) (mod_times b a p)

-- `%` inside of a sum or a product under `%` may go
pub ruleset modular = (mod-mod, mod-add-mod, add-mod-mod, mod_times, times_mod)

-- residues with equal values are equal
pub residue_path : {p : ℕ} {x y : Residue p} → x.value ≡ y.value → x ≡ y
residue_path {p} {x} {y} e i =
    record { value = e i; reduced = is_prop→PathP (λ j. e j % p ≡ e j) (λ j. ℕ_set (e j % p) (e j)) x.reduced y.reduced i }

-- numbers with equal remainders have equal residues
pub reduce_same : (p a b : ℕ) → a % p ≡ b % p → reduce p a ≡ reduce p b
unfolding reduce
reduce_same p a b e = residue_path e

-- a residue is that of its value
pub reduce_value : {p : ℕ} (x : Residue p) → reduce p x.value ≡ x
unfolding reduce
reduce_value x = residue_path x.reduced

-- a number below p is the value of its residue
pub reduce_small : (p a : ℕ) → a < p → (reduce p a).value ≡ a
unfolding reduce
reduce_small p a h = mod-eq_of_lt h

-- a number below p whose residue is 0 is 0
pub reduce_zero : (p a : ℕ) → a < p → reduce p a ≡ reduce p 0 → a ≡ 0
reduce_zero p a h e = sym (reduce_small p a h) ∙ ap (λ r. r.value) e ∙ reduce_small p 0 (omega arith)

-- a value is below p
pub value_below : {p : ℕ} → 0 < p → (x : Residue p) → x.value < p
value_below {p} h x = subst (λ (n : ℕ). n < p) x.reduced (mod-lt x.value h)

-- sums and products of numbers become those of residues
pub reduce_plus : (p a b : ℕ) → reduce p (a + b) ≡ reduce p a ⊕ reduce p b
unfolding reduce ◌⊕◌
reduce_plus p a b = residue_path (simp modular)

pub reduce_times : (p a b : ℕ) → reduce p (a * b) ≡ reduce p a ⊗ reduce p b
unfolding reduce ◌⊗◌
reduce_times p a b = residue_path (simp modular)

-- a number that is given as the value of a residue has that residue, and is below p
pub reduce_of_value : {p r : ℕ} (x : Residue p) → r ≡ x.value → reduce p r ≡ x
reduce_of_value {p} x e = ap (reduce p) e ∙ reduce_value x

pub below_of_value : {p r : ℕ} → 0 < p → (x : Residue p) → r ≡ x.value → r < p
below_of_value h x e = rw e (value_below h x)

-- the number below p with that residue is its value
pub value_unique : (p r : ℕ) (x : Residue p) → r < p → reduce p r ≡ x → r ≡ x.value
value_unique p r x h e = sym (reduce_small p r h) ∙ ap (λ (y : Residue p). y.value) e

pub reduce_injective : (p a b : ℕ) → a < p → b < p → reduce p a ≡ reduce p b → a ≡ b
reduce_injective p a b h l e = value_unique p a (reduce p b) h e ∙ reduce_small p b l

-- p more or p less is the same residue
pub reduce_less : (p a : ℕ) → p ≤ a → reduce p (a - p) ≡ reduce p a
reduce_less p a h = reduce_same p (a - p) a (sym (mod-eq-sub-mod h))

pub reduce_more : (p a : ℕ) → reduce p (a + p) ≡ reduce p a
reduce_more p a = reduce_same p (a + p) a (add-mod_right a p)

-- what a number lacks to p is its negative
pub reduce_minus : (p a : ℕ) → a < p → reduce p (p - a) ≡ negated (reduce p a)
unfolding negated
reduce_minus p a h = rw (reduce_small p a h)

-- the difference of numbers below p, the first raised by p
pub reduce_difference : (p a b : ℕ) → b < p → reduce p (a + (p - b)) ≡ reduce p a ⊕ negated (reduce p b)
reduce_difference p a b h = reduce_plus p a (p - b) ∙ ap (λ (y : Residue p). reduce p a ⊕ y) (reduce_minus p b h)

-- the residue of 0 is the one with value 0
pub positive_of_nonzero : {p : ℕ} (x : Residue p) → (x ≡ reduce p 0 → ⊥) → 0 < x.value
positive_of_nonzero {p} x f = pos_of_ne-zero (λ e. f (sym (reduce_value x) ∙ ap (reduce p) e))

pub nonzero_of_positive : (p a : ℕ) → 0 < a → a < p → reduce p a ≡ reduce p 0 → ⊥
nonzero_of_positive p a h l e =
    let positive : 0 < p = omega arith in
    omega (arith, reduce_injective p a 0 l positive e)
