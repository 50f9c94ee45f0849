-- The first place where a test is true: there is one unless the test is false everywhere, and the test is false at every place before.
use mathlib.Core.Path.{◌≡◌, refl, sym, ap, ◌∙◌}
use mathlib.Core.Bool.{Bool, true, false}
use mathlib.Core.Logic.{◌⊎◌, inl, inr, ⊎_elim}
use Prim.Native.Nat.{ℕ, zero, suc, ◌+◌, ◌≤◌, ◌<◌}
use native.Mathlib.Nat.{eq-or-lt_of_le}
use native.Mathlib.Omega.{arith}
use Rattle.algebra.specs.Choice.{choose, pick, first_from}
use Rattle.algebra.proofs.Choice.{pick_yes, pick_no}
use Rattle.algebra.proofs.Counts.{true_not_false}

-- the test passes at its first place, or nowhere
pub first_or_none : (f : ℕ → Bool) (t k : ℕ)
    → ((f (first_from f t k) ≡ true) × (first_from f t k < t + k)) ⊎ ((i : ℕ) → t ≤ i → i < t + k → f i ≡ false)
unfolding first_from
first_or_none f t zero = inr (λ i h l. absurd (omega arith))
first_or_none f t (suc k) = go (f t) refl (first_or_none f (suc t) k)
  where
    go : (b : Bool) → f t ≡ b
        → ((f (first_from f (suc t) k) ≡ true) × (first_from f (suc t) k < suc t + k)) ⊎ ((i : ℕ) → suc t ≤ i → i < suc t + k → f i ≡ false)
        → ((f (choose b t (first_from f (suc t) k)) ≡ true) × (choose b t (first_from f (suc t) k) < t + suc k)) ⊎ ((i : ℕ) → t ≤ i → i < t + suc k → f i ≡ false)
    go true e r = inl (e, omega arith)
    go false e (inl (g, l)) = inl (g, omega arith)
    go false e (inr g) = inr (λ i h l. ⊎_elim (λ d. ap f (sym d) ∙ e) (λ d. g i d (omega arith)) (eq-or-lt_of_le h))

-- and at no place before
pub first_before : (f : ℕ → Bool) (t k i : ℕ) → t ≤ i → i < first_from f t k → f i ≡ false
unfolding first_from
first_before f t zero i h l = absurd (omega arith)
first_before f t (suc k) i h l = go (f t) refl l (first_before f (suc t) k i)
  where
    go : (b : Bool) → f t ≡ b → i < choose b t (first_from f (suc t) k) → (suc t ≤ i → i < first_from f (suc t) k → f i ≡ false) → f i ≡ false
    go true e q r = absurd (omega arith)
    go false e q r = ⊎_elim (λ d. ap f (sym d) ∙ e) (λ d. r d q) (eq-or-lt_of_le h)

-- it lies within the places, and the test passes there unless it is their end
pub first_within : (f : ℕ → Bool) (t k : ℕ) → first_from f t k ≤ t + k
unfolding first_from
first_within f t zero = omega arith
first_within f t (suc k) = go (f t) (first_within f (suc t) k)
  where
    go : (b : Bool) → first_from f (suc t) k ≤ suc t + k → choose b t (first_from f (suc t) k) ≤ t + suc k
    go true h = omega arith
    go false h = omega arith

pub first_passes : (f : ℕ → Bool) (t k : ℕ) → first_from f t k < t + k → f (first_from f t k) ≡ true
unfolding first_from
first_passes f t zero h = absurd (omega arith)
first_passes f t (suc k) h = go (f t) refl h (first_passes f (suc t) k)
  where
    go : (b : Bool) → f t ≡ b → choose b t (first_from f (suc t) k) < t + suc k
        → (first_from f (suc t) k < suc t + k → f (first_from f (suc t) k) ≡ true) → f (choose b t (first_from f (suc t) k)) ≡ true
    go true e l more = e
    go false e l more = more (omega arith)

-- what a test for the contrary tells
pub picked_false : {P : Type 0} (d : Dec P) → pick d false true ≡ false → P
picked_false (yes h) e = h
picked_false (no h) e = absurd (true_not_false (pick_no (no h) false true h) e)

pub picked_true : {P : Type 0} (d : Dec P) → pick d false true ≡ true → P → ⊥
picked_true d e h = true_not_false e (pick_yes d false true h)
