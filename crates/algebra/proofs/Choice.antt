-- The laws of picking by a decision: by yes, by no, and for whatever both choices share. Decisions over all numbers
-- below a bound are made here too.
use mathlib.Core.Path.{◌≡◌, refl, sym, subst}
use mathlib.Core.Logic.{⊎_elim}
use Prim.Native.Nat.{ℕ, zero, suc, ◌<◌}
use native.Mathlib.Nat.{not-suc-le-zero, le_of_suc-le-suc, eq-or-lt_of_le, lt-suc_self, le_step}
use Rattle.algebra.specs.Choice.{pick, pick_by}

pub pick_yes : {P A : Type 0} (d : Dec P) (a b : A) → P → pick d a b ≡ a
unfolding pick
pick_yes (yes h) a b p = refl
pick_yes (no h) a b p = absurd (h p)

pub pick_no : {P A : Type 0} (d : Dec P) (a b : A) → (P → ⊥) → pick d a b ≡ b
unfolding pick
pick_no (yes h) a b n = absurd (n h)
pick_no (no h) a b n = refl

-- what holds of a under P and of b otherwise holds of the choice
pub pick_elim : {P A : Type 0} (Q : A → Type 0) (d : Dec P) (a b : A) → (P → Q a) → ((P → ⊥) → Q b) → Q (pick d a b)
unfolding pick
pick_elim Q (yes h) a b f g = f h
pick_elim Q (no h) a b f g = g h

-- by a yes all of whose proofs give the same
pub pick_by_same : {P A : Type 0} (d : Dec P) (f : P → A) (b : A) → ((g h : P) → f g ≡ f h) → (h : P) → pick_by d f b ≡ f h
unfolding pick_by
pick_by_same (yes g) f b same h = same g h
pick_by_same (no g) f b same h = absurd (g h)

pub pick_by_no : {P A : Type 0} (d : Dec P) (f : P → A) (b : A) → (P → ⊥) → pick_by d f b ≡ b
unfolding pick_by
pick_by_no (yes g) f b n = absurd (n g)
pick_by_no (no g) f b n = refl

-- what holds of f at every proof and of b otherwise holds of the choice
pub pick_by_elim : {P A : Type 0} (Q : A → Type 0) (d : Dec P) (f : P → A) (b : A)
    → ((h : P) → Q (f h)) → ((P → ⊥) → Q b) → Q (pick_by d f b)
unfolding pick_by
pick_by_elim Q (yes h) f b y n = y h
pick_by_elim Q (no h) f b y n = n h

-- what is decided of each number is decided of all numbers below a bound
pub all_below? : (P : ℕ → Type 0) → ((k : ℕ) → Dec (P k)) → (n : ℕ) → Dec ((k : ℕ) → k < n → P k)
all_below? P d zero = yes (λ k h. absurd (not-suc-le-zero h))
all_below? P d (suc n) = go (all_below? P d n) (d n)
  where
    go : Dec ((k : ℕ) → k < n → P k) → Dec (P n) → Dec ((k : ℕ) → k < suc n → P k)
    go (no f) q = no (λ g. f (λ k h. g k (le_step h)))
    go (yes f) (no g) = no (λ a. g (a n (lt-suc_self n)))
    go (yes f) (yes q) = yes (λ k h. ⊎_elim (λ e. subst P (sym e) q) (λ l. f k l) (eq-or-lt_of_le (le_of_suc-le-suc h)))

-- and where not all hold, one does not
pub not_all_below : (P : ℕ → Type 0) → ((k : ℕ) → Dec (P k)) → (n : ℕ) → (((k : ℕ) → k < n → P k) → ⊥) → (k : ℕ) × ((k < n) × (P k → ⊥))
not_all_below P d zero f = absurd (f (λ k h. absurd (not-suc-le-zero h)))
not_all_below P d (suc n) f = go (d n) (not_all_below P d n)
  where
    go : Dec (P n) → ((((k : ℕ) → k < n → P k) → ⊥) → (k : ℕ) × ((k < n) × (P k → ⊥))) → (k : ℕ) × ((k < suc n) × (P k → ⊥))
    go (no g) less = (n, (lt-suc_self n, g))
    go (yes q) less =
        let (k, (l, g)) =
        less (λ all. f (λ k h. ⊎_elim (λ e. subst P (sym e) q) (λ l. all k l) (eq-or-lt_of_le (le_of_suc-le-suc h)))) in
        (k, (le_step l, g))
