-- How many members a set of positions has: sets that agree, that are put one behind the other, and that are disjoint.
use mathlib.Core.Path.{◌≡◌, refl, sym, ap, ◌∙◌}
use mathlib.Core.Bool.{Bool, true, false}
use mathlib.Core.Logic.{⊎_elim}
use Prim.Native.Nat.{ℕ, suc, ◌+◌, ◌-◌, ◌<◌}
use native.Mathlib.Nat.{not-suc-le-zero, le_of_suc-le-suc, eq-or-lt_of_le, lt-suc_self, le_step, add-zero, add-suc, add_assoc}
use native.Mathlib.Omega.{arith}
use Rattle.algebra.specs.Choice.{choose}
use Rattle.algebra.specs.Quasiinverse.{Marks, count, either, follow}
use Rattle.algebra.proofs.Marks.{by_test}
use Rattle.algebra.proofs.Blocks.{choose_upper, choose_lower}

-- no test is both
pub true_not_false : {b : Bool} → b ≡ true → b ≡ false → ⊥
true_not_false {b} p q = let z : ◌≡◌ {A = ℕ} 0 1 = ap (λ t. choose t 0 1) (sym p ∙ q) in omega arith

pub count_same : (n : ℕ) (I K : Marks) → ((c : ℕ) → c < n → I c ≡ K c) → count n I ≡ count n K
unfolding count
count_same ℕ.zero I K h = refl
count_same (suc n) I K h =
    λ i. count_same n I K (λ c l. h c (le_step l)) i + choose (h n (lt-suc_self n) i) 1 0

-- a set with a member counts some
pub count_some : (n : ℕ) (I : Marks) (c : ℕ) → c < n → I c ≡ true → 0 < count n I
unfolding count
count_some ℕ.zero I c h e = absurd (not-suc-le-zero h)
count_some (suc n) I c h e =
    ⊎_elim (λ d. let one : ◌≡◌ {A = ℕ} (choose (I n) 1 0) 1 = ap (λ b. choose b 1 0) (ap I (sym d) ∙ e) in omega arith)
    (λ l. omega (arith, count_some n I c l e))
    (eq-or-lt_of_le (le_of_suc-le-suc h))

-- one set behind the other
pub count_follow : (m k : ℕ) (J K : Marks) → count (m + k) (follow m J K) ≡ count m J + count k K
unfolding count follow
count_follow m ℕ.zero J K =
    ap (λ n. count n (follow m J K)) (add-zero m)
    ∙ count_same m (follow m J K) J (λ y h. choose_upper m y (J y) (K (y - m)) h)
    ∙ sym (add-zero (count m J))
count_follow m (suc k) J K =
    ap (λ n. count n (follow m J K)) (add-suc m k)
    ∙ (λ i. count_follow m k J K i + choose (choose_lower m k (J (m + k)) K i) 1 0)
    ∙ add_assoc (count m J) (count k K) (choose (K k) 1 0)

either_one : (a b : Bool) → (a ≡ true → b ≡ false) → choose (choose a true b) 1 0 ≡ choose a 1 0 + choose b 1 0
either_one true b h = ap (λ t. 1 + choose t 1 0) (sym (h refl))
either_one false true h = refl
either_one false false h = refl

-- two sets without a common member
pub count_either : (n : ℕ) (I K : Marks) → ((c : ℕ) → I c ≡ true → K c ≡ false) → count n (either I K) ≡ count n I + count n K
unfolding count either
count_either ℕ.zero I K h = refl
count_either (suc n) I K h =
    let e = count_either n I K h in
    let f = either_one (I n) (K n) (h n) in
    omega arith

-- membership of a union and of a set behind another
pub either_false : (I K : Marks) (c : ℕ) → either I K c ≡ false → (I c ≡ false) × (K c ≡ false)
unfolding either
either_false I K c e =
    by_test (I c) (λ t. absurd (true_not_false (ap (λ b. choose b true (K c)) t) e)) (λ f. (f, sym (ap (λ b. choose b true (K c)) f) ∙ e))

pub either_true : (I K : Marks) (c : ℕ) {P : Type 0} → either I K c ≡ true → (I c ≡ true → P) → (I c ≡ false → K c ≡ true → P) → P
unfolding either
either_true I K c e f g = by_test (I c) f (λ h. g h (sym (ap (λ b. choose b true (K c)) h) ∙ e))

-- a member of one of two sets is in their union
pub either_first : (I K : Marks) (c : ℕ) → I c ≡ true → either I K c ≡ true
unfolding either
either_first I K c e = ap (λ b. choose b true (K c)) e

pub either_second : (I K : Marks) (c : ℕ) → K c ≡ true → either I K c ≡ true
unfolding either
either_second I K c e = by_test (I c) (either_first I K c) (λ f. ap (λ b. choose b true (K c)) f ∙ e)

pub follow_upper : (m : ℕ) (J K : Marks) (y : ℕ) → y < m → follow m J K y ≡ J y
unfolding follow
follow_upper m J K y h = choose_upper m y (J y) (K (y - m)) h

pub follow_lower : (m : ℕ) (J K : Marks) (k : ℕ) → follow m J K (m + k) ≡ K k
unfolding follow
follow_lower m J K k = choose_lower m k (J (m + k)) K
