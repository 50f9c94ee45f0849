-- The laws of bounded sums: sums of equal terms, of sums, of multiples, in another order, cut in two, and of one term.
use mathlib.Core.Path.{◌≡◌, refl, sym, ap, ◌∙◌}
use mathlib.Core.Logic.{⊎_elim}
use Prim.Native.Nat.{ℕ, suc, ◌+◌, ◌<◌}
use native.Mathlib.Nat.{not-suc-le-zero, lt-suc_self, le_step, add-zero, add-suc, le_of_suc-le-suc, eq-or-lt_of_le, ne_of_lt}
use borrow.Author.Tests.{eq-eqb, ne_eqb}
use Rattle.algebra.specs.Choice.{choose}
use Rattle.algebra.specs.Ring.{Ring, IsCommutativeRing}
use Rattle.algebra.specs.Matrix.{Vector, sum, unit}
use Rattle.algebra.proofs.Rings as rings

module _ (R : Ring) where
  open R use {Carrier, zero as 𝟘, one as 𝟙, plus as ◌⊕◌}

  infixl 60 ◌⊕◌
  pub sum_none : (f : Vector R) → sum R 0 f ≡ 𝟘
  unfolding sum
  sum_none f = refl

  pub sum_next : (n : ℕ) (f : Vector R) → sum R (suc n) f ≡ sum R n f ⊕ f n
  unfolding sum
  sum_next n f = refl

  -- only the terms below the bound count
  pub sum_same : (n : ℕ) (f g : Vector R) → ((t : ℕ) → t < n → f t ≡ g t) → sum R n f ≡ sum R n g
  unfolding sum
  sum_same ℕ.zero f g h = refl
  sum_same (suc n) f g h = λ i. sum_same n f g (λ t l. h t (le_step l)) i ⊕ h n (lt-suc_self n) i

  pub unit_same : (i : ℕ) → unit R i i ≡ 𝟙
  unfolding unit
  unit_same i = ap (λ b. choose b 𝟙 𝟘) (eq-eqb i i refl)

  pub unit_other : (i j : ℕ) → (i ≡ j → ⊥) → unit R i j ≡ 𝟘
  unfolding unit
  unit_other i j h = ap (λ b. choose b 𝟙 𝟘) (ne_eqb i j h)

module _ (R : Ring) (L : IsCommutativeRing R) where
  open R use {Carrier, zero as 𝟘, one as 𝟙, plus as ◌⊕◌, times as ◌⊗◌, minus}

  infixl 60 ◌⊕◌
  infixl 70 ◌⊗◌
  pub sum_zeros : (n : ℕ) (f : Vector R) → ((t : ℕ) → t < n → f t ≡ 𝟘) → sum R n f ≡ 𝟘
  unfolding sum
  sum_zeros ℕ.zero f h = refl
  sum_zeros (suc n) f h = (λ i. sum_zeros n f (λ t l. h t (le_step l)) i ⊕ h n (lt-suc_self n) i) ∙ L.plus_zero 𝟘

  -- the sum of sums
  pub sum_plus : (n : ℕ) (f g : Vector R) → sum R n (λ t. f t ⊕ g t) ≡ sum R n f ⊕ sum R n g
  unfolding sum
  sum_plus ℕ.zero f g = sym (L.plus_zero 𝟘)
  sum_plus (suc n) f g = ap (λ x. x ⊕ (f n ⊕ g n)) (sum_plus n f g) ∙ rings.plus_middle R L (sum R n f) (sum R n g) (f n) (g n)

  -- a common factor
  pub times_sum : (n : ℕ) (a : Carrier) (f : Vector R) → a ⊗ sum R n f ≡ sum R n (λ t. a ⊗ f t)
  unfolding sum
  times_sum ℕ.zero a f = rings.times_zero R L a
  times_sum (suc n) a f = L.times_plus a (sum R n f) (f n) ∙ ap (λ x. x ⊕ (a ⊗ f n)) (times_sum n a f)

  pub sum_times : (n : ℕ) (f : Vector R) (a : Carrier) → sum R n f ⊗ a ≡ sum R n (λ t. f t ⊗ a)
  sum_times n f a =
      L.times_comm (sum R n f) a ∙ times_sum n a f ∙ sum_same R n (λ t. a ⊗ f t) (λ t. f t ⊗ a) (λ t l. L.times_comm a (f t))

  pub minus_sum : (n : ℕ) (f : Vector R) → minus (sum R n f) ≡ sum R n (λ t. minus (f t))
  unfolding sum
  minus_sum ℕ.zero f = rings.minus_zero R L
  minus_sum (suc n) f = rings.minus_of_plus R L (sum R n f) (f n) ∙ ap (λ x. x ⊕ minus (f n)) (minus_sum n f)

  -- rows first or columns first
  pub sum_swap : (n m : ℕ) (f : ℕ → ℕ → Carrier) → sum R n (λ i. sum R m (λ j. f i j)) ≡ sum R m (λ j. sum R n (λ i. f i j))
  unfolding sum
  sum_swap ℕ.zero m f = sym (sum_zeros m (λ j. 𝟘) (λ j l. refl))
  sum_swap (suc n) m f =
      ap (λ x. x ⊕ sum R m (λ j. f n j)) (sum_swap n m f) ∙ sym (sum_plus m (λ j. sum R n (λ i. f i j)) (λ j. f n j))

  -- the first n terms and the m after them
  pub sum_split : (n m : ℕ) (f : Vector R) → sum R (n + m) f ≡ sum R n f ⊕ sum R m (λ t. f (n + t))
  unfolding sum
  sum_split n ℕ.zero f = ap (λ k. sum R k f) (add-zero n) ∙ sym (L.plus_zero (sum R n f))
  sum_split n (suc m) f =
      ap (λ k. sum R k f) (add-suc n m)
      ∙ ap (λ x. x ⊕ f (n + m)) (sum_split n m f)
      ∙ L.plus_assoc (sum R n f) (sum R m (λ t. f (n + t))) (f (n + m))

  -- a sum with one term that is not zero
  pub sum_one : (n : ℕ) (f : Vector R) (c : ℕ) → c < n → ((t : ℕ) → t < n → (t ≡ c → ⊥) → f t ≡ 𝟘) → sum R n f ≡ f c
  unfolding sum
  sum_one ℕ.zero f c l h = absurd (not-suc-le-zero l)
  sum_one (suc n) f c l h =
      ⊎_elim last (λ k. before k (sum_one n f c k (λ t j. h t (le_step j)))) (eq-or-lt_of_le (le_of_suc-le-suc l))
    where
      last : c ≡ n → sum R n f ⊕ f n ≡ f c
      last e =
          ap (λ x. x ⊕ f n) (sum_zeros n f (λ t k. h t (le_step k) (λ d. ne_of_lt k (d ∙ e))))
          ∙ rings.zero_plus R L (f n)
          ∙ ap f (sym e)

      before : c < n → sum R n f ≡ f c → sum R n f ⊕ f n ≡ f c
      before k r = (λ i. r i ⊕ h n (lt-suc_self n) (λ e. ne_of_lt k (sym e)) i) ∙ L.plus_zero (f c)

  -- the entry that a unit column or row picks
  pub sum_unit : (n : ℕ) (f : Vector R) (c : ℕ) → c < n → sum R n (λ t. f t ⊗ unit R t c) ≡ f c
  sum_unit n f c l =
      sum_one n (λ t. f t ⊗ unit R t c) c l (λ t k d. ap (λ x. f t ⊗ x) (unit_other R t c d) ∙ rings.times_zero R L (f t))
      ∙ ap (λ x. f c ⊗ x) (unit_same R c)
      ∙ L.times_one (f c)

  pub unit_sum : (n : ℕ) (f : Vector R) (c : ℕ) → c < n → sum R n (λ t. unit R c t ⊗ f t) ≡ f c
  unit_sum n f c l =
      sum_one n (λ t. unit R c t ⊗ f t) c l (λ t k d. ap (λ x. x ⊗ f t) (unit_other R c t (λ e. d (sym e))) ∙ rings.zero_times R L (f t))
      ∙ ap (λ x. x ⊗ f c) (unit_same R c)
      ∙ rings.one_times R L (f c)
