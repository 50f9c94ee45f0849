-- What a ledger needs to know of rows over a ring or a field: which rows and numbers count, that a front of independent rows
-- is independent and so are rows with one more that is no combination of them, that independent rows of n numbers are at most
-- n, and those that k rows combine to at most k, combine in one way only, and let every system be solved.
use mathlib.Core.Path.{◌≡◌, refl, sym, ap, ap₂, ◌∙◌}
use mathlib.Core.Bool.{true}
use mathlib.Core.Logic.{⊎_elim}
use Prim.Native.Nat.{ℕ, suc, ◌≤◌, ◌<◌}
use native.Mathlib.Nat.{lt_of_lt_of_le, not-suc-le-zero, le_of_suc-le-suc, eq-or-lt_of_le, lt-suc_self, le_step}
use native.Mathlib.Decide.{dec_lt}
use native.Mathlib.Omega.{arith}
use lib.Dec.{ltb}
use borrow.Author.Tests.{lt-ltb, le-ltb}
use Rattle.algebra.specs.Choice.{choose}
use Rattle.algebra.specs.Ring.{Ring, IsCommutativeRing, IsField}
use Rattle.algebra.specs.Matrix.{Vector, Matrix, unit, product, apply, mixed, cut}
use Rattle.algebra.specs.Span.{Combines, IsCombination, Independent, Solves}
use Rattle.algebra.specs.Quasiinverse.{Marks, IsPivotInverse}
use Rattle.algebra.proofs.Alike.{Alike, alike_back, mixed_alike, independent_alike}
use Rattle.algebra.proofs.Rings as rings
use Rattle.algebra.proofs.Sums as sums
use Rattle.algebra.proofs.Applied as applied
use Rattle.algebra.proofs.Exists.{PivotInverse, pivot_inverse}
use Rattle.algebra.proofs.Decide.{cut_inside, cut_sized}
use Rattle.algebra.proofs.Independent.{independent_chosen, independent_inverse, all_counted, count_most}

-- ---- which rows and numbers count

module _ (R : Ring) where
  pub apply_alike : {k n : ℕ} (X Y : Matrix R) → Alike R k n X Y → (x : Vector R) (i : ℕ) → i < k → apply R n X x i ≡ apply R n Y x i
  unfolding apply
  apply_alike {n = n} X Y same x i h =
      sums.sum_same R n (λ t. R.times (X i t) (x t)) (λ t. R.times (Y i t) (x t))
      (λ t l. ap (λ a. R.times a (x t)) (same i t h l))

  -- one row more
  pub mixed_next : (k : ℕ) (u : Vector R) (X : Matrix R) (j : ℕ)
      → mixed R (suc k) u X j ≡ R.plus (mixed R k u X j) (R.times (u k) (X k j))
  unfolding mixed
  mixed_next k u X j = sums.sum_next R k (λ t. R.times (u t) (X t j))

module _ (R : Ring) (L : IsCommutativeRing R) where
  open R use {Carrier, zero as 𝟘, one as 𝟙, plus as ◌⊕◌, times as ◌⊗◌, minus}

  infixl 60 ◌⊕◌
  infixl 70 ◌⊗◌
  -- multipliers that are zero from k on mix the first k rows only
  pub mixed_ends : (k m : ℕ) (u : Vector R) (X : Matrix R) (j : ℕ) → k ≤ m → ((t : ℕ) → k ≤ t → u t ≡ 𝟘)
      → mixed R m u X j ≡ mixed R k u X j
  mixed_ends k m u X j h ends = applied.mixed_ends R L k m u X j h ends

  -- multipliers times a number
  pub scaled_mixed : (k : ℕ) (q : Carrier) (u : Vector R) (X : Matrix R) (j : ℕ)
      → q ⊗ mixed R k u X j ≡ mixed R k (λ t. q ⊗ u t) X j
  scaled_mixed k q u X j = sym (applied.times_mixed R L k q u X j)

  -- a row is a combination of rows among which it stands
  pub own_combination : {k n : ℕ} (X : Matrix R) (y : ℕ) → y < k → IsCombination R k n X (X y)
  own_combination {k} X y h = (unit R y, λ j l. sym (applied.unit_mixed R L k X y j h))

  -- the sum of two combinations is one
  pub combination_plus : (k n : ℕ) (X : Matrix R) (v w : Vector R) → IsCombination R k n X v → IsCombination R k n X w
      → IsCombination R k n X (λ j. v j ⊕ w j)
  unfolding mixed
  combination_plus k n X v w (u, c) (s, d) = (
    (λ t. u t ⊕ s t),
    λ j l.
        ap₂ (λ a b. a ⊕ b) (c j l) (d j l)
        ∙ sym (sums.sum_plus R L k (λ t. u t ⊗ X t j) (λ t. s t ⊗ X t j))
        ∙ sums.sum_same R k (λ t. u t ⊗ X t j ⊕ s t ⊗ X t j) (λ t. (u t ⊕ s t) ⊗ X t j) (λ t h. sym (rings.plus_times R L (u t) (s t) (X t j))),
  )

  module _ (k : ℕ) (u : Vector R) where
    -- the first k multipliers, and zeros behind them
    front : Vector R
    front s = choose (ltb s k) (u s) 𝟘

    front_in : (s : ℕ) → s < k → front s ≡ u s
    unfolding front
    front_in s b = ap (λ a. choose a (u s) 𝟘) (lt-ltb s k b)

    front_ends : (s : ℕ) → k ≤ s → front s ≡ 𝟘
    unfolding front
    front_ends s b = ap (λ a. choose a (u s) 𝟘) (le-ltb s k b)

    front_mixed : (m : ℕ) (X : Matrix R) (j : ℕ) → k ≤ m → mixed R m front X j ≡ mixed R k u X j
    front_mixed m X j h = applied.mixed_ends R L k m front X j h front_ends ∙ applied.mixed_same R k front u X front_in j

  -- a combination of combinations is one
  pub combination_through : (k l n : ℕ) (X Y : Matrix R) → ((y : ℕ) → y < k → IsCombination R l n Y (X y)) → (v : Vector R)
      → IsCombination R k n X v → IsCombination R l n Y v
  combination_through ℕ.zero l n X Y h v (u, c) = (
    λ t. 𝟘,
    λ j b. c j b ∙ applied.zeros_mixed R L 0 u X j (λ t e. absurd (not-suc-le-zero e)) ∙ sym (applied.zeros_mixed R L l (λ t. 𝟘) Y j (λ t e. refl)),
  )
  combination_through (suc k) l n X Y h v (u, c) =
      let (a, d) = combination_through k l n X Y (λ y e. h y (le_step e)) (mixed R k u X) (u, λ j b. refl) in
      let (w, e) = h k (lt-suc_self k) in (
        λ t. a t ⊕ u k ⊗ w t,
        λ j b.
            c j b
            ∙ mixed_next R k u X j
            ∙ (λ i. d j b i ⊕ u k ⊗ e j b i)
            ∙ ap (λ z. mixed R l a Y j ⊕ z) (sym (applied.times_mixed R L l (u k) w Y j))
            ∙ sym (applied.plus_mixed R L l a (λ t. u k ⊗ w t) Y j),
      )

  -- a combination of the first k rows is one of the first m
  pub combination_more : {k m n : ℕ} (X : Matrix R) (v : Vector R) → k ≤ m → IsCombination R k n X v → IsCombination R m n X v
  combination_more {k} {m} X v h (u, c) = (front k u, λ j l. c j l ∙ sym (front_mixed k u m X j h))

  -- ---- independent rows

  -- the first k of m independent rows are independent
  pub front_independent : (k m n : ℕ) (X : Matrix R) → k ≤ m → Independent R m n X → Independent R k n X
  front_independent k m n X h free u c t l =
      sym (front_in k u t l) ∙ free (front k u) (λ j b. c j b ∙ sym (front_mixed k u m X j h)) t (lt_of_lt_of_le l h)

  -- independent rows combine to a vector in one way only
  pub combination_once : {k n : ℕ} (X : Matrix R) → Independent R k n X → (v u w : Vector R)
      → Combines R k n X u v → Combines R k n X w v → (t : ℕ) → t < k → u t ≡ w t
  combination_once {k} X free v u w c d t l =
      rings.difference_zero R L (u t) (w t)
      (free (λ s. u s ⊕ minus (w s))
      (λ j b.
      sym (L.plus_minus (v j))
      ∙ ap₂ (λ a e. a ⊕ minus e) (c j b) (d j b)
      ∙ sym (applied.difference_mixed R L k u w X j)) t l)

module _ (R : Ring) (F : IsField R) where
  open R use {Carrier, zero as 𝟘, one as 𝟙, plus as ◌⊕◌, times as ◌⊗◌, minus}

  infixl 60 ◌⊕◌
  infixl 70 ◌⊗◌
  L : IsCommutativeRing R
  L = F.ring

  -- a row with a multiplier that is not zero in a zero mix is a combination of the others
  solved_for : (a b x : Carrier) → (a ≡ 𝟘 → ⊥) → 𝟘 ≡ b ⊕ a ⊗ x → x ≡ minus (F.inverse a) ⊗ b
  solved_for a b x nonzero e =
      sym (L.times_one x)
      ∙ ap (λ y. x ⊗ y) (sym (F.times_inverse a nonzero))
      ∙ sym (L.times_assoc x a (F.inverse a))
      ∙ ap (λ y. y ⊗ F.inverse a) (L.times_comm x a ∙ rings.minus_unique R L b (a ⊗ x) (sym e))
      ∙ rings.minus_times R L b (F.inverse a)
      ∙ ap minus (L.times_comm b (F.inverse a))
      ∙ sym (rings.minus_times R L (F.inverse a) b)

  -- k independent rows and one that is no combination of them are independent
  pub append_independent : (k n : ℕ) (X : Matrix R) → Independent R k n X → (IsCombination R k n X (X k) → ⊥)
      → Independent R (suc k) n X
  append_independent k n X free new u c = go (F.equal? (u k) 𝟘)
    where
      go : Dec (u k ≡ 𝟘) → (t : ℕ) → t < suc k → u t ≡ 𝟘
      go (yes e) t l = ⊎_elim (λ d. ap u d ∙ e) (λ b. free u before t b) (eq-or-lt_of_le (le_of_suc-le-suc l))
        where
          before : Combines R k n X u (λ j. 𝟘)
          before j b =
              c j b
              ∙ mixed_next R k u X j
              ∙ ap (λ a. mixed R k u X j ⊕ a) (ap (λ a. a ⊗ X k j) e ∙ rings.zero_times R L (X k j))
              ∙ L.plus_zero (mixed R k u X j)
      go (no d) t l =
          absurd
          (new (
            (λ s. minus (F.inverse (u k)) ⊗ u s),
            λ j b.
                solved_for (u k) (mixed R k u X j) (X k j) d (c j b ∙ mixed_next R k u X j)
                ∙ sym (applied.times_mixed R L k (minus (F.inverse (u k))) u X j),
          ))

  -- independent rows are all chosen
  pub all_chosen : (k n : ℕ) (X : Matrix R) → Independent R k n X → {D : Matrix R} {I J : Marks}
      → IsPivotInverse R k n (cut R k n X) D I J → (y : ℕ) → y < k → J y ≡ true
  all_chosen k n X free Q =
      independent_chosen R L F.one_not_zero Q
      (independent_alike R k n X (cut R k n X) (alike_back R (cut R k n X) X (cut_inside R k n X)) free)

  -- independent rows of n numbers are at most n
  pub independent_most : (k n : ℕ) (X : Matrix R) → Independent R k n X → k ≤ n
  independent_most k n X free =
      let S = pivot_inverse R F k n (cut R k n X) (cut_sized R k n X) in
      omega (arith, all_counted k S.J (all_chosen k n X free S.holds), S.holds.equally_many, count_most n S.I)

  -- independent rows that are combinations of k rows are at most k: the multipliers of the combinations are independent rows of k numbers
  pub span_most : (k l n : ℕ) (X Y : Matrix R) → Independent R l n Y → ((y : ℕ) → y < l → IsCombination R k n X (Y y)) → l ≤ k
  span_most k l n X Y free each =
      independent_most l k U
      (λ v c.
      free v
      (λ j b.
      sym (applied.zeros_mixed R L k (mixed R l v U) X j (λ t h. sym (c t h)))
      ∙ applied.mixed_product R L k l v U X j
      ∙ mixed_alike R l n (product R k U X) Y (λ y i h d. applied.product_row R k U X y i ∙ sym (combines y (dec_lt y l) h i d)) v j b))
    where
      U_row : (y : ℕ) → Dec (y < l) → Vector R
      U_row y (yes h) = (each y h).0
      U_row y (no h) = Y y

      U : Matrix R
      U y = U_row y (dec_lt y l)

      combines : (y : ℕ) (d : Dec (y < l)) → y < l → Combines R k n X (U_row y d) (Y y)
      combines y (yes h) _ = (each y h).1
      combines y (no h) b = absurd (h b)

  -- every system of independent rows has a solution: A D = 1
  pub independent_solves : (k n : ℕ) (X : Matrix R) → Independent R k n X → (w : Vector R) → (x : Vector R) × Solves R k n X x w
  independent_solves k n X free w = (
    apply R k D w,
    λ i h.
        sym (apply_alike R C X (cut_inside R k n X) (apply R k D w) i h)
        ∙ sym (applied.apply_product R L k n C D w i)
        ∙ apply_alike R (product R n C D) (unit R) (λ y j b l. independent_inverse R L Q (all_chosen k n X free Q) y j b l) w i h
        ∙ applied.unit_apply R L k w i h,
  )
    where
      C : Matrix R
      C = cut R k n X

      S : PivotInverse R k n C
      S = pivot_inverse R F k n C (cut_sized R k n X)

      D : Matrix R
      D = S.D

      Q : IsPivotInverse R k n C D S.I S.J
      Q = S.holds
