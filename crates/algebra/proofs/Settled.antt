-- What all solutions of a system agree on: where it has one, x_j is the same in all of them exactly if row j of 1 - DA is
-- zero, and then it is (Dw)_j. Otherwise adding a kernel vector gives two solutions that differ at j. The same of several right sides:
-- one row of 1 - DA decides for all of them. Whether there is a solution is decided too.
use mathlib.Core.Path.{◌≡◌, refl, sym, ap, ◌∙◌}
use Prim.Native.Nat.{ℕ, ◌≤◌, ◌<◌}
use native.Mathlib.Nat.{ne_of_lt, lt_of_lt_of_le}
use native.Mathlib.Decide.{dec_lt, ℕ_discrete}
use native.Mathlib.Omega.{arith}
use lib.Dec.{eqb}
use borrow.Author.Tests.{eq-eqb, ne_eqb}
use Rattle.algebra.specs.Choice.{choose}
use Rattle.algebra.specs.Ring.{Ring, IsCommutativeRing, IsField}
use Rattle.algebra.specs.Matrix.{Vector, Matrix, sum, unit, product, apply, mixed, cut}
use Rattle.algebra.specs.Span.{IsCombination, Solves, AgreeAt, SolvesAll, AgreeInRow}
use Rattle.algebra.specs.Quasiinverse.{Absorbs}
use Rattle.algebra.specs.Kernel.{kernel_vector}
use Rattle.algebra.proofs.Choice.{all_below?}
use Rattle.algebra.proofs.Rings as rings
use Rattle.algebra.proofs.Sums as sums
use Rattle.algebra.proofs.Applied as applied
use Rattle.algebra.proofs.Kernel.{kernel_vector_in}
use Rattle.algebra.proofs.Solve.{candidate_solves}
use Rattle.algebra.proofs.Exists.{PivotInverse, pivot_inverse}
use Rattle.algebra.proofs.Decide.{cut_sized, cut_inside, mixed_cut}

module _ (R : Ring) (L : IsCommutativeRing R) where
  open R use {Carrier, zero as 𝟘, plus as ◌⊕◌, minus}

  infixl 60 ◌⊕◌
  module _ {m n : ℕ} {A D : Matrix R} (E : Absorbs R m n A D) (w : Vector R) where
    -- row j of 1 - DA is zero: every solution has (Dw)_j at j
    pub agree_if : (j : ℕ) → j < n → ((c : ℕ) → c < n → kernel_vector R m D A c j ≡ 𝟘) → AgreeAt R m n A w j (apply R m D w j)
    unfolding kernel_vector
    agree_if j l zero x s =
        sym (applied.unit_apply R L n x j l)
        ∙ rings.difference_zero R L (apply R n (unit R) x j) (apply R n (product R m D A) x j) difference
        ∙ applied.apply_product R L n m D A x j
        ∙ applied.apply_same R m D (apply R n A x) w (λ t h. s t h) j
      where
        difference : apply R n (unit R) x j ⊕ minus (apply R n (product R m D A) x j) ≡ 𝟘
        difference =
            sym (applied.difference_apply R L n (unit R) (product R m D A) x j)
            ∙ applied.zero_row_apply R L n (λ k t. unit R k t ⊕ minus (product R m D A k t)) x j zero

    -- a solution and a kernel vector added to it
    pub agree_only_if :
        (z : Vector R) → Solves R m n A z w → (j c : ℕ) → c < n → (v : Carrier) → AgreeAt R m n A w j v → kernel_vector R m D A c j ≡ 𝟘
    agree_only_if z s j c l v h =
        rings.plus_cancel R L (z j) (kernel_vector R m D A c j) (h y shifted ∙ sym (h z s))
      where
        y : Vector R
        y t = z t ⊕ kernel_vector R m D A c t

        shifted : Solves R m n A y w
        shifted i b =
            applied.apply_plus R L n A z (kernel_vector R m D A c) i
            ∙ (λ k. s i b k ⊕ kernel_vector_in R L E c l i b k)
            ∙ L.plus_zero (w i)

    -- at a place beyond the columns no solution is bound
    pub agree_beyond :
        (R.one ≡ 𝟘 → ⊥) → (z : Vector R) → Solves R m n A z w → (j : ℕ) → n ≤ j → (v : Carrier) → AgreeAt R m n A w j v → ⊥
    agree_beyond proper z s j b v h =
        proper (rings.plus_cancel R L (z j) R.one (ap (λ a. z j ⊕ a) (sym (sums.unit_same R j)) ∙ h y shifted ∙ sym (h z s)))
      where
        y : Vector R
        y t = z t ⊕ unit R j t

        shifted : Solves R m n A y w
        shifted i k =
            applied.apply_same R n A y z
            (λ t l. ap (λ a. z t ⊕ a) (sums.unit_other R j t (λ e. ne_of_lt (lt_of_lt_of_le l b) (sym e))) ∙ L.plus_zero (z t)) i
            ∙ s i k

module _ (R : Ring) (F : IsField R) where
  -- the table that is cut has the same solutions
  cut_solves : (m n : ℕ) (A : Matrix R) (x w : Vector R) → Solves R m n A x w → Solves R m n (cut R m n A) x w
  unfolding apply
  cut_solves m n A x w s i b =
      sums.sum_same R n (λ t. R.times (cut R m n A i t) (x t)) (λ t. R.times (A i t) (x t))
      (λ t l. ap (λ a. R.times a (x t)) (cut_inside R m n A i t b l))
      ∙ s i b

  solves_cut : (m n : ℕ) (A : Matrix R) (x w : Vector R) → Solves R m n (cut R m n A) x w → Solves R m n A x w
  unfolding apply
  solves_cut m n A x w s i b =
      sym
      (sums.sum_same R n (λ t. R.times (cut R m n A i t) (x t)) (λ t. R.times (A i t) (x t))
      (λ t l. ap (λ a. R.times a (x t)) (cut_inside R m n A i t b l)))
      ∙ s i b

  -- ---- whether all solutions agree at j is said by the rows alone, whatever the right side

  module _ (m n : ℕ) (A : Matrix R) (w : Vector R) (j : ℕ) (l : j < n) where
    -- where the unit row of j is the combination u of the rows, every solution has u w at j
    pub unit_agrees : (c : IsCombination R m n A (unit R j)) → AgreeAt R m n A w j (sum R m (λ t. R.times (c.0 t) (w t)))
    unit_agrees (u, h) x s =
        sym (sums.unit_sum R F.ring n x j l)
        ∙ sums.sum_same R n (λ c. R.times (unit R j c) (x c)) (λ c. R.times (mixed R m u A c) (x c)) (λ c b. ap (λ a. R.times a (x c)) (h c b))
        ∙ applied.mixed_apply R F.ring n m u A x
        ∙ sums.sum_same R m (λ t. R.times (u t) (apply R n A x t)) (λ t. R.times (u t) (w t)) (λ t b. ap (R.times (u t)) (s t b))

    -- and where the solutions agree at j, row j of D is such a combination
    pub agreeing_unit : (z : Vector R) → Solves R m n A z w → (v : R.Carrier) → AgreeAt R m n A w j v → IsCombination R m n A (unit R j)
    unfolding kernel_vector product mixed
    agreeing_unit z s v a = (D j, λ c b. own c b ∙ mixed_cut R m n A (D j) c b)
      where
        E : PivotInverse R m n (cut R m n A)
        E = pivot_inverse R F m n (cut R m n A) (cut_sized R m n A)

        D : Matrix R
        D = E.D

        own : (c : ℕ) → c < n → unit R j c ≡ product R m D (cut R m n A) j c
        own c b =
            rings.difference_zero R F.ring (unit R j c) (product R m D (cut R m n A) j c)
            (agree_only_if R F.ring E.holds.absorbs w z (cut_solves m n A z w s) j c b v (λ x t. a x (solves_cut m n A x w t)))

  -- ---- several right sides: A X = W in s columns

  module _ (m n s : ℕ) (A W : Matrix R) where
    abbrev C : Matrix R
    C = cut R m n A

    S : PivotInverse R m n C
    S = pivot_inverse R F m n C (cut_sized R m n A)

    abbrev D : Matrix R
    D = S.D

    -- D W
    Z : Matrix R
    Z i w = apply R m D (λ k. W k w) i

    -- one column of a solution
    column : (X : Matrix R) → SolvesAll R m n s A X W → (w : ℕ) → w < s → Solves R m n C (λ t. X t w) (λ i. W i w)
    column X g w h = cut_solves m n A (λ t. X t w) (λ i. W i w) (λ i b. g i b w h)

    -- where there is a solution, D W is one
    all_solved : (X : Matrix R) → SolvesAll R m n s A X W → SolvesAll R m n s A Z W
    unfolding Z
    all_solved X g i b w h =
        solves_cut m n A (λ t. Z t w) (λ k. W k w)
        (candidate_solves R F.ring S.holds.absorbs (λ t. X t w) (λ k. W k w) (column X g w h)) i b

    solves? : Dec (SolvesAll R m n s A Z W)
    solves? =
        all_below? (λ i. (w : ℕ) → w < s → apply R n A (λ t. Z t w) i ≡ W i w)
        (λ i. all_below? (λ w. apply R n A (λ t. Z t w) i ≡ W i w) (λ w. F.equal? (apply R n A (λ t. Z t w) i) (W i w)) s) m

    -- so whether there is a solution is decided
    pub solvable? : Dec ((X : Matrix R) × SolvesAll R m n s A X W)
    solvable? = go solves?
      where
        go : Dec (SolvesAll R m n s A Z W) → Dec ((X : Matrix R) × SolvesAll R m n s A X W)
        go (yes g) = yes (Z, g)
        go (no f) = no (λ (X, g). f (all_solved X g))

    -- D W with another solution in column u
    with_column : ℕ → Vector R → Matrix R
    with_column u x i w = choose (eqb u w) (x i) (Z i w)

    with_solves : (u : ℕ) (x : Vector R) → SolvesAll R m n s A Z W → Solves R m n A x (λ i. W i u) → SolvesAll R m n s A (with_column u x) W
    unfolding with_column
    with_solves u x g h i b w l = go (ℕ_discrete u w)
      where
        go : Dec (u ≡ w) → apply R n A (λ t. with_column u x t w) i ≡ W i w
        go (yes e) = rw (eq-eqb u w e) (h i b ∙ ap (W i) e)
        go (no f) = rw (ne_eqb u w f) (g i b w l)

    -- ---- row j of the solutions

    module _ (j : ℕ) where
      own_column : (u : ℕ) (x : Vector R) → with_column u x j u ≡ x j
      unfolding with_column
      own_column u x = rw (eq-eqb u u refl)

      -- so what all solutions agree on in row j, those of one column agree on at j
      pub agree_in_column : (X : Matrix R) → SolvesAll R m n s A X W → (v : Vector R) → AgreeInRow R m n s A W j v → (u : ℕ) → u < s
          → AgreeAt R m n A (λ i. W i u) j (v u)
      agree_in_column X g v a u h x e = sym (own_column u x) ∙ a (with_column u x) (with_solves u x (all_solved X g) e) u h

      -- row j of 1 - DA is zero: all solutions have row j of D W there, in every column
      agree_in_row : j < n → ((c : ℕ) → c < n → kernel_vector R m D C c j ≡ R.zero) → AgreeInRow R m n s A W j (Z j)
      unfolding Z
      agree_in_row b k X g w h = agree_if R F.ring S.holds.absorbs (λ i. W i w) j b k (λ t. X t w) (column X g w h)

      -- whether all solutions agree in row j, and on what: one row of 1 - DA decides for every s
      pub agree_row? : Dec ((v : Vector R) × AgreeInRow R m n s A W j v)
      unfolding Z
      agree_row? =
          go (dec_lt 0 s) solves? (dec_lt j n)
          (all_below? (λ c. kernel_vector R m D C c j ≡ R.zero) (λ c. F.equal? (kernel_vector R m D C c j) R.zero) n)
        where
          first : SolvesAll R m n s A Z W → (e : 0 < s) → Solves R m n C (λ t. Z t 0) (λ i. W i 0)
          first g e = column Z g 0 e

          go : Dec (0 < s) → Dec (SolvesAll R m n s A Z W) → Dec (j < n) → Dec ((c : ℕ) → c < n → kernel_vector R m D C c j ≡ R.zero)
              → Dec ((v : Vector R) × AgreeInRow R m n s A W j v)
          go (no e) g b k = yes (Z j, λ X _ w h. absurd (omega arith))
          go (yes e) (no f) b k = yes (Z j, λ X g. absurd (f (all_solved X g)))
          go (yes e) (yes g) (yes b) (yes k) = yes (Z j, agree_in_row b k)
          go (yes e) (yes g) (yes b) (no k) =
              no
              (λ (v, h).
              k
              (λ c l.
              agree_only_if R F.ring S.holds.absorbs (λ i. W i 0) (λ t. Z t 0) (first g e) j c l (v 0)
              (λ x q. agree_in_column Z g v h 0 e x (solves_cut m n A x (λ i. W i 0) q))))
          go (yes e) (yes g) (no b) k =
              no
              (λ (v, h).
              agree_beyond R F.ring S.holds.absorbs (λ i. W i 0) F.one_not_zero (λ t. Z t 0) (first g e) j (omega arith) (v 0)
              (λ x q. agree_in_column Z g v h 0 e x (solves_cut m n A x (λ i. W i 0) q)))
