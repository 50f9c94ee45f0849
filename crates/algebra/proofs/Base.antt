-- Where the recursion of Algorithm Q ends: a zero table, and a table of one row with its least column that is not zero.
use mathlib.Core.Path.{◌≡◌, refl, sym, ap, ◌∙◌, subst}
use mathlib.Core.Bool.{Bool, true, false}
use Prim.Native.Nat.{ℕ, suc, ◌+◌, ◌≤◌, ◌<◌}
use native.Mathlib.Nat.{zero-lt-suc, ne_of_lt}
use native.Mathlib.Decide.{ℕ_discrete}
use native.Mathlib.Omega.{arith}
use lib.Dec.{eqb}
use borrow.Author.Tests.{eq-eqb, ne_eqb, eqb-true, eqb-false}
use Rattle.algebra.specs.Choice.{choose}
use Rattle.algebra.specs.Ring.{Ring, IsCommutativeRing}
use Rattle.algebra.specs.Matrix.{Matrix, Sized, unit, zeros, product}
use Rattle.algebra.specs.Quasiinverse.{count, none, only, single, IsPivotInverse}
use Rattle.algebra.proofs.Rings as rings
use Rattle.algebra.proofs.Sums as sums
use Rattle.algebra.proofs.Matrices as matrices
use Rattle.algebra.proofs.Counts as counts
use Rattle.algebra.proofs.Step.{product_column, product_row}

pub count_none : (n : ℕ) → count n none ≡ 0
unfolding count none
count_none ℕ.zero = refl
count_none (suc n) = let e = count_none n in omega arith

-- one member below n
pub count_only : (n v : ℕ) → v < n → count n (only v) ≡ 1
unfolding count only
count_only ℕ.zero v h = absurd (omega arith)
count_only (suc n) v h = go (ℕ_discrete n v) (λ l. count_only n v l)
  where
    before : (k : ℕ) → k ≤ v → count k (only v) ≡ 0
    before ℕ.zero l = refl
    before (suc k) l =
        let e : count k (only v) ≡ 0 = before k (omega arith) in
        let f : choose {A = ℕ} (eqb k v) 1 0 ≡ 0 = ap (λ b. choose {A = ℕ} b 1 0) (ne_eqb k v (omega arith)) in
        omega arith

    go : Dec (n ≡ v) → (v < n → count n (only v) ≡ 1) → count n (only v) + choose (eqb n v) 1 0 ≡ 1
    go (yes e) r =
        let a : count n (only v) ≡ 0 = before n (omega arith) in
        let f : choose {A = ℕ} (eqb n v) 1 0 ≡ 1 = ap (λ b. choose {A = ℕ} b 1 0) (eq-eqb n v e) in
        omega arith
    go (no d) r =
        let a : count n (only v) ≡ 1 = r (omega arith) in
        let f : choose {A = ℕ} (eqb n v) 1 0 ≡ 0 = ap (λ b. choose {A = ℕ} b 1 0) (ne_eqb n v d) in
        omega arith

module _ (R : Ring) (L : IsCommutativeRing R) where
  open R use {Carrier, zero as 𝟘, one as 𝟙, plus as ◌⊕◌, times as ◌⊗◌}

  infixl 60 ◌⊕◌
  infixl 70 ◌⊗◌
  -- a zero table, of whatever size: D is zero, and no row or column is chosen
  pub zero_table : (m n : ℕ) (A : Matrix R) → ((i j : ℕ) → A i j ≡ 𝟘) → IsPivotInverse R m n A (zeros R) none none
  unfolding zeros none
  zero_table m n A h =
      record {
        row_outside = λ i j e. refl;
        column_outside = λ i j e. refl;
        fixes_column = λ i c e. absurd (counts.true_not_false e refl);
        fixes_row = λ y j e. absurd (counts.true_not_false e refl);
        absorbs =
            record {
              equation =
                  matrices.entries R (product R n A (product R m (zeros R) A)) A
                  (λ i j. product_row R L n A (product R m (zeros R) A) i (λ t l. h i t) j ∙ sym (h i j));
            };
        upper = λ i c l. product_row R L m (zeros R) A i (λ t b. refl) c;
        lower = λ y j l. product_row R L n A (zeros R) y (λ t b. h y t) j;
        columns = λ c e. absurd (counts.true_not_false e refl);
        rows = λ y e. absurd (counts.true_not_false e refl);
        equally_many = count_none n ∙ sym (count_none m);
      }

  -- entries of the D of one row
  single_other_row : (v : ℕ) (s : Carrier) (i j : ℕ) → (i ≡ v → ⊥) → single R v s i j ≡ 𝟘
  unfolding single
  single_other_row v s i j d = ap (λ b. choose b (choose (eqb j 0) s 𝟘) 𝟘) (ne_eqb i v d)

  single_other_column : (v : ℕ) (s : Carrier) (i j : ℕ) → (j ≡ 0 → ⊥) → single R v s i j ≡ 𝟘
  unfolding single
  single_other_column v s i j d = ap (λ b. choose (eqb i v) (choose b s 𝟘) 𝟘) (ne_eqb j 0 d) ∙ same (eqb i v)
    where
      same : (b : Bool) → choose b 𝟘 𝟘 ≡ 𝟘
      same true = refl
      same false = refl

  single_entry : (v : ℕ) (s : Carrier) → single R v s v 0 ≡ s
  unfolding single
  single_entry v s = ap (λ b. choose b s 𝟘) (eq-eqb v v refl)

  -- a table of one row whose least column that is not zero is v, with a(v) × s = 1
  module _ (n : ℕ) (A : Matrix R) (sized : Sized R 1 n A) (v : ℕ) (v_below : v < n) (before : (t : ℕ) → t < v → A 0 t ≡ 𝟘)
      (s : Carrier) (inverse : A 0 v ⊗ s ≡ 𝟙)
    where
      D : Matrix R
      D = single R v s

      -- D A has one row that is not zero, s times A's
      row_of : (c : ℕ) → product R 1 D A v c ≡ s ⊗ A 0 c
      unfolding product D
      row_of c =
          sums.sum_one R L 1 (λ t. single R v s v t ⊗ A t c) 0 (zero-lt-suc 0) (λ t l d. absurd (d (omega arith)))
          ∙ ap (λ x. x ⊗ A 0 c) (single_entry v s)

      row_other : (i c : ℕ) → (i ≡ v → ⊥) → product R 1 D A i c ≡ 𝟘
      unfolding D
      row_other i c d = product_row R L 1 (single R v s) A i (λ t l. single_other_row v s i t d) c

      -- A times anything that is zero outside row v
      pick_row : (Y : Matrix R) (j : ℕ) → ((t : ℕ) → (t ≡ v → ⊥) → Y t j ≡ 𝟘) → (y : ℕ) → product R n A Y y j ≡ A y v ⊗ Y v j
      unfolding product
      pick_row Y j h y = sums.sum_one R L n (λ t. A y t ⊗ Y t j) v v_below (λ t l d. ap (λ x. A y t ⊗ x) (h t d) ∙ rings.times_zero R L (A y t))

      fixes_column : (i c : ℕ) → only v c ≡ true → product R 1 D A i c ≡ unit R i c
      unfolding only
      fixes_column i c h = subst (λ k. product R 1 D A i k ≡ unit R i k) (sym (eqb-true c v h)) (go (ℕ_discrete i v))
        where
          go : Dec (i ≡ v) → product R 1 D A i v ≡ unit R i v
          go (yes e) =
              subst (λ k. product R 1 D A k v ≡ unit R k v) (sym e)
              (row_of v ∙ L.times_comm s (A 0 v) ∙ inverse ∙ sym (sums.unit_same R v))
          go (no d) = row_other i v d ∙ sym (sums.unit_other R i v d)

      fixes_row : (y j : ℕ) → only 0 y ≡ true → product R n A D y j ≡ unit R y j
      unfolding only D
      fixes_row y j h = subst (λ k. product R n A (single R v s) k j ≡ unit R k j) (sym (eqb-true y 0 h)) (go (ℕ_discrete j 0))
        where
          go : Dec (j ≡ 0) → product R n A (single R v s) 0 j ≡ unit R 0 j
          go (yes e) =
              subst (λ k. product R n A (single R v s) 0 k ≡ unit R 0 k) (sym e)
              (pick_row (single R v s) 0 (λ t d. single_other_row v s t 0 d) 0
              ∙ ap (λ x. A 0 v ⊗ x) (single_entry v s)
              ∙ inverse
              ∙ sym (sums.unit_same R 0))
          go (no d) =
              product_column R L n A (single R v s) j (λ t l. single_other_column v s t j d) 0 ∙ sym (sums.unit_other R 0 j (λ e. d (sym e)))

      absorbs : product R n A (product R 1 D A) ≡ A
      absorbs = matrices.entries R (product R n A (product R 1 D A)) A
          (λ y j. pick_row (product R 1 D A) j (λ t d. row_other t j d) y ∙ ap (λ x. A y v ⊗ x) (row_of j) ∙ go y j)
        where
          go : (y j : ℕ) → A y v ⊗ (s ⊗ A 0 j) ≡ A y j
          go ℕ.zero j = sym (L.times_assoc (A 0 v) s (A 0 j)) ∙ ap (λ x. x ⊗ A 0 j) inverse ∙ rings.one_times R L (A 0 j)
          go (suc y) j =
              ap (λ x. x ⊗ (s ⊗ A 0 j)) (sized.rows_end (suc y) v (omega arith))
              ∙ rings.zero_times R L (s ⊗ A 0 j)
              ∙ sym (sized.rows_end (suc y) j (omega arith))

      upper : (i c : ℕ) → c < i → product R 1 D A i c ≡ 𝟘
      upper i c l = go (ℕ_discrete i v)
        where
          go : Dec (i ≡ v) → product R 1 D A i c ≡ 𝟘
          go (yes e) =
              subst (λ k. product R 1 D A k c ≡ 𝟘) (sym e) (row_of c ∙ ap (λ x. s ⊗ x) (before c (omega arith)) ∙ rings.times_zero R L s)
          go (no d) = row_other i c d

      pub one_row : IsPivotInverse R 1 n A (single R v s) (only v) (only 0)
      unfolding D only
      one_row =
          record {
            row_outside = λ i j e. single_other_row v s i j (eqb-false i v e);
            column_outside = λ i j e. single_other_column v s i j (eqb-false j 0 e);
            fixes_column = fixes_column;
            fixes_row = fixes_row;
            absorbs = record { equation = absorbs };
            upper = upper;
            lower = λ y j l. product_column R L n A (single R v s) j (λ t b. single_other_column v s t j (λ e. ne_of_lt (pos y j l) (sym e))) y;
            columns = λ c e. subst (λ k. k < n) (sym (eqb-true c v e)) v_below;
            rows = λ y e. subst (λ k. k < 1) (sym (eqb-true y 0 e)) (zero-lt-suc 0);
            equally_many = count_only n v v_below ∙ sym (count_only 1 0 (zero-lt-suc 0));
          }
        where
          pos : (y j : ℕ) → y < j → 0 < j
          pos y j l = omega arith
