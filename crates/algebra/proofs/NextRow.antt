-- One row more: from a pivot inverse of the first i rows of a table to one of the first i + 1. What is left of row i after the rows
-- above it (`remainder`) decides: if it is zero then I and J stay; if its first number that is not zero stands at v then v joins I and
-- i joins J. Any row that comes of row i by adding chosen rows above it, and is zero at the columns of I, is the remainder.
use mathlib.Core.Path.{◌≡◌, refl, sym, ap, ◌∙◌, subst, fun_ext}
use mathlib.Core.Bool.{Bool, true, false}
use Prim.Native.Nat.{ℕ, zero, suc, ◌+◌, ◌≤◌, ◌<◌}
use native.Mathlib.Nat.{zero-lt-suc, add-zero}
use native.Mathlib.Numerals.{add-one}
use native.Mathlib.Decide.{dec_lt}
use native.Mathlib.Omega.{arith}
use Rattle.algebra.specs.Choice.{choose}
use Rattle.algebra.specs.Ring.{Ring, IsCommutativeRing}
use Rattle.algebra.specs.Matrix.{Vector, Matrix, Sized, add, negative, product, mixed, stack, lower_rows, cut}
use Rattle.algebra.specs.Quasiinverse.{Marks, either, follow, none, only, IsPivotInverse}
use Rattle.algebra.proofs.Rings as rings
use Rattle.algebra.proofs.Matrices as matrices
use Rattle.algebra.proofs.Applied as applied
use Rattle.algebra.proofs.Blocks.{Part, upper, lower, part, stack_upper, stack_lower}
use Rattle.algebra.proofs.Counts.{follow_upper, follow_lower}
use Rattle.algebra.proofs.Chosen.{row_end}
use Rattle.algebra.proofs.Step as steps
use Rattle.algebra.proofs.Base as base
use Rattle.algebra.proofs.Exists.{reduced_sized}
use Rattle.algebra.proofs.Decide.{cut_inside, cut_sized, mixed_cut}
use Rattle.algebra.proofs.Within.{multipliers_back, zero_at_columns}

-- nothing joins a set
either_none : (I : Marks) → either I none ≡ I
unfolding either none
either_none I = fun_ext (λ c. go (I c))
  where
    go : (b : Bool) → choose b true false ≡ b
    go true = refl
    go false = refl

-- nothing behind the first m positions
follow_none : (m : ℕ) (J : Marks) → ((y : ℕ) → m ≤ y → J y ≡ false) → follow m J none ≡ J
unfolding none
follow_none m J ends = fun_ext (λ y. go (part m y))
  where
    go : {y : ℕ} → Part m y → follow m J none y ≡ J y
    go {y} (upper h) = follow_upper m J none y h
    go (lower k) = follow_lower m J none k ∙ sym (ends (m + k) (omega arith))

module _ (R : Ring) where
  -- the rows from row i on, cut to one
  abbrev bottom : (i n : ℕ) → Matrix R → Matrix R
  bottom i n M = cut R 1 n (lower_rows R i M)

  -- a row more is the rows above, and below them that row
  cut_next : (i n : ℕ) (M : Matrix R) → cut R (i + 1) n M ≡ stack R i (cut R i n M) (bottom i n M)
  unfolding lower_rows
  cut_next i n M = matrices.entries R (cut R (i + 1) n M) (stack R i (cut R i n M) (bottom i n M)) (λ y j. go (part i y) j (dec_lt j n))
    where
      go : {y : ℕ} → Part i y → (j : ℕ) → Dec (j < n) → cut R (i + 1) n M y j ≡ stack R i (cut R i n M) (bottom i n M) y j
      go {y} (upper h) j (yes l) =
          cut_inside R (i + 1) n M y j (omega arith) l
          ∙ sym (cut_inside R i n M y j h l)
          ∙ sym (stack_upper R i (cut R i n M) (bottom i n M) y j h)
      go {y} (upper h) j (no l) =
          (cut_sized R (i + 1) n M).columns_end y j (omega arith)
          ∙ sym ((cut_sized R i n M).columns_end y j (omega arith))
          ∙ sym (stack_upper R i (cut R i n M) (bottom i n M) y j h)
      go (lower zero) j (yes l) =
          cut_inside R (i + 1) n M (i + 0) j (omega arith) l
          ∙ sym (cut_inside R 1 n (lower_rows R i M) 0 j (zero-lt-suc 0) l)
          ∙ sym (stack_lower R i (cut R i n M) (bottom i n M) 0 j)
      go (lower (suc k)) j (yes l) =
          (cut_sized R (i + 1) n M).rows_end (i + suc k) j (omega arith)
          ∙ sym ((cut_sized R 1 n (lower_rows R i M)).rows_end (suc k) j (omega arith))
          ∙ sym (stack_lower R i (cut R i n M) (bottom i n M) (suc k) j)
      go (lower k) j (no l) =
          (cut_sized R (i + 1) n M).columns_end (i + k) j (omega arith)
          ∙ sym ((cut_sized R 1 n (lower_rows R i M)).columns_end k j (omega arith))
          ∙ sym (stack_lower R i (cut R i n M) (bottom i n M) k j)

  -- K - (K D) B, where B is the first i rows and K is row i
  unfoldable pub remainder : (i n : ℕ) (M D : Matrix R) → Matrix R
  remainder i n M D = add R (bottom i n M) (negative R (product R i (product R n (bottom i n M) D) (cut R i n M)))

module _ (R : Ring) (L : IsCommutativeRing R) where
  open R use {Carrier, zero as 𝟘, one as 𝟙, plus as ◌⊕◌, times as ◌⊗◌, minus}

  infixl 60 ◌⊕◌
  infixl 70 ◌⊗◌
  remainder_sized : (i n : ℕ) (M D : Matrix R) → Sized R 1 n (remainder R i n M D)
  unfolding remainder
  remainder_sized i n M D =
      reduced_sized R L i 1 n (bottom R i n M) D (cut R i n M) (cut_sized R 1 n (lower_rows R i M)) (cut_sized R i n M)

  -- it is zero where its one row is
  remainder_zero : (i n : ℕ) (M D : Matrix R) → ((j : ℕ) → j < n → remainder R i n M D 0 j ≡ 𝟘) → (y j : ℕ) → remainder R i n M D y j ≡ 𝟘
  remainder_zero i n M D h zero j = go (dec_lt j n)
    where
      go : Dec (j < n) → remainder R i n M D 0 j ≡ 𝟘
      go (yes l) = h j l
      go (no l) = (remainder_sized i n M D).columns_end 0 j (omega arith)
  remainder_zero i n M D h (suc y) j = (remainder_sized i n M D).rows_end (suc y) j (omega arith)

  bottom_row : (i n : ℕ) (M : Matrix R) (j : ℕ) → j < n → bottom R i n M 0 j ≡ M i j
  unfolding lower_rows
  bottom_row i n M j l = cut_inside R 1 n (lower_rows R i M) 0 j (zero-lt-suc 0) l ∙ ap (λ k. M k j) (add-zero i)

  -- row i less the mix of the rows above by (row i) D
  remainder_row : (i n : ℕ) (M D : Matrix R) (j : ℕ) → j < n
      → remainder R i n M D 0 j ≡ M i j ⊕ minus (mixed R i (mixed R n (M i) D) M j)
  unfolding remainder add negative
  remainder_row i n M D j l =
      (λ k. bottom_row i n M j l k ⊕ minus (taken k))
    where
      taken : product R i (product R n (bottom R i n M) D) (cut R i n M) 0 j ≡ mixed R i (mixed R n (M i) D) M j
      taken =
          applied.product_row R i (product R n (bottom R i n M) D) (cut R i n M) 0 j
          ∙ mixed_cut R i n M (product R n (bottom R i n M) D 0) j l
          ∙ applied.mixed_same R i (product R n (bottom R i n M) D 0) (mixed R n (M i) D) M
          (λ t b.
          applied.product_row R n (bottom R i n M) D 0 t
          ∙ applied.mixed_same R n (bottom R i n M 0) (M i) D (bottom_row i n M) t) j

  module _ {i n : ℕ} (M : Matrix R) {D : Matrix R} {I J : Marks} (Q : IsPivotInverse R i n (cut R i n M) D I J) where
    -- row i with u, on the chosen rows above, that is zero at the columns of I: u is - (row i) D
    pub remainder_is : (x u : Vector R) → ((j : ℕ) → j < n → x j ≡ M i j ⊕ mixed R i u M j) → ((t : ℕ) → J t ≡ false → u t ≡ 𝟘)
        → ((c : ℕ) → I c ≡ true → x c ≡ 𝟘) → (j : ℕ) → j < n → remainder R i n M D 0 j ≡ x j
    remainder_is x u sums supported zeros j l =
        remainder_row i n M D j l
        ∙ ap (λ a. M i j ⊕ a)
        (sym (applied.negative_mixed R L i (mixed R n (M i) D) M j)
        ∙ applied.mixed_same R i (λ t. minus (mixed R n (M i) D t)) u M (λ t b. sym (is_minus t)) j)
        ∙ sym (sums j l)
      where
        together : (t : ℕ) → mixed R n (M i) D t ⊕ u t ≡ 𝟘
        together t =
            ap (λ a. mixed R n (M i) D t ⊕ a) (sym (multipliers_back R L Q u supported t))
            ∙ sym (applied.plus_mixed R L n (M i) (mixed R i u (cut R i n M)) D t)
            ∙ applied.mixed_same R n (λ c. M i c ⊕ mixed R i u (cut R i n M) c) x D
            (λ c b. ap (λ a. M i c ⊕ a) (mixed_cut R i n M u c b) ∙ sym (sums c b)) t
            ∙ zero_at_columns R L Q x zeros t

        is_minus : (t : ℕ) → u t ≡ minus (mixed R n (M i) D t)
        is_minus t = rings.minus_unique R L (mixed R n (M i) D t) (u t) (together t)

    -- if all columns are chosen then nothing is left
    pub remainder_none : ((c : ℕ) → c < n → I c ≡ true) → (j : ℕ) → j < n → remainder R i n M D 0 j ≡ 𝟘
    remainder_none all j l =
        remainder_row i n M D j l
        ∙ ap (λ a. M i j ⊕ minus a)
        (sym (mixed_cut R i n M (mixed R n (M i) D) j l)
        ∙ applied.mixed_product R L i n (M i) D (cut R i n M) j
        ∙ sym (applied.product_row R n (λ k. M i) (product R i D (cut R i n M)) 0 j)
        ∙ steps.product_unit_column R L n (λ k. M i) (product R i D (cut R i n M)) j l (λ t. Q.fixes_column t j (all j l)) 0)
        ∙ L.plus_minus (M i j)

    module _ (one_not_zero : 𝟙 ≡ 𝟘 → ⊥) where
      -- the recursion of `Step` with one row below
      next_inverse : {F : Matrix R} {I₂ J₂ : Marks} → IsPivotInverse R 1 n (remainder R i n M D) F I₂ J₂
          → (D' : Matrix R) × IsPivotInverse R (suc i) n (cut R (suc i) n M) D' (either I I₂) (follow i J J₂)
      unfolding remainder
      next_inverse {F} {I₂} {J₂} W =
          (_, moved (steps.step R L one_not_zero i 1 n (cut R i n M) (bottom R i n M) D F _ _ _ _ I I₂ J J₂ refl refl refl refl Q W))
        where
          moved : {X : Matrix R} → IsPivotInverse R (i + 1) n (stack R i (cut R i n M) (bottom R i n M)) X (either I I₂) (follow i J J₂)
              → IsPivotInverse R (suc i) n (cut R (suc i) n M) X (either I I₂) (follow i J J₂)
          moved {X} S =
              subst (λ k. IsPivotInverse R k n (cut R k n M) X (either I I₂) (follow i J J₂)) (add-one i)
              (subst (λ Y. IsPivotInverse R (i + 1) n Y X (either I I₂) (follow i J J₂)) (sym (cut_next R i n M)) S)

      -- nothing is left: the marks stay
      pub next_depends : ((j : ℕ) → j < n → remainder R i n M D 0 j ≡ 𝟘)
          → (D' : Matrix R) × IsPivotInverse R (suc i) n (cut R (suc i) n M) D' I J
      next_depends h =
          let (D', S) = next_inverse (base.zero_table R L 1 n (remainder R i n M D) (remainder_zero i n M D h)) in (
            D',
            subst (λ K. IsPivotInverse R (suc i) n (cut R (suc i) n M) D' K J) (either_none I)
                (subst (λ K. IsPivotInverse R (suc i) n (cut R (suc i) n M) D' (either I none) K) (follow_none i J (row_end R L Q)) S),
          )

      -- v is the first place that is not zero: it joins I, and the row joins J
      pub next_joins : (v : ℕ) (s : Carrier) → v < n → ((j : ℕ) → j < v → remainder R i n M D 0 j ≡ 𝟘) → remainder R i n M D 0 v ⊗ s ≡ 𝟙
          → (D' : Matrix R) × IsPivotInverse R (suc i) n (cut R (suc i) n M) D' (either I (only v)) (follow i J (only 0))
      next_joins v s below before inverse =
          next_inverse (base.one_row R L n (remainder R i n M D) (remainder_sized i n M D) v below before s inverse)
