-- The rank depends on the span of the rows alone. A column is a combination of earlier ones exactly if some vector of
-- the kernel has 1 there and nothing after it, and tables whose rows span the same have the same kernel: so they have
-- the same I, and as many members of J.
use mathlib.Core.Path.{◌≡◌, refl, sym, ap, ap₂, ◌∙◌, fun_ext}
use mathlib.Core.Logic.{◌↔◌}
use mathlib.Core.Bool.{false}
use Prim.Native.Nat.{ℕ, suc, ◌≤◌, ◌<◌}
use native.Mathlib.Nat.{lt_of_lt_of_le, ne_of_lt}
use lib.Dec.{eqb}
use borrow.Author.Tests.{eq-eqb, ne_eqb}
use Rattle.algebra.specs.Choice.{choose}
use Rattle.algebra.specs.Ring.{Ring, IsCommutativeRing}
use Rattle.algebra.specs.Matrix.{Vector, Matrix, product, apply, mixed, transpose}
use Rattle.algebra.specs.Span.{Combines, IsCombination, ColumnDepends, InKernel}
use Rattle.algebra.specs.Quasiinverse.{Marks, count, IsPivotInverse}
use Rattle.algebra.proofs.Rings as rings
use Rattle.algebra.proofs.Sums as sums
use Rattle.algebra.proofs.Matrices as matrices
use Rattle.algebra.proofs.Applied as applied
use Rattle.algebra.proofs.Transpose.{mixed_transpose}
use Rattle.algebra.proofs.Chosen.{zero_column, columns_agree}
use Rattle.algebra.proofs.Unique.{absorbs_left}

module _ (R : Ring) (L : IsCommutativeRing R) where
  open R use {zero as 𝟘, one as 𝟙, plus as ◌⊕◌, times as ◌⊗◌, minus}

  infixl 60 ◌⊕◌
  infixl 70 ◌⊗◌
  -- each row of A is a combination of the rows of J
  pub rows_spanned : {m n : ℕ} {A D : Matrix R} {I J : Marks} → IsPivotInverse R m n A D I J → (y : ℕ) → y < m
      → (u : Vector R) × ((t : ℕ) → J t ≡ false → u t ≡ 𝟘) × Combines R m n A u (A y)
  rows_spanned {m} {n} {A} {D} Q y l = (
    product R n A D y,
    (λ t e. zero_column R L Q y t e),
    (λ j k. sym (matrices.entry R (absorbs_left R L Q.absorbs) y j) ∙ applied.product_row R m (product R n A D) A y j),
  )

  -- on a vector with 1 at c, A's column c is added to what the columns before it make
  pub last_column : (A : Matrix R) (c : ℕ) (x : Vector R) → x c ≡ 𝟙
      → (i : ℕ) → apply R (suc c) A x i ≡ apply R c A x i ⊕ A i c
  unfolding apply
  last_column A c x e i =
      sums.sum_next R c (λ t. A i t ⊗ x t)
      ∙ ap (λ a. apply R c A x i ⊕ a) (ap (λ a. A i c ⊗ a) e ∙ L.times_one (A i c))

  module _ (m : ℕ) (A : Matrix R) (c : ℕ) where
    -- column c is a combination of earlier ones exactly if the kernel has a vector with 1 at c and nothing after it
    pub column_depends_by_kernel : ColumnDepends R m A c ↔ ((x : Vector R) × InKernel R m (suc c) A x × (x c ≡ 𝟙))
    unfolding transpose
    column_depends_by_kernel = (from_combination, to_combination)
      where
        from_combination : ColumnDepends R m A c → ((x : Vector R) × InKernel R m (suc c) A x × (x c ≡ 𝟙))
        from_combination (u, h) = (x, in_kernel, at_c)
          where
            x : Vector R
            x t = choose (eqb t c) 𝟙 (minus (u t))

            at_c : x c ≡ 𝟙
            at_c = ap (λ b. choose b 𝟙 (minus (u c))) (eq-eqb c c refl)

            before : (t : ℕ) → t < c → x t ≡ minus (u t)
            before t l = ap (λ b. choose b 𝟙 (minus (u t))) (ne_eqb t c (ne_of_lt l))

            in_kernel : InKernel R m (suc c) A x
            in_kernel i l =
                last_column A c x at_c i
                ∙ ap₂ (λ a b. a ⊕ b)
                (applied.apply_same R c A x (λ t. minus (u t)) before i ∙ applied.apply_negative R L c A u i)
                (h i l ∙ mixed_transpose R L c u A i)
                ∙ rings.minus_plus R L (apply R c A u i)

        to_combination : ((x : Vector R) × InKernel R m (suc c) A x × (x c ≡ 𝟙)) → ColumnDepends R m A c
        to_combination (x, h, e) = (
          (λ t. minus (x t)),
          (λ i l.
              rings.minus_unique R L (apply R c A x i) (A i c) (sym (last_column A c x e i) ∙ h i l)
              ∙ sym (applied.apply_negative R L c A x i)
              ∙ sym (mixed_transpose R L c (λ t. minus (x t)) A i)),
        )

  -- a vector that a table sends to zero is sent to zero by every table of combinations of its rows
  pub kernel_of_span : (m m' n k : ℕ) (A A' : Matrix R) → k ≤ n → ((y : ℕ) → y < m → IsCombination R m' n A' (A y))
      → (x : Vector R) → InKernel R m' k A' x → InKernel R m k A x
  unfolding apply
  kernel_of_span m m' n k A A' l spanned x h y g =
      let (u, combines) = spanned y g in
      sums.sum_same R k (λ t. A y t ⊗ x t) (λ t. mixed R m' u A' t ⊗ x t)
      (λ t j. ap (λ a. a ⊗ x t) (combines t (lt_of_lt_of_le j l)))
      ∙ applied.mixed_apply R L k m' u A' x
      ∙ sums.sum_zeros R L m' (λ s. u s ⊗ apply R k A' x s)
      (λ s j. ap (λ a. u s ⊗ a) (h s j) ∙ rings.times_zero R L (u s))

  -- so a column that depends on earlier ones does so in every table of combinations of the rows
  pub depends_of_span : (m m' n : ℕ) (A A' : Matrix R) → ((y : ℕ) → y < m → IsCombination R m' n A' (A y))
      → (c : ℕ) → c < n → ColumnDepends R m' A' c → ColumnDepends R m A c
  depends_of_span m m' n A A' spanned c l d =
      let (x, h, e) = (column_depends_by_kernel m' A' c).0 d in
      (column_depends_by_kernel m A c).1 (x, kernel_of_span m m' n (suc c) A A' l spanned x h, e)

  -- two tables of the same span, in a ring where 1 is not 0
  module _ (proper : 𝟙 ≡ 𝟘 → ⊥)
      {m m' n : ℕ} {A A' D D' : Matrix R} {I I' J J' : Marks}
      (Q : IsPivotInverse R m n A D I J) (Q' : IsPivotInverse R m' n A' D' I' J')
      (spanned : (y : ℕ) → y < m → IsCombination R m' n A' (A y))
      (spanned' : (y : ℕ) → y < m' → IsCombination R m n A (A' y))
    where
      -- they have the same marks of columns
      pub same_span_same_columns : (c : ℕ) → I c ≡ I' c
      same_span_same_columns =
          columns_agree R L proper Q Q' (depends_of_span m' m n A' A spanned') (depends_of_span m m' n A A' spanned)

      -- they have the same rank
      pub same_span_same_rank : count m J ≡ count m' J'
      same_span_same_rank =
          sym Q.equally_many ∙ ap (count n) (fun_ext same_span_same_columns) ∙ Q'.equally_many
