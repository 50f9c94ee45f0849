-- The marks of a pivot inverse are document 01's I and J: a column is outside I exactly if it is a combination of the
-- columns before it, and so for rows and J. Outside I, A e_c = A (D A e_c) combines earlier columns, D A being upper
-- triangular; in I, row c of D would send such a combination to 1 and to 0. Rows go by transposition.
use mathlib.Core.Path.{◌≡◌, sym, ap, ◌∙◌}
use mathlib.Core.Logic.{⊎_elim}
use mathlib.Core.Bool.{true, false}
use Prim.Native.Nat.{ℕ, ◌≤◌, ◌<◌}
use native.Mathlib.Nat.{le_of_lt, eq-or-lt_of_le, not-le_of_lt}
use Rattle.algebra.specs.Ring.{Ring, IsCommutativeRing}
use Rattle.algebra.specs.Matrix.{Vector, Matrix, product, apply, mixed, transpose}
use Rattle.algebra.specs.Span.{RowDepends, ColumnDepends}
use Rattle.algebra.specs.Quasiinverse.{Marks, IsPivotInverse}
use Rattle.algebra.proofs.Sums as sums
use Rattle.algebra.proofs.Matrices as matrices
use Rattle.algebra.proofs.Applied as applied
use Rattle.algebra.proofs.Marks.{is_true, is_false, tests_agree}
use Rattle.algebra.proofs.Transpose.{transposed, mixed_transpose}

module _ (R : Ring) (L : IsCommutativeRing R) where
  module _ {m n : ℕ} {A D : Matrix R} {I J : Marks} (Q : IsPivotInverse R m n A D I J) where
    -- no member of J is beyond the rows
    pub row_end : (y : ℕ) → m ≤ y → J y ≡ false
    row_end y l = is_false (J y) (λ e. not-le_of_lt (Q.rows y e) l)

    -- D A is zero in rows outside I
    pub zero_row : (i c : ℕ) → I i ≡ false → product R m D A i c ≡ R.zero
    zero_row i c e =
        applied.product_row R m D A i c ∙ applied.zeros_mixed R L m (D i) A c (λ t l. Q.row_outside i t e)

    -- A D is zero in columns outside J
    pub zero_column : (y j : ℕ) → J j ≡ false → product R n A D y j ≡ R.zero
    zero_column y j e =
        applied.product_column R n A D y j ∙ applied.apply_zeros R L n A (λ t. D t j) y (λ t l. Q.column_outside t j e)

    -- a column outside I is a combination of the columns before it
    pub column_depends : (c : ℕ) → c < n → I c ≡ false → ColumnDepends R m A c
    unfolding transpose
    column_depends c l e = (x, combines)
      where
        x : Vector R
        x t = product R m D A t c

        ends : (t : ℕ) → c ≤ t → x t ≡ R.zero
        ends t k = ⊎_elim (λ d. zero_row t c (ap I (sym d) ∙ e)) (λ g. Q.upper t c g) (eq-or-lt_of_le k)

        combines : (j : ℕ) → j < m → A j c ≡ mixed R c x (transpose R A) j
        combines j k =
            sym (matrices.entry R Q.absorbs.equation j c)
            ∙ applied.product_column R n A (product R m D A) j c
            ∙ applied.apply_ends R L c n A x j (le_of_lt l) ends
            ∙ sym (mixed_transpose R L c x A j)

  -- a row outside J is a combination of the rows before it
  pub row_depends : {m n : ℕ} {A D : Matrix R} {I J : Marks} → IsPivotInverse R m n A D I J
      → (y : ℕ) → y < m → J y ≡ false → RowDepends R n A y
  unfolding transpose
  row_depends Q = column_depends (transposed R L Q)

  -- in a ring where 1 is not 0
  module _ (proper : R.one ≡ R.zero → ⊥) where
    -- a column of I is no combination of the columns before it
    pub column_free : {m n : ℕ} {A D : Matrix R} {I J : Marks} → IsPivotInverse R m n A D I J
        → (c : ℕ) → I c ≡ true → ColumnDepends R m A c → ⊥
    unfolding transpose
    column_free {m} {n} {A} {D} Q c e (u, h) =
        proper
        (sym (sums.unit_same R c)
        ∙ sym (Q.fixes_column c c e)
        ∙ applied.product_column R m D A c c
        ∙ applied.apply_same R m D (λ t. A t c) (apply R c A u) (λ t l. h t l ∙ mixed_transpose R L c u A t) c
        ∙ sym (applied.apply_product R L c m D A u c)
        ∙ applied.zero_row_apply R L c (product R m D A) u c (λ t l. Q.upper c t l))

    -- a row of J is no combination of the rows before it
    pub row_free : {m n : ℕ} {A D : Matrix R} {I J : Marks} → IsPivotInverse R m n A D I J
        → (y : ℕ) → J y ≡ true → RowDepends R n A y → ⊥
    unfolding transpose
    row_free Q = column_free (transposed R L Q)

    -- two tables whose columns depend on earlier ones alike have the same I
    pub columns_agree : {m m' n : ℕ} {A A' D D' : Matrix R} {I I' J J' : Marks}
        → IsPivotInverse R m n A D I J → IsPivotInverse R m' n A' D' I' J'
        → ((c : ℕ) → c < n → ColumnDepends R m A c → ColumnDepends R m' A' c)
        → ((c : ℕ) → c < n → ColumnDepends R m' A' c → ColumnDepends R m A c)
        → (c : ℕ) → I c ≡ I' c
    columns_agree {I = I} {I' = I'} Q Q' f g c =
        tests_agree (I c) (I' c)
        (λ e. let l = Q.columns c e in is_true (I' c) (λ o. column_free Q c e (g c l (column_depends Q' c l o))))
        (λ e. let l = Q'.columns c e in is_true (I c) (λ o. column_free Q' c e (f c l (column_depends Q c l o))))
