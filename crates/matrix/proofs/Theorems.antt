-- Document 01's sentences on the table A in memory, its I, J, r and D, its kernel and its systems, each quoted: for every
-- prime in range, all sizes and every list of numbers.
use mathlib.Core.Path.{◌≡◌, refl, sym, ◌∙◌}
use mathlib.Core.Bool.{true, false}
use mathlib.Core.List.{List}
use mathlib.Core.Logic.{◌↔◌, ⊎_elim}
use Prim.Native.Nat.{ℕ, ◌<◌}
use native.Mathlib.Omega.{arith}
use Rattle.algebra.specs.Ring.{IsCommutativeRing}
use Rattle.algebra.specs.Matrix.{Vector, Matrix, sum, unit, apply, mixed, transpose}
use Rattle.algebra.specs.Span.{Combines, IsCombination, RowDepends, ColumnDepends, InKernel, Solves}
use Rattle.algebra.specs.Quasiinverse.{Marks, count, IsQuasiinverse, IsInverseOn, IsPivotInverse}
use Rattle.algebra.specs.Kernel.{kernel_vector, combined}
use Rattle.algebra.specs.Solve.{mix_of}
use Rattle.algebra.proofs.Applied as applied
use Rattle.algebra.proofs.Marks.{is_false}
use Rattle.algebra.proofs.Chosen.{column_depends, column_free, row_depends, row_free}
use Rattle.algebra.proofs.Unique.{inverse_on, inverse_unique, is_quasiinverse}
use Rattle.algebra.proofs.Rank.{rows_spanned}
use Rattle.algebra.proofs.Marked.{same_span_rank}
use Rattle.algebra.proofs.Kernel.{kernel_vector_in, kernel_vector_own, kernel_spanned, kernel_spanned_once}
use Rattle.algebra.proofs.Solve.{candidate_solves, mix_kills, mix_shows}
use Rattle.algebra.proofs.Fit.{zero_remainder}
use Rattle.algebra.proofs.First.{first_or_none, first_before, picked_true, picked_false}
use Rattle.checks.specs.Prime.{IsModulus}
use Rattle.field.specs.Residue.{residues, ◌⊗◌}
use Rattle.matrix.specs.Decide.{field, combinations, equal?}
use Rattle.matrix.specs.Calls.{table_of, columns_of, row_marks_of, table_rank, inverse_of, vector_of, candidate, first_row}
use Rattle.matrix.proofs.Stored.{table_pivots, columns_many}

module _ (p : ℕ) (ok : IsModulus p) (m n : ℕ) (a : List ℕ) where
  -- the table and what 01 names of it
  abbrev A : Matrix (residues p)
  A = table_of p m n a

  abbrev D : Matrix (residues p)
  D = inverse_of p ok m n a

  abbrev I : Marks
  I = columns_of p ok m n a

  abbrev J : Marks
  J = row_marks_of p ok m n a

  Q : IsPivotInverse (residues p) m n A D I J
  Q = table_pivots p ok m n a

  L : IsCommutativeRing (residues p)
  L = (field p ok).ring

  -- ---- quasiinverse

  -- "So ADA = A and DAD = D"
  pub quasiinverse_table : IsQuasiinverse (residues p) m n A D
  quasiinverse_table = is_quasiinverse (residues p) L Q

  -- "I is the set of columns that are no combination of the columns before them"
  pub chosen_columns_free : (c : ℕ) → I c ≡ true → (c < n) × (ColumnDepends (residues p) m A c → ⊥)
  chosen_columns_free c e = (Q.columns c e, column_free (residues p) L (field p ok).one_not_zero Q c e)

  pub chosen_columns_depend : (c : ℕ) → c < n → I c ≡ false → ColumnDepends (residues p) m A c
  chosen_columns_depend c l e = column_depends (residues p) L Q c l e

  -- "J the same for rows"
  pub chosen_rows_free : (y : ℕ) → J y ≡ true → (y < m) × (RowDepends (residues p) n A y → ⊥)
  chosen_rows_free y e = (Q.rows y e, row_free (residues p) L (field p ok).one_not_zero Q y e)

  pub chosen_rows_depend : (y : ℕ) → y < m → J y ≡ false → RowDepends (residues p) n A y
  chosen_rows_depend y l e = row_depends (residues p) L Q y l e

  -- "(A zero column or row is never in its set.)"
  pub zero_column_outside : (c : ℕ) → ((i : ℕ) → i < m → A i c ≡ (residues p).zero) → I c ≡ false
  unfolding transpose
  zero_column_outside c z =
      is_false (I c)
      (λ e.
      (chosen_columns_free c e).1 (
        (λ t. (residues p).zero),
        (λ i l. z i l ∙ sym (applied.zeros_mixed (residues p) L c (λ t. (residues p).zero) (transpose (residues p) A) i (λ t k. refl))),
      ))

  pub zero_row_outside : (y : ℕ) → ((j : ℕ) → j < n → A y j ≡ (residues p).zero) → J y ≡ false
  zero_row_outside y z =
      is_false (J y)
      (λ e.
      (chosen_rows_free y e).1 (
        (λ t. (residues p).zero),
        (λ j l. z j l ∙ sym (applied.zeros_mixed (residues p) L y (λ t. (residues p).zero) A j (λ t k. refl))),
      ))

  -- "I and J have r members each, the rank"
  pub rank_columns : count n I ≡ table_rank p ok m n a
  rank_columns = columns_many p ok m n a

  pub rank_rows : count m J ≡ table_rank p ok m n a
  rank_rows = sym Q.equally_many ∙ rank_columns

  -- "D, of n rows and m columns, is the inverse of A restricted to J and I, and 0 outside I and J"
  pub inverse_table : IsInverseOn (residues p) m n A D I J
  inverse_table = inverse_on (residues p) L Q

  -- and nothing else is
  pub inverse_only : (X : Matrix (residues p)) → IsInverseOn (residues p) m n A X I J → X ≡ D
  inverse_only X h = inverse_unique (residues p) L Q.columns Q.rows h inverse_table

  -- every row is a combination of the rows in J
  pub rows_of_J_span : (y : ℕ) → y < m
      → (u : Vector (residues p)) × ((t : ℕ) → J t ≡ false → u t ≡ (residues p).zero) × Combines (residues p) m n A u (A y)
  rows_of_J_span y l = rows_spanned (residues p) L Q y l

  -- ---- kernel

  -- "For each column c outside I, rising, one vector: column c of 1 - DA", which A sends to zero
  pub kernel_vector_sent : (c : ℕ) → c < n → InKernel (residues p) m n A (kernel_vector (residues p) m D A c)
  kernel_vector_sent c l = kernel_vector_in (residues p) L Q.absorbs c l

  -- "It has 1 at c and 0 at the other columns outside I"
  pub kernel_vector_outside : (c j : ℕ) → I j ≡ false → kernel_vector (residues p) m D A c j ≡ unit (residues p) j c
  kernel_vector_outside c j e = kernel_vector_own (residues p) L Q c j e

  -- each vector that A sends to zero is a combination of the kernel vectors
  pub kernel_one_combination : (x : Vector (residues p)) → InKernel (residues p) m n A x
      → (y : Vector (residues p)) × ((j : ℕ) → j < n → x j ≡ combined (residues p) n I D A m y j)
  kernel_one_combination x h = (x, kernel_spanned (residues p) L Q x h)

  -- and of no other multipliers
  pub kernel_only_one : (x y z : Vector (residues p))
      → ((j : ℕ) → j < n → x j ≡ combined (residues p) n I D A m y j)
      → ((j : ℕ) → j < n → x j ≡ combined (residues p) n I D A m z j)
      → (c : ℕ) → c < n → I c ≡ false → y c ≡ z c
  kernel_only_one x y z f g c l e =
      kernel_spanned_once (residues p) L Q x y f c l e ∙ sym (kernel_spanned_once (residues p) L Q x z g c l e)

  -- ---- solve

  module _ (w : List ℕ) where
    -- the system A x = w has a solution exactly "If A(Dw) = w"
    pub solvable_exactly :
        ((x : Vector (residues p)) × Solves (residues p) m n A x (vector_of p w))
        ↔ Solves (residues p) m n A (candidate p ok m n a w) (vector_of p w)
    solvable_exactly = (
      (λ (x, h). candidate_solves (residues p) L Q.absorbs x (vector_of p w) h),
      (λ h. (candidate p ok m n a w, h)),
    )

    -- "the unit row of y minus (row y of A) times D, for the first row y where A(Dw) and w differ"
    abbrev u : Vector (residues p)
    u = mix_of (residues p) n A D (first_row p ok m n a w)

    -- they differ in no row before y
    pub first_row_first : (i : ℕ) → i < first_row p ok m n a w
        → apply (residues p) n A (candidate p ok m n a w) i ≡ vector_of p w i
    unfolding first_row
    first_row_first i l = picked_false (equal? _ _) (first_before _ 0 m i (omega arith) l)

    -- and where there is no solution they differ in row y
    pub first_row_differs : (Solves (residues p) m n A (candidate p ok m n a w) (vector_of p w) → ⊥)
        → (first_row p ok m n a w < m)
        × (apply (residues p) n A (candidate p ok m n a w) (first_row p ok m n a w) ≡ vector_of p w (first_row p ok m n a w) → ⊥)
    unfolding first_row
    first_row_differs f =
        ⊎_elim
        (λ (e, l). (omega arith, picked_true (equal? _ _) e))
        (λ g. absurd (f (λ i l. picked_false (equal? _ _) (g i (omega arith) (omega arith)))))
        (first_or_none _ 0 m)

    -- "Then uA = 0, and u times w is not 0": refused exactly where there is no solution, and the mix shows it
    pub refused_exactly : (((x : Vector (residues p)) × Solves (residues p) m n A x (vector_of p w)) → ⊥)
        → ((j : ℕ) → j < n → mixed (residues p) m u A j ≡ (residues p).zero)
        × (sum (residues p) m (λ t. u t ⊗ vector_of p w t) ≡ (residues p).zero → ⊥)
    refused_exactly none =
        let (l, differs) = first_row_differs (λ h. none (solvable_exactly.1 h)) in
        let y = first_row p ok m n a w in (
          mix_kills (residues p) L Q.absorbs y l,
          λ z.
              differs
              (zero_remainder (residues p) L n A (candidate p ok m n a w) (vector_of p w) y (sym (mix_shows (residues p) L m n A D (vector_of p w) y l) ∙ z)),
        )

-- "The ledger's rank .. in whatever order they came": rows that are combinations of each other's have the same rank
pub rank_of_rows : (p : ℕ) (ok : IsModulus p) (m k n : ℕ) (a b : List ℕ)
    → ((y : ℕ) → y < m → IsCombination (residues p) k n (table_of p k n b) (table_of p m n a y))
    → ((y : ℕ) → y < k → IsCombination (residues p) m n (table_of p m n a) (table_of p k n b y))
    → table_rank p ok m n a ≡ table_rank p ok k n b
rank_of_rows p ok m k n a b =
    same_span_rank (residues p) (field p ok) (combinations p ok) m k n (table_of p m n a) (table_of p k n b)
