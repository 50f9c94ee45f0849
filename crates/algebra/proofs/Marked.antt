-- What 01's I, J, r and D of a table are, over a field and however combinations are decided. The marks of every pivot inverse are
-- I and J, so I has as many members as J; the rank depends on the span of the rows alone; there is a D, and it is one only. Rows
-- and numbers outside the m rows and n columns do not count: a table is cut to size first.
use mathlib.Core.Path.{◌≡◌, refl, sym, ap, ◌∙◌, fun_ext, subst, subst₂}
use mathlib.Core.Bool.{false, true}
use Prim.Native.Nat.{ℕ, ◌<◌}
use native.Mathlib.Nat.{lt_of_lt_of_le, le_of_lt}
use native.Mathlib.Omega.{arith}
use native.Mathlib.Decide.{dec_lt}
use lib.Dec.{ltb}
use borrow.Author.Tests.{lt-ltb, le-ltb}
use Rattle.algebra.specs.Choice.{choose, pick}
use Rattle.algebra.specs.Ring.{Ring, IsField}
use Rattle.algebra.specs.Matrix.{Matrix, Sized, transpose, cut}
use Rattle.algebra.specs.Span.{IsCombination, RowDepends, Independent}
use Rattle.algebra.specs.Quasiinverse.{Marks, count, IsPivotInverse}
use Rattle.algebra.specs.Chosen.{DecidesCombinations, chosen_columns, chosen_rows, rank, Inverse}
use Rattle.algebra.proofs.Alike.{Alike, alike_back, mixed_alike, combination_alike}
use Rattle.algebra.proofs.Choice.{pick_elim}
use Rattle.algebra.proofs.Marks.{is_true, is_false}
use Rattle.algebra.proofs.Counts.{count_same}
use Rattle.algebra.proofs.Transpose.{transposed}
use Rattle.algebra.proofs.Chosen.{row_depends, row_free, row_end}
use Rattle.algebra.proofs.Exists.{PivotInverse, pivot_inverse}
use Rattle.algebra.proofs.Unique.{inverse_on, inverse_unique}
use Rattle.algebra.proofs.Rank.{same_span_same_rank}
use Rattle.algebra.proofs.Independent.{all_counted, independent_chosen}
use Rattle.algebra.proofs.Decide.{cut_inside, cut_sized}

module _ (R : Ring) (F : IsField R) (decide : DecidesCombinations R) where
  -- ---- a pivot inverse of A, whose m rows and n columns are those of X

  module _ {m n : ℕ} (X : Matrix R) {A D : Matrix R} {I J : Marks} (same : Alike R m n A X) (Q : IsPivotInverse R m n A D I J) where
    -- its marks of rows are J
    pub rows_are_chosen : (y : ℕ) → J y ≡ chosen_rows R decide m n X y
    unfolding chosen_rows
    rows_are_chosen y = go (dec_lt y m)
      where
        d : Dec (RowDepends R n X y)
        d = decide y n X (X y)

        go : Dec (y < m) → J y ≡ choose (ltb y m) (pick d false true) false
        go (no h) = row_end R F.ring Q y (omega arith) ∙ sym (ap (λ b. choose b (pick d false true) false) (le-ltb y m (omega arith)))
        go (yes h) =
            pick_elim (λ b. J y ≡ b) d false true
            (λ e.
            is_false (J y)
            (λ t.
            row_free R F.ring F.one_not_zero Q y t
            (combination_alike R X A (alike_back R A X before) (X y) (A y) (λ j l. sym (same y j h l)) e)))
            (λ f. is_true (J y) (λ e. f (combination_alike R A X before (A y) (X y) (λ j l. same y j h l) (row_depends R F.ring Q y h e))))
            ∙ sym (ap (λ b. choose b (pick d false true) false) (lt-ltb y m h))
          where
            before : Alike R y n A X
            before i j b l = same i j (lt_of_lt_of_le b (le_of_lt h)) l

    -- and count the rank
    pub rank_counted : rank R decide m n X ≡ count m J
    unfolding rank
    rank_counted = count_same m (chosen_rows R decide m n X) J (λ y h. sym (rows_are_chosen y))

  -- its marks of columns are I
  pub columns_are_chosen : {m n : ℕ} (X : Matrix R) {A D : Matrix R} {I J : Marks} → Alike R m n A X → IsPivotInverse R m n A D I J
      → (c : ℕ) → I c ≡ chosen_columns R decide m n X c
  unfolding chosen_columns transpose
  columns_are_chosen X same Q = rows_are_chosen (transpose R X) (λ i j h l. same j i l h) (transposed R F.ring Q)

  -- ---- the rank

  -- every table has a pivot inverse when it is cut to size
  cut_inverse : (m n : ℕ) (X : Matrix R) → PivotInverse R m n (cut R m n X)
  cut_inverse m n X = pivot_inverse R F m n (cut R m n X) (cut_sized R m n X)

  -- "I and J have r members each, the rank"
  pub columns_counted : (m n : ℕ) (X : Matrix R) → count n (chosen_columns R decide m n X) ≡ rank R decide m n X
  columns_counted m n X =
      let Q = (cut_inverse m n X).holds in
      count_same n _ _ (λ c h. sym (columns_are_chosen X (cut_inside R m n X) Q c))
      ∙ Q.equally_many
      ∙ sym (rank_counted X (cut_inside R m n X) Q)

  -- rows that are combinations of each other's have the same rank
  pub same_span_rank : (m k n : ℕ) (X Y : Matrix R) → ((y : ℕ) → y < m → IsCombination R k n Y (X y))
      → ((y : ℕ) → y < k → IsCombination R m n X (Y y)) → rank R decide m n X ≡ rank R decide k n Y
  same_span_rank m k n X Y f g =
      rank_counted X (cut_inside R m n X) (cut_inverse m n X).holds
      ∙ same_span_same_rank R F.ring F.one_not_zero (cut_inverse m n X).holds (cut_inverse k n Y).holds (spanned m k X Y f)
      (spanned k m Y X g)
      ∙ sym (rank_counted Y (cut_inside R k n Y) (cut_inverse k n Y).holds)
    where
      spanned : (m k : ℕ) (X Y : Matrix R) → ((y : ℕ) → y < m → IsCombination R k n Y (X y))
          → (y : ℕ) → y < m → IsCombination R k n (cut R k n Y) (cut R m n X y)
      spanned m k X Y f y h =
          combination_alike R Y (cut R k n Y) (alike_back R (cut R k n Y) Y (cut_inside R k n Y)) (X y) (cut R m n X y)
          (λ j l. sym (cut_inside R m n X y j h l)) (f y h)

  -- independent rows are as many as their rank
  pub independent_rank : (m n : ℕ) (X : Matrix R) → Independent R m n X → rank R decide m n X ≡ m
  independent_rank m n X free =
      let S = cut_inverse m n X in
      rank_counted X (cut_inside R m n X) S.holds
      ∙ all_counted m S.J
      (independent_chosen R F.ring F.one_not_zero S.holds
      (λ u c. free u (λ j l. c j l ∙ mixed_alike R m n (cut R m n X) X (cut_inside R m n X) u j l)))

  -- ---- D

  module _ {m n : ℕ} {A : Matrix R} where
    -- a pivot inverse, with its marks named I and J
    marked_so : {D : Matrix R} {I J : Marks} → IsPivotInverse R m n A D I J
        → IsPivotInverse R m n A D (chosen_columns R decide m n A) (chosen_rows R decide m n A)
    marked_so {D} Q =
        subst₂ (λ K L. IsPivotInverse R m n A D K L) (fun_ext (columns_are_chosen A (λ i j h l. refl) Q))
        (fun_ext (rows_are_chosen A (λ i j h l. refl) Q)) Q

    -- there is a D
    pub inverse_of_lem : Sized R m n A → Inverse R decide m n A
    inverse_of_lem s = let S = pivot_inverse R F m n A s in record { D = S.D; holds = inverse_on R F.ring (marked_so S.holds) }

    -- every pivot inverse is D
    pub inverse_is : (N : Inverse R decide m n A) {D : Matrix R} {I J : Marks} → IsPivotInverse R m n A D I J → D ≡ N.D
    inverse_is N Q =
        let P = marked_so Q in inverse_unique R F.ring P.columns P.rows (inverse_on R F.ring P) N.holds

    -- and D with I and J is a pivot inverse
    pub inverse_pivots : (N : Inverse R decide m n A) → Sized R m n A
        → IsPivotInverse R m n A N.D (chosen_columns R decide m n A) (chosen_rows R decide m n A)
    inverse_pivots N s =
        let Q = (pivot_inverse R F m n A s).holds in
        subst (λ X. IsPivotInverse R m n A X (chosen_columns R decide m n A) (chosen_rows R decide m n A)) (inverse_is N Q) (marked_so Q)
