-- A row times a table is what `combine` makes of zeros. So row i of A, times D and then times A, is row i of A D A; and A D A = A
-- exactly if every row of it is the row of A, since both are zero outside the size of A.
use mathlib.Core.Path.{◌≡◌, refl, sym, ap, ap₂, ◌∙◌}
use mathlib.Core.Bool.{Bool}
use mathlib.Core.List.{List}
use Prim.Native.Nat.{ℕ, ◌+◌, ◌*◌, ◌-◌, ◌≤◌, ◌<◌}
use native.Mathlib.Omega.{arith}
use lib.ListN.{length, get_or, take, drop}
use lib.Seq.{ext_get_or}
use Rattle.algebra.specs.Answers.{Tells}
use Rattle.algebra.specs.Matrix.{Matrix, product, mixed}
use Rattle.algebra.specs.Quasiinverse.{Absorbs}
use Rattle.algebra.proofs.Answers.{tells_same}
use Rattle.algebra.proofs.Applied.{product_row, mixed_same, mixed_product}
use Rattle.algebra.proofs.Matrices.{entry}
use Rattle.algebra.proofs.Rings.{zero_plus}
use Rattle.algebra.proofs.Sized.{absorbs_inside}
use Rattle.field.specs.Residue.{Residue, residues, reduce, ◌⊕◌}
use Rattle.field.specs.View.{line}
use Rattle.field.specs.Products.{sum_of_products}
use Rattle.field.specs.Written.{numbers}
use Rattle.field.proofs.Field.{residues_ring}
use Rattle.field.proofs.Residues.{reduce_value, value_unique}
use Rattle.field.proofs.Products.{column_sum}
use Rattle.field.proofs.Views.{table_sized}
use Rattle.field.proofs.Lines.{row_inside, row_line, part_long, part_line, written_line, numbers_below}
use Rattle.field.proofs.Written.{length_tabulate, get_d_tabulate, is_tabulate}
use Rattle.words.specs.Words.{Below, Blank}
use Rattle.words.proofs.Parts.{taken_below, dropped_below}
use Rattle.matrix_mul.specs.Rows.{Combinable, CombinedInto}
use Rattle.matrix_mul.specs.Places.{place, matrix_of}
use Rattle.matrix_check.specs.Rows.{RowFactors, row_times, Pair, RowKept, RowsKept}

-- ---- a row times a table

module _ {p : ℕ} {row table out : List ℕ} (F : RowFactors p row table out) (cleared : List ℕ) (long : length cleared ≡ length out) where
  -- the rows of the table can be combined to a row as long as out
  pub times_combinable : Combinable p row table (place 0 (length cleared)) cleared
  times_combinable =
      record {
        positive = F.positive;
        in_range = F.in_range;
        few = F.few;
        narrow = omega (arith, F.narrow);
        by_below = F.row_below;
        table_below = F.table_below;
        inside = λ t h. rw long (omega (arith, F.table_long, row_inside t (length row) (length out) h));
      }

  -- added to zeros they are the row times the table
  pub times_made : Blank cleared → (after : List ℕ) → CombinedInto p row table 0 (length cleared) cleared after
      → after ≡ numbers (length out) (row_times p row table (length out))
  times_made blank after made = is_tabulate (length out) _ after (made.0 ∙ long) at
    where
      at : (j : ℕ) → j < length out → get_or after j 0 ≡ (row_times p row table (length out) j).value
      at j l =
          made.1 j (omega arith)
          ∙ ap (λ (a : Residue p). a.value)
          (ap₂ (λ x s. reduce p x ⊕ sum_of_products p row table (0 + j) s) (blank j) long
          ∙ zero_plus (residues p) (residues_ring p F.positive) (sum_of_products p row table (0 + j) (length out))
          ∙ column_sum table 0 (length out) (length row) (length out) j l p row refl)

-- ---- a row of A D A

module _ {p m n : ℕ} {a d : List ℕ} (P : Pair p m n a d) (i : ℕ) (h : i < m) where
  abbrev A : Matrix (residues p)
  A = matrix_of p a m n

  abbrev D : Matrix (residues p)
  D = matrix_of p d n m

  -- row i, as the code lends it
  abbrev row : List ℕ
  row = take (i * n + n - i * n) (drop (i * n) a)

  pub row_ends : i * n + n ≤ length a
  row_ends = omega (arith, P.a_long, row_inside i m n h)

  pub row_long : length row ≡ n
  row_long = part_long a (i * n) n row_ends

  row_below : Below p row
  row_below = taken_below p (drop (i * n) a) (i * n + n - i * n) (dropped_below p a (i * n) P.a_below)

  row_entry_lem : (t : ℕ) → t < n → line p row 0 1 t ≡ A i t
  row_entry_lem t l = part_line p a (i * n) n t l ∙ sym (row_line p a m n i t h l)

  module _ {through : List ℕ} (made : through ≡ numbers m (row_times p row d m)) where
    through_long : length through ≡ m
    through_long = ap length made ∙ length_tabulate m _

    -- it is row i of A D
    through_entry : (t : ℕ) → t < m → line p through 0 1 t ≡ mixed (residues p) n (A i) D t
    through_entry t l =
        ap (λ xs. line p xs 0 1 t) made
        ∙ written_line p m (row_times p row d m) t l
        ∙ ap (λ k. mixed (residues p) k (line p row 0 1) (matrix_of p d k m) t) row_long
        ∙ mixed_same (residues p) n (line p row 0 1) (A i) D row_entry_lem t

    -- and it can be multiplied by A
    pub second_factors : (back : List ℕ) → length back ≡ n → RowFactors p through a back
    second_factors back long =
        record {
          positive = P.positive;
          in_range = P.in_range;
          few = omega (arith, through_long, P.m_most);
          narrow = omega (arith, P.n_most);
          row_below = rw made (numbers_below p m (row_times p row d m) P.positive);
          table_below = P.a_below;
          table_long = P.a_long ∙ ap₂ ◌*◌ (sym through_long) (sym long);
        }

    module _ {back : List ℕ} (lent : List ℕ) (long : length lent ≡ n) (made_again : back ≡ numbers (length lent) (row_times p through a (length lent))) where
      again : back ≡ numbers n (row_times p through a n)
      again = made_again ∙ ap (λ k. numbers k (row_times p through a k)) long

      pub back_long : length back ≡ n
      back_long = ap length again ∙ length_tabulate n _

      -- that is row i of A D A
      back_entry : (j : ℕ) → j < n → get_or back j 0 ≡ (product (residues p) n A (product (residues p) m D A) i j).value
      back_entry j l =
          ap (λ xs. get_or xs j 0) again
          ∙ get_d_tabulate n _ j l
          ∙ ap (λ (x : Residue p). x.value)
          (ap (λ k. mixed (residues p) k (line p through 0 1) (matrix_of p a k n) j) through_long
          ∙ mixed_same (residues p) m (line p through 0 1) (mixed (residues p) n (A i) D) A through_entry j
          ∙ mixed_product (residues p) (residues_ring p P.positive) m n (A i) D A j
          ∙ sym (product_row (residues p) n A (product (residues p) m D A) i j))

      -- the number of row i of A
      row_number : (j : ℕ) → j < n → reduce p (get_or row j 0) ≡ A i j
      unfolding line
      row_number j l = ap (λ q. reduce p (get_or row q 0)) (let e : j ≡ 0 + j * 1 = omega arith in e) ∙ row_entry_lem j l

      -- so the test whether both are the same tells whether the row is kept
      pub row_told : {t : Bool} → Tells t (back ≡ row) → Tells t (RowKept p m n a d i)
      row_told =
          tells_same
          (λ e j l.
          sym (reduce_value _) ∙ ap (reduce p) (sym (back_entry j l) ∙ ap (λ xs. get_or xs j 0) e) ∙ row_number j l)
          (λ kept.
          ext_get_or 0 back row (back_long ∙ sym row_long)
          (λ j b.
          let l : j < n = omega (arith, back_long) in
          back_entry j l
          ∙ ap (λ (x : Residue p). x.value) (kept j l)
          ∙ sym (value_unique p (get_or row j 0) (A i j) (row_below j (omega (arith, row_long))) (row_number j l))))

-- ---- all rows

module _ {p m n : ℕ} {a d : List ℕ} (P : Pair p m n a d) where
  -- A D A = A exactly if every row is kept
  pub absorbs_told : {t : Bool} → Tells t (RowsKept p m n a d m) → Tells t (Absorbs (residues p) m n (matrix_of p a m n) (matrix_of p d n m))
  absorbs_told =
      tells_same
      (λ kept. absorbs_inside (residues p) (residues_ring p P.positive) (table_sized p a 0 n m n) (matrix_of p d n m) (λ i j h l. kept i h j l))
      (λ E i h j l. entry (residues p) E.equation i j)
