-- A table that is read in place is the table as it stands, or its transpose where it is read turned. So a pivot inverse of what is
-- read is 01's D, or D turned; and the worked rows of the reduced form are the rows of D A.
use mathlib.Core.Path.{◌≡◌, refl, sym, ap, ap₂, ◌∙◌, fun_ext, subst}
use mathlib.Core.Bool.{true, false}
use mathlib.Core.List.{List}
use Prim.Native.Nat.{ℕ, zero, suc, ◌+◌, ◌*◌, ◌≤◌}
use native.Mathlib.Nat.{add-zero}
use native.Mathlib.Omega.{arith}
use lib.ListN.{get_or}
use Rattle.algebra.specs.Matrix.{product, transpose}
use Rattle.algebra.specs.Quasiinverse.{IsPivotInverse}
use Rattle.algebra.proofs.Step.{product_row}
use Rattle.algebra.proofs.Independent.{count_most}
use Rattle.algebra.proofs.Counts.{true_not_false}
use Rattle.algebra.proofs.Marks.{by_test}
use Rattle.algebra.proofs.Transpose.{transposed}
use Rattle.checks.specs.Largest.{largest}
use Rattle.checks.specs.Prime.{IsModulus}
use Rattle.field.specs.Residue.{residues, reduce}
use Rattle.field.specs.Written.{marked}
use Rattle.field.proofs.Field.{residues_ring}
use Rattle.field.proofs.Written.{marked_no, marked_yes}
use Rattle.matrix_echelon.specs.Grid.{grid_of}
use Rattle.matrix_echelon.specs.Forward.{IsRank}
use Rattle.matrix_echelon.specs.Reduced.{ReducedForm, RowsByPivot}
use Rattle.matrix_echelon.proofs.Grids.{grid_table, grid_turned}
use Rattle.matrix_echelon.proofs.ReducedRows.{no_pivot_outside}
use Rattle.matrix.specs.Calls.{table_of, table_rank, inverse_of}
use Rattle.matrix.specs.Parts.{plain, turned, ReducedRows, KernelVectors, StoresBasis}
use Rattle.matrix.proofs.Stored.{rank_is, inverse_so}
use Rattle.matrix.proofs.Basis.{basis_stored}

module _ (p m n : ℕ) (a : List ℕ) where
  plain_same : grid_of p (plain m n) a ≡ table_of p m n a
  plain_same = grid_table p (plain m n) a 0 n (λ i j. omega arith)

  turned_same : grid_of p (turned m n) a ≡ transpose (residues p) (table_of p m n a)
  turned_same = grid_turned p (turned m n) a 0 n (λ i j. omega arith)

  -- ---- a pivot inverse of the table as it stands

  module _ {r : ℕ} (h : IsRank p (plain m n) a r) where
    pub plain_pivots : IsPivotInverse (residues p) m n (table_of p m n a) h.D h.I h.J
    plain_pivots = subst (λ X. IsPivotInverse (residues p) m n X h.D h.I h.J) plain_same h.inverse

    -- the rank is at most the number of columns
    pub rank_within : r ≤ n
    rank_within = rw h.rank (count_most n h.I)

    module _ (ok : IsModulus p) where
      pub plain_inverse : h.D ≡ inverse_of p ok m n a
      plain_inverse = inverse_so p ok m n a plain_pivots

      pub plain_rank : r ≡ table_rank p ok m n a
      plain_rank = h.rank ∙ rank_is p ok m n a plain_pivots

  -- of the table turned
  pub turned_inverse : (ok : IsModulus p) {r : ℕ} (h : IsRank p (turned m n) a r) → transpose (residues p) h.D ≡ inverse_of p ok m n a
  unfolding transpose
  turned_inverse ok h =
      inverse_so p ok m n a
      (transposed (residues p) (residues_ring p (omega (arith, ok.prime.two_or_more)))
      (subst (λ X. IsPivotInverse (residues p) n m X h.D h.I h.J) turned_same h.inverse))

  -- ---- the reduced form of the table, with nothing carried

  module _ {w : List ℕ} {step r : ℕ} {e pivots : List ℕ} (f : ReducedForm p (plain m n) a w step 0 r e pivots) where
    module _ {at : List ℕ} (b : RowsByPivot r pivots at) where
      -- a column has no pivot exactly if it is outside I
      free_outside : (j : ℕ) → get_or at j 0 ≡ 0 → f.rank.I j ≡ false
      free_outside j z = no_pivot_outside f j (b.none j z)

      outside_free : (j : ℕ) → f.rank.I j ≡ false → get_or at j 0 ≡ 0
      outside_free j o = go (get_or at j 0) refl
        where
          go : (v : ℕ) → get_or at j 0 ≡ v → get_or at j 0 ≡ 0
          go zero z = z
          go (suc t) z =
              let (l, d) = b.row j t z in
              absurd (true_not_false (subst (λ q. f.rank.I q ≡ true) d (f.chosen t l)) o)

      -- so the marked columns are those of the pivot inverse
      marked_columns : marked at ≡ f.rank.I
      marked_columns =
          fun_ext
          (λ j.
          by_test (f.rank.I j) (λ t. marked_yes at j (λ z. true_not_false t (free_outside j z)) ∙ sym t)
          (λ o. marked_no at j (outside_free j o) ∙ sym o))

      marked_pivots : IsPivotInverse (residues p) m n (table_of p m n a) f.rank.D (marked at) f.rank.J
      marked_pivots =
          subst (λ I. IsPivotInverse (residues p) m n (table_of p m n a) f.rank.D I f.rank.J) (sym marked_columns) (plain_pivots f.rank)

      -- and the worked rows are rows of D A
      pub reduced_rows : IsModulus p → n ≤ largest → ReducedRows p n at e
      reduced_rows ok few =
          record {
            is_modulus = ok;
            n_most = few;
            at_long = b.long;
            at_most = λ j. omega (arith, b.few j, rank_within f.rank);
            e_long = f.long;
            e_below = f.below;
            m = m;
            D = f.rank.D;
            A = table_of p m n a;
            zeros = λ j c z.
                product_row (residues p) (residues_ring p (omega (arith, ok.prime.two_or_more))) m f.rank.D (table_of p m n a) j
                (λ t l. f.rank.inverse.row_outside j t (free_outside j z)) c;
            row = λ j t c z l.
                let (s, d) = b.row j t z in
                ap (λ q. reduce p (get_or e (t * q + c) 0)) (sym (add-zero n)) ∙ f.row t c s l ∙ ap₂ (λ X q. product (residues p) m f.rank.D X q c) plain_same d;
          }

      -- so the vectors that they give are the basis
      pub basis_reduced : (ok : IsModulus p) → n ≤ largest → {basis : List ℕ} {k : ℕ}
          → ((h : ReducedRows p n at e) → KernelVectors h.m n h.D h.A at basis k) → StoresBasis p ok m n a basis k
      unfolding reduced_rows
      basis_reduced ok few v = basis_stored p ok m n a marked_pivots (v (reduced_rows ok few))
