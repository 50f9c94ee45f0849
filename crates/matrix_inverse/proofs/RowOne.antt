-- Where the recursion ends. A table of zeros, also one of no rows, leaves everything as it is; a row with its least number that
-- is not 0 at v puts the inverse into row v of D, and marks v and the row.
use mathlib.Core.Path.{◌≡◌, refl, sym, ap, subst, ◌∙◌}
use mathlib.Core.Bool.{Bool, true, false}
use mathlib.Core.List.{List}
use Prim.Native.Nat.{ℕ, ◌+◌, ◌*◌, ◌<◌}
use native.Mathlib.Nat.{mul-le-mul_right, zero-lt-suc}
use native.Mathlib.Decide.{ℕ_discrete}
use native.Mathlib.Omega.{arith}
use lib.ListN.{length, get_or, set, length-set}
use lib.Seq.{get_or-set_same, get_or-set_other}
use lib.Dec.{eqb}
use borrow.Author.Tests.{eq-eqb, ne_eqb}
use Rattle.algebra.specs.Choice.{choose}
use Rattle.algebra.specs.Ring.{IsCommutativeRing}
use Rattle.algebra.specs.Matrix.{Sized, zeros}
use Rattle.algebra.specs.Quasiinverse.{none, only, single, IsPivotInverse}
use Rattle.algebra.proofs.Matrices.{entry}
use Rattle.algebra.proofs.Sized.{sized_equal}
use Rattle.algebra.proofs.Base.{zero_table, one_row}
use Rattle.field.specs.Residue.{reduce, residues, ◌⊗◌}
use Rattle.field.specs.View.{table}
use Rattle.field.proofs.Field.{residues_ring}
use Rattle.field.proofs.Views.{table_entry, table_sized}
use Rattle.matrix_mul.specs.Places.{place, Kept}
use Rattle.matrix_inverse.specs.Eliminated.{Eliminable, Eliminated}
use Rattle.matrix_mul.proofs.Places.{same_place, kept_none}
use Rattle.matrix_inverse.proofs.ElimMarks.{marked_none, marked_one}
use Rattle.matrix_inverse.proofs.ElimTables.{blank_table}

module _ {p m n : ℕ} {a d : List ℕ} {at stride : ℕ} {columns rows : List ℕ} (e : Eliminable p m n a d at stride columns rows) where
  pub positive : 0 < p
  positive = omega (arith, e.is_modulus.prime.two_or_more)

  ring : IsCommutativeRing (residues p)
  ring = residues_ring p positive

  -- a table of zeros
  pub nothing_chosen :
      ((i j : ℕ) → i < m → j < n → get_or a (0 + i * n + j) 0 ≡ 0) →
      Eliminated p m n a d at stride columns rows d columns rows
  unfolding zeros
  nothing_chosen zero =
      record {
        I = none;
        J = none;
        holds =
            subst (λ D. IsPivotInverse (residues p) m n (table p a 0 n m n) D none none) (sym (blank_table p d at stride n m e.blank))
            (zero_table (residues p) ring m n (table p a 0 n m n) (λ i j. entry (residues p) (blank_table p a 0 n m n zero) i j));
        kept = kept_none p d (place at stride) n m e.d_below;
        columns_marked = marked_none n columns;
        rows_marked = marked_none m rows;
      }

-- a row whose first n numbers are 0 is a table of zeros
pub row_zero : (n : ℕ) (a : List ℕ) → ((t : ℕ) → t < n → get_or a t 0 ≡ 0) → (i j : ℕ) → i < 1 → j < n → get_or a (0 + i * n + j) 0 ≡ 0
row_zero n a zero i j h l =
    let first : i ≡ 0 = omega arith in
    let place : 0 + i * n + j ≡ j = omega (arith, ap (λ k. k * n) first) in
    ap (λ q. get_or a q 0) place ∙ zero j l

-- a place of a column of d
pub place_inside : (n stride at v : ℕ) → v < n → at < stride → at + v * stride < n * stride
place_inside n stride at v h l = omega (arith, mul-le-mul_right stride h)

-- the block of D of one column with r at row v
column_table :
    (p : ℕ) (d : List ℕ) (at stride n v r : ℕ) →
    length d ≡ n * stride →
    at < stride →
    v < n →
    ((i j : ℕ) → i < n → j < 1 → get_or d (at + i * stride + j) 0 ≡ 0) →
    table p (set d (at + v * stride) r) at stride n 1 ≡ single (residues p) v (reduce p r)
unfolding single
column_table p d at stride n v r long fits l blank =
    sized_equal (residues p) n 1 (table p d' at stride n 1) (single (residues p) v (reduce p r)) (table_sized p d' at stride n 1) sized
    (λ i j h g. table_entry p d' at stride n 1 i j h g ∙ by_row i j h g (ℕ_discrete i v))
  where
    d' : List ℕ
    d' = set d (at + v * stride) r

    sized : Sized (residues p) n 1 (single (residues p) v (reduce p r))
    sized =
        record {
          rows_end = λ i j h. rw (ne_eqb i v (omega arith));
          columns_end = λ i j h. rw (ne_eqb j 0 (omega arith)) (same (eqb i v));
        }
      where
        same : (b : Bool) → choose b (reduce p 0) (reduce p 0) ≡ reduce p 0
        same true = refl
        same false = refl

    by_row :
        (i j : ℕ) → i < n → j < 1 → Dec (i ≡ v) → reduce p (get_or d' (at + i * stride + j) 0) ≡ single (residues p) v (reduce p r) i j
    by_row i j h g (yes same) =
        let first : j ≡ 0 = omega arith in
        let here : at + i * stride + j ≡ at + v * stride = omega (arith, ap (λ k. k * stride) same) in
        rw (eq-eqb i v same, eq-eqb j 0 first, here)
        (ap (reduce p) (get_or-set_same d (at + v * stride) r 0 (rw long (place_inside n stride at v l fits))))
    by_row i j h g (no other) =
        let elsewhere : (at + i * stride + j ≡ at + v * stride → ⊥) =
        λ q. other (same_place stride i v at at fits fits (omega arith)).0 in
        rw (ne_eqb i v other) (ap (reduce p) (get_or-set_other d (at + v * stride) (at + i * stride + j) r 0 elsewhere ∙ blank i j h g))

-- the least number that is not 0 stands at v
module _ {p n : ℕ} {a d : List ℕ} {at stride : ℕ} {columns rows : List ℕ} (e : Eliminable p 1 n a d at stride columns rows)
    (v r : ℕ) (v_below : v < n) (before : (t : ℕ) → t < v → get_or a t 0 ≡ 0) (small : r < p)
    (inverse : reduce p (get_or a v 0) ⊗ reduce p r ≡ reduce p 1)
  where
    first_entry : (t : ℕ) → t < n → table p a 0 n 1 n 0 t ≡ reduce p (get_or a t 0)
    first_entry t h =
        let place : 0 + 0 * n + t ≡ t = omega arith in
        table_entry p a 0 n 1 n 0 t (zero-lt-suc 0) h ∙ ap (λ q. reduce p (get_or a q 0)) place

    is_quasiinverse : IsPivotInverse (residues p) 1 n (table p a 0 n 1 n) (single (residues p) v (reduce p r)) (only v) (only 0)
    is_quasiinverse =
        one_row (residues p) (residues_ring p (omega (arith, e.is_modulus.prime.two_or_more))) n (table p a 0 n 1 n)
        (table_sized p a 0 n 1 n)
        v
        v_below
        (λ t h. first_entry t (omega arith) ∙ ap (reduce p) (before t h))
        (reduce p r)
        (ap (λ x. x ⊗ reduce p r) (first_entry v v_below) ∙ inverse)

    inside : at < stride
    inside = omega (arith, e.fits)

    one_kept : Kept p d (set d (at + v * stride) r) (place at stride) n 1
    one_kept =
        record {
          same_length = length-set d (at + v * stride) r;
          elsewhere = λ q out. get_or-set_other d (at + v * stride) q r 0 (λ f. out v 0 v_below (zero-lt-suc 0) (omega arith));
          below = λ i h. by_place i (rw length-set at h) (ℕ_discrete i (at + v * stride));
        }
      where
        by_place : (i : ℕ) → i < length d → Dec (i ≡ at + v * stride) → get_or (set d (at + v * stride) r) i 0 < p
        by_place i h (yes f) = rw (f, get_or-set_same d (at + v * stride) r 0 (rw f at h)) small
        by_place i h (no f) = rw (get_or-set_other d (at + v * stride) i r 0 f) (e.d_below i h)

    pub one_chosen : Eliminated p 1 n a d at stride columns rows (set d (at + v * stride) r) (set columns v 1) (set rows 0 1)
    one_chosen =
        record {
          I = only v;
          J = only 0;
          holds =
              subst (λ D. IsPivotInverse (residues p) 1 n (table p a 0 n 1 n) D (only v) (only 0))
              (sym (column_table p d at stride n v r e.d_long inside v_below e.blank))
              is_quasiinverse;
          kept = one_kept;
          columns_marked = marked_one n v columns (omega (arith, e.columns_long));
          rows_marked = marked_one 1 0 rows (omega (arith, e.rows_long));
        }
