-- Where the columns are marked: the same quasiinverse with its marks in other numbers, and that rows of D whose columns are not
-- marked are zeros, so that products pass over them.
use mathlib.Core.Path.{◌≡◌, refl, sym, ap, ◌∙◌}
use mathlib.Core.Bool.{Bool, true, false}
use mathlib.Core.List.{List}
use Prim.Native.Nat.{ℕ, ◌+◌, ◌*◌, ◌≤◌}
use native.Mathlib.Nat.{mul-le-mul_right}
use native.Mathlib.Omega.{arith}
use lib.ListN.{length, get_or}
use Rattle.words.specs.Lengths.{longest_row}
use Rattle.algebra.specs.Choice.{choose}
use Rattle.algebra.specs.Quasiinverse.{Marks}
use Rattle.field.proofs.Residues.{reduce_zero}
use Rattle.field.proofs.Views.{table_entry}
use Rattle.matrix_mul.specs.Places.{place, Kept, Used}
use Rattle.matrix_mul.proofs.Places.{kept_at}
use Rattle.matrix_inverse.specs.Eliminated.{no_marks, Marked, BothMarked, Eliminable, Eliminated}
use Rattle.matrix_inverse.proofs.ElimMarks.{fresh_long, fresh_mark, marked_too, marked_over}

-- the same is asked with other numbers for the marks
pub other_columns : {p m n : ℕ} {a d : List ℕ} {at stride : ℕ} {columns columns' rows : List ℕ} → Eliminable p m n a d at stride columns rows
    → n ≤ length columns' → Eliminable p m n a d at stride columns' rows
other_columns e long =
    record {
      is_modulus = e.is_modulus;
      m_most = e.m_most;
      n_most = e.n_most;
      stride_most = e.stride_most;
      a_long = e.a_long;
      a_below = e.a_below;
      d_long = e.d_long;
      d_below = e.d_below;
      fits = e.fits;
      blank = e.blank;
      columns_long = long;
      rows_long = e.rows_long;
    }

-- fresh marks are long enough
pub fresh_columns : {p m n : ℕ} {a d : List ℕ} {at stride : ℕ} {columns rows : List ℕ} → Eliminable p m n a d at stride columns rows
    → Eliminable p m n a d at stride no_marks rows
fresh_columns e = other_columns e (omega (arith, fresh_long, e.n_most))

module _ {p m n : ℕ} {a d : List ℕ} {at stride : ℕ} {rows d' marks rows' : List ℕ}
    (E : Eliminated p m n a d at stride no_marks rows d' marks rows') where
  -- the same is left where the marks are others that follow from these
  marked_in : {columns columns' : List ℕ} → Marked n E.I columns columns' → Eliminated p m n a d at stride columns rows d' columns' rows'
  marked_in marked =
      record {
        I = E.I;
        J = E.J;
        holds = E.holds;
        kept = E.kept;
        columns_marked = marked;
        rows_marked = E.rows_marked;
      }

  -- the fresh marks are added to the columns' marks
  pub columns_added : {columns columns' : List ℕ} → BothMarked n marks columns columns'
      → Eliminated p m n a d at stride columns rows d' columns' rows'
  columns_added both = marked_in (marked_too E.columns_marked both)

  -- the fresh marks of the upper half are added to these
  pub columns_joined : {I : Marks} {upper both : List ℕ} → Marked n I no_marks upper → BothMarked n upper marks both
      → Eliminated p m n a d at stride upper rows d' both rows'
  columns_joined first both =
      marked_in (marked_over first both (E.columns_marked.same_length ∙ sym first.same_length) E.columns_marked)

  -- rows of D whose columns are not marked are zeros
  pub marked_used : length d' ≡ n * stride → at + m ≤ stride → n ≤ longest_row → Used n m d' (place at stride) marks
  marked_used long fits small =
      record {
        long = omega (arith, fresh_long, E.columns_marked.same_length);
        zeros = λ t h e j l.
            reduce_zero p _ (E.kept.below _ (omega (arith, mul-le-mul_right stride h)))
            (sym (table_entry p d' at stride n m t j h l)
            ∙ E.holds.row_outside t j (unmarked (E.I t) (sym (fresh_mark E.columns_marked t h) ∙ e)));
      }
    where
      unmarked : (b : Bool) → ◌≡◌ {A = ℕ} (choose b 1 0) 0 → b ≡ false
      unmarked true e = absurd (omega arith)
      unmarked false e = refl

-- they stay so where other columns of D are written
pub used_kept : {p n m k : ℕ} {d d' : List ℕ} {at stride : ℕ} {marks : List ℕ} → at + (m + k) ≤ stride → Kept p d d' (place (at + m) stride) n k
    → Used n m d (place at stride) marks → Used n m d' (place at stride) marks
used_kept {d = d} {d' = d'} {at = at} {stride = stride} fits kept used =
    record {
      long = used.long;
      zeros = λ t h e j l.
          let here : at + t * stride + j ≡ at + j + t * stride = omega arith in
          ap (λ q. get_or d' q 0) here
          ∙ kept_at kept (omega arith) t (at + j) (omega arith) (λ o b q. omega arith)
          ∙ ap (λ q. get_or d q 0) (sym here)
          ∙ used.zeros t h e j l;
    }
