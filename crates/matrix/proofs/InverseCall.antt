-- What 01 promises of quasiinverse is kept by `quasiinverse_call` itself. The list of D read as a table is D, and the positions that the
-- lists mark are I and J, so that the theorems about D, I and J are theorems about the numbers that are left.
use mathlib.Core.Path.{◌≡◌, sym, ap, ap₂, ◌∙◌, fun_ext}
use mathlib.Core.Bool.{true, false}
use mathlib.Core.Logic.{inl, inr}
use mathlib.Core.List.{List}
use Prim.Native.Nat.{ℕ, ◌+◌, ◌*◌, ◌/◌, ◌%◌, ◌<◌}
use native.Mathlib.Nat.{div-lt_iff_lt-mul, mul-add-div_right, mul-add-mod_self_right, mod-eq_of_lt}
use native.Mathlib.Omega.{arith}
use lib.ListN.{get_or, get_or-eq_default}
use Rattle.algebra.specs.Choice.{choose}
use Rattle.algebra.specs.Matrix.{Matrix, Sized}
use Rattle.algebra.specs.Span.{RowDepends, ColumnDepends}
use Rattle.algebra.specs.Quasiinverse.{Marks, count, IsPivotInverse}
use Rattle.algebra.proofs.Marks.{by_test, is_false}
use Rattle.algebra.proofs.Sized.{by_size, sized_equal}
use Rattle.checks.specs.Refusal.{IsRefusal}
use Rattle.checks.specs.Prime.{IsModulus}
use Rattle.checks.specs.Told.{results}
use Rattle.checks.specs.Outcome.{Outcome, outcome}
use Rattle.checks.proofs.InOrder.{in_order_elim}
use Rattle.checks.proofs.Modulus.{modulus_prop}
use Rattle.checks.proofs.Refusals.{refusal_number_lem}
use Rattle.field.specs.Residue.{residues, reduce}
use Rattle.field.specs.Written.{rows_of, marks_of, marked}
use Rattle.field.proofs.Residues.{reduce_value}
use Rattle.field.proofs.Views.{table_entry, table_sized}
use Rattle.field.proofs.Written.{length_tabulate, get_d_tabulate, marked_yes, marked_no}
use Rattle.matrix.specs.Calls.{table_of, columns_of, row_marks_of, table_rank, inverse_of, quasiinverse_call}
use Rattle.matrix.specs.Parts.{Checked}
use Rattle.matrix.specs.Promises.{FreeMarks, QuasiinverseDone}
use Rattle.field.proofs.Lines.{numbers_below}
use Rattle.matrix.proofs.Memory.{place_inside}
use Rattle.matrix.proofs.Stored.{table_pivots}
use Rattle.matrix.proofs.Theorems.{quasiinverse_table, inverse_table, inverse_only, rank_columns}
use Rattle.matrix.proofs.Theorems.{chosen_columns_free, chosen_columns_depend, chosen_rows_free, chosen_rows_depend}

-- ---- what is read from written memory

-- a matrix that is zero outside its sizes is read back from its numbers
rows_read : (p m n : ℕ) (X : Matrix (residues p)) → Sized (residues p) m n X → table_of p m n (rows_of m n X) ≡ X
rows_read p m n X sized =
    sized_equal (residues p) m n _ X (table_sized p (rows_of m n X) 0 n m n) sized at
  where
    at : (i j : ℕ) → i < m → j < n → table_of p m n (rows_of m n X) i j ≡ X i j
    at i j h l =
        let q = i * n + j in
        let wide : 0 < n = omega arith in
        let same : 0 + i * n + j ≡ q = omega arith in
        let inside : q < m * n = omega (arith, place_inside i j m n h l) in
        let low : j / n < 1 = (div-lt_iff_lt-mul wide).1 (omega arith) in
        let row : q / n ≡ i = mul-add-div_right wide i j ∙ omega arith in
        let column : q % n ≡ j = mul-add-mod_self_right i n j ∙ mod-eq_of_lt l in
        table_entry p (rows_of m n X) 0 n m n i j h l
        ∙ ap (reduce p)
        (ap (λ k. get_or (rows_of m n X) k 0) same
        ∙ get_d_tabulate (m * n) (λ k. (X (k / n) (k % n)).value) q inside
        ∙ ap₂ (λ r c. (X r c).value) row column)
        ∙ reduce_value (X i j)

-- the positions that written marks mark are the members
marks_read : (n : ℕ) (I : Marks) → ((c : ℕ) → I c ≡ true → c < n) → marked (marks_of n I) ≡ I
marks_read n I inside = fun_ext (λ c. by_test (I c) (member c) (other c))
  where
    member : (c : ℕ) → I c ≡ true → marked (marks_of n I) c ≡ I c
    member c e =
        let one : get_or (marks_of n I) c 0 ≡ 1 =
        get_d_tabulate n (λ k. choose (I k) 1 0) c (inside c e) ∙ ap (λ t. choose t 1 0) e in
        marked_yes (marks_of n I) c (λ z. omega arith) ∙ sym e

    other : (c : ℕ) → I c ≡ false → marked (marks_of n I) c ≡ I c
    other c e =
        marked_no (marks_of n I) c
        (by_size c n
        (λ h. get_d_tabulate n (λ k. choose (I k) 1 0) c h ∙ ap (λ t. choose t 1 0) e)
        (λ h. get_or-eq_default (marks_of n I) 0 (omega (arith, length_tabulate n (λ k. choose (I k) 1 0)))))
        ∙ sym e

-- written marks of the positions that depend on none before them
marks_free : (n : ℕ) (I : Marks) (Depends : ℕ → Type 0) → ((c : ℕ) → I c ≡ true → Depends c → ⊥) → ((c : ℕ) → c < n → I c ≡ false → Depends c)
    → FreeMarks n Depends (marks_of n I)
marks_free n I Depends free depend =
    record {
      long = length_tabulate n (λ k. choose (I k) 1 0);
      each = λ c h.
          let at = get_d_tabulate n (λ k. choose (I k) 1 0) c h in
          by_test (I c) (λ e. inl (at ∙ ap (λ t. choose t 1 0) e, free c e)) (λ e. inr (at ∙ ap (λ t. choose t 1 0) e, depend c h e));
    }

-- ---- the call

module _ (p : ℕ) (ok : IsModulus p) (m n : ℕ) (a : List ℕ) where
  abbrev D : Matrix (residues p)
  D = inverse_of p ok m n a

  abbrev I : Marks
  I = columns_of p ok m n a

  abbrev J : Marks
  J = row_marks_of p ok m n a

  Q : IsPivotInverse (residues p) m n (table_of p m n a) D I J
  Q = table_pivots p ok m n a

  D_sized : Sized (residues p) n m D
  D_sized =
      record {
        rows_end = λ i j h. Q.row_outside i j (is_false (I i) (λ e. omega (arith, Q.columns i e)));
        columns_end = λ i j h. Q.column_outside i j (is_false (J j) (λ e. omega (arith, Q.rows j e)));
      }

  D_read : table_of p n m (rows_of n m D) ≡ D
  D_read = rows_read p n m D D_sized

  I_read : marked (marks_of n I) ≡ I
  I_read = marks_read n I Q.columns

  J_read : marked (marks_of m J) ≡ J
  J_read = marks_read m J Q.rows

  inverse_done : QuasiinverseDone p m n a (outcome (results (table_rank p ok m n a)) (rows_of n m D, (marks_of n I, marks_of m J)))
  inverse_done =
      record {
        columns = marks_free n I (ColumnDepends (residues p) m (table_of p m n a)) (λ c e. (chosen_columns_free p ok m n a c e).1) (chosen_columns_depend p ok m n a);
        rows = marks_free m J (RowDepends (residues p) n (table_of p m n a)) (λ y e. (chosen_rows_free p ok m n a y e).1) (chosen_rows_depend p ok m n a);
        told = ap results (sym (ap (count n) I_read ∙ rank_columns p ok m n a));
        equally_many = ap (count n) I_read ∙ Q.equally_many ∙ sym (ap (count m) J_read);
        d_long = length_tabulate (n * m) (λ q. (D (q / m) (q % m)).value);
        d_below = numbers_below p (n * m) (λ q. D (q / m) (q % m)) (omega (arith, ok.prime.two_or_more));
        inverse = rw (D_read, I_read, J_read) (inverse_table p ok m n a);
        quasiinverse = rw D_read (quasiinverse_table p ok m n a);
        only = rw (D_read, I_read, J_read) (inverse_only p ok m n a);
        is_D = λ other. D_read ∙ ap (λ q. inverse_of p q m n a) (modulus_prop p ok other);
        is_I = λ other. I_read ∙ ap (λ q. columns_of p q m n a) (modulus_prop p ok other);
        is_J = λ other. J_read ∙ ap (λ q. row_marks_of p q m n a) (modulus_prop p ok other);
        is_r = λ other. ap (count n) I_read ∙ rank_columns p ok m n a ∙ ap (λ q. table_rank p q m n a) (modulus_prop p ok other);
      }

-- a quasiinverse call that is not refused tells r and leaves D and the marks of I and J
pub quasiinverse_call_lem : (p m n : ℕ) (a d columns rows : List ℕ)
    → (IsRefusal (quasiinverse_call p m n a d columns rows).told.number → ⊥)
    → QuasiinverseDone p m n a (quasiinverse_call p m n a d columns rows)
unfolding quasiinverse_call
quasiinverse_call_lem p m n a d columns rows =
    in_order_elim _ _ (λ o. (IsRefusal o.told.number → ⊥) → QuasiinverseDone p m n a o)
    (λ hs _. inverse_done p hs.0 m n a)
    (λ kind _ accepted. absurd (accepted (refusal_number_lem kind)))

-- and its table has passed the checks
pub quasiinverse_passed : (p m n : ℕ) (a d columns rows : List ℕ)
    → (IsRefusal (quasiinverse_call p m n a d columns rows).told.number → ⊥) → Checked p m n a
unfolding quasiinverse_call
quasiinverse_passed p m n a d columns rows =
    in_order_elim _ _ (λ (o : Outcome (List ℕ × (List ℕ × List ℕ))). (IsRefusal o.told.number → ⊥) → Checked p m n a)
    (λ (modulus, (sizes, (a_long, (d_long, (columns_long, (rows_long, (a_below, _))))))) _.
    record { is_modulus = modulus; m_most = sizes.0; n_most = sizes.1; a_long = a_long; a_below = a_below })
    (λ kind _ accepted. absurd (accepted (refusal_number_lem kind)))
