-- What 01 promises of kernel is kept by `kernel_call` itself. The list of vectors has the vector of column c, outside I, at its place,
-- the number of columns outside I before c; so a combination of the vectors in the list is one of the kernel vectors by column, of
-- which the theorems speak.
use mathlib.Core.Path.{◌≡◌, refl, sym, ap, ap₂, ◌∙◌, subst}
use mathlib.Core.Bool.{false, not}
use mathlib.Core.Logic.{⊎_elim}
use mathlib.Core.List.{List, ◌++◌}
use Prim.Native.Nat.{ℕ, zero, suc, ◌+◌, ◌*◌, ◌-◌, ◌<◌}
use native.Mathlib.Nat.{eq-or-lt_of_le, le_of_suc-le-suc}
use native.Mathlib.Omega.{arith}
use lib.ListN.{length, get_or, drop, replicate, length-append, length-replicate, get_or-append}
use lib.Seq.{get_or-append-add, drop_at}
use borrow.Author.Tests.{not-true}
use Rattle.algebra.specs.Choice.{choose}
use Rattle.algebra.specs.Matrix.{Vector, Matrix, mixed}
use Rattle.algebra.specs.Span.{Combines, IsCombination, InKernel}
use Rattle.algebra.specs.Quasiinverse.{Marks, count}
use Rattle.algebra.specs.Kernel.{kernel_vector, combined}
use Rattle.algebra.proofs.Marks.{by_test}
use Rattle.algebra.proofs.Members.{count_complement, count_member, count_other, member_before, member_at, member_at_lem, member_at_place, sum_members}
use Rattle.algebra.proofs.Sums.{sum_same}
use Rattle.algebra.proofs.Applied.{apply_same}
use Rattle.checks.specs.Refusal.{IsRefusal}
use Rattle.checks.specs.Prime.{IsModulus}
use Rattle.checks.specs.Told.{results}
use Rattle.checks.specs.Outcome.{outcome}
use Rattle.checks.proofs.InOrder.{in_order_elim}
use Rattle.checks.proofs.Modulus.{modulus_prop}
use Rattle.checks.proofs.Refusals.{refusal_number_lem}
use Rattle.words.specs.Words.{Blank}
use Rattle.words.proofs.Zeros.{zeros_at}
use Rattle.field.specs.Residue.{residues, reduce, ◌⊗◌}
use Rattle.field.specs.Written.{numbers}
use Rattle.field.proofs.Residues.{reduce_value}
use Rattle.field.proofs.Views.{table_entry}
use Rattle.field.proofs.Written.{length_tabulate, get_d_tabulate}
use Rattle.matrix.specs.Decide.{field}
use Rattle.matrix.specs.Calls.{table_of, columns_of, table_rank, inverse_of, basis_of, kernel_call}
use Rattle.matrix.specs.Promises.{IsKernelBasis, outside_before, ColumnVectors, KernelDone}
use Rattle.field.proofs.Lines.{row_inside}
use Rattle.matrix.proofs.Vectors.{vectors, vectors_none, vectors_more, vectors_skip, vectors_vector, vector_at}
use Rattle.matrix.proofs.Theorems.{rank_columns, kernel_vector_sent, kernel_vector_outside, kernel_one_combination, kernel_only_one}

-- ---- the list of vectors

module _ {p : ℕ} (m n : ℕ) (I : Marks) (D A : Matrix (residues p)) where
  -- the columns outside I
  abbrev outside : Marks
  outside c = not (I c)

  vectors_long : (c : ℕ) → length (vectors m n I D A c) ≡ count c outside * n
  unfolding count
  vectors_long zero = ap length (vectors_none m n I D A 0) ∙ omega arith
  vectors_long (suc c) =
      let ih = vectors_long c in
      by_test (I c)
      (λ e. ap length (vectors_skip m n I D A c e) ∙ ih ∙ ap (λ k. k * n) (sym (count_other outside c (ap not e))))
      (λ e.
      ap length (vectors_vector m n I D A c e)
      ∙ length-append (vectors m n I D A c) (numbers n (kernel_vector (residues p) m D A c))
      ∙ ap₂ ◌+◌ ih (length_tabulate n (λ t. (kernel_vector (residues p) m D A c t).value))
      ∙ omega (arith, ap (λ k. k * n) (count_member outside c (ap not e))))

  -- a column more leaves what is there
  vectors_front : (c i : ℕ) → i < length (vectors m n I D A c) → get_or (vectors m n I D A (suc c)) i 0 ≡ get_or (vectors m n I D A c) i 0
  vectors_front c i h =
      ap (λ l. get_or l i 0) (vectors_more m n I D A c) ∙ get_or-append (vectors m n I D A c) (vector_at m n I D A c) 0 i h

  -- the vector of column c, outside I, stands at its place
  vector_at_lem : (d c j : ℕ) → c < d → I c ≡ false → j < n
      → get_or (vectors m n I D A d) (count c outside * n + j) 0 ≡ (kernel_vector (residues p) m D A c j).value
  vector_at_lem zero c j l e h = absurd (omega arith)
  vector_at_lem (suc d) c j l e h =
      ⊎_elim
      (λ q.
      let v = numbers n (kernel_vector (residues p) m D A c) in
      ap (λ x. get_or (vectors m n I D A (suc x)) (count c outside * n + j) 0) (sym q)
      ∙ ap₂ (λ xs i. get_or xs (i + j) 0) (vectors_vector m n I D A c e) (sym (vectors_long c))
      ∙ get_or-append-add (vectors m n I D A c) v j 0
      ∙ get_d_tabulate n (λ t. (kernel_vector (residues p) m D A c t).value) j h)
      (λ q.
      let before = row_inside (count c outside) (count d outside) n (member_before outside c d q (ap not e)) in
      vectors_front d (count c outside * n + j) (omega (arith, vectors_long d, before)) ∙ vector_at_lem d c j q e h)
      (eq-or-lt_of_le (le_of_suc-le-suc l))

-- ---- the basis

module _ (p : ℕ) (ok : IsModulus p) (m n : ℕ) (a : List ℕ) where
  abbrev A : Matrix (residues p)
  A = table_of p m n a

  abbrev D : Matrix (residues p)
  D = inverse_of p ok m n a

  abbrev I : Marks
  I = columns_of p ok m n a

  -- how many columns are outside I
  abbrev k : ℕ
  k = outside_before p ok m n a n

  -- the vectors in the list, as many
  abbrev X : Matrix (residues p)
  X = table_of p k n (basis_of p ok m n a)

  outside_many : k + table_rank p ok m n a ≡ n
  outside_many = ap (λ r. k + r) (sym (rank_columns p ok m n a)) ∙ count_complement n I

  -- the place of a column outside I is among them
  column_place_inside : (c : ℕ) → c < n → I c ≡ false → outside_before p ok m n a c < k
  column_place_inside c l e = member_before (λ j. not (I j)) c n l (ap not e)

  -- and what stands there is column c of 1 - DA
  basis_at : (c j : ℕ) → c < n → j < n → I c ≡ false
      → get_or (basis_of p ok m n a) (outside_before p ok m n a c * n + j) 0 ≡ (kernel_vector (residues p) m D A c j).value
  unfolding basis_of
  basis_at c j l h e =
      let inside = row_inside (outside_before p ok m n a c) k n (column_place_inside c l e) in
      get_or-append (vectors m n I D A n) (replicate (n * table_rank p ok m n a) 0) 0 (outside_before p ok m n a c * n + j)
      (omega (arith, vectors_long m n I D A n))
      ∙ vector_at_lem m n I D A n c j l e h

  -- as a row of the table of vectors
  basis_vector : (c j : ℕ) → c < n → j < n → I c ≡ false → X (outside_before p ok m n a c) j ≡ kernel_vector (residues p) m D A c j
  basis_vector c j l h e =
      let t = outside_before p ok m n a c in
      let same : 0 + t * n + j ≡ t * n + j = omega arith in
      table_entry p (basis_of p ok m n a) 0 n k n t j (column_place_inside c l e) h
      ∙ ap (reduce p) (ap (λ q. get_or (basis_of p ok m n a) q 0) same ∙ basis_at c j l h e)
      ∙ reduce_value (kernel_vector (residues p) m D A c j)

  basis_long : length (basis_of p ok m n a) ≡ n * n
  unfolding basis_of
  basis_long =
      length-append (vectors m n I D A n) (replicate (n * table_rank p ok m n a) 0)
      ∙ ap₂ ◌+◌ (vectors_long m n I D A n) (length-replicate (n * table_rank p ok m n a) 0)
      ∙ omega (arith, ap (λ q. q * n) outside_many)

  basis_rest : Blank (drop (k * n) (basis_of p ok m n a))
  unfolding basis_of
  basis_rest j =
      ap (λ l. get_or l j 0) (drop_at (vectors m n I D A n) (replicate (n * table_rank p ok m n a) 0) (k * n) (vectors_long m n I D A n))
      ∙ zeros_at (n * table_rank p ok m n a) j

  -- ---- combinations

  -- a combination of the vectors in the list is one of the kernel vectors by column
  basis_combined : (u : Vector (residues p)) (j : ℕ) → j < n
      → mixed (residues p) k u X j ≡ combined (residues p) n I D A m (λ c. u (outside_before p ok m n a c)) j
  unfolding mixed combined
  basis_combined u j h =
      sum_members (λ c. not (I c)) (residues p) (field p ok).ring n (λ t. u t ⊗ X t j)
      ∙ sum_same (residues p) n _ _
      (λ c l.
      let o = (residues p).zero in
      let t = outside_before p ok m n a c in
      let y = u t ⊗ kernel_vector (residues p) m D A c j in
      by_test (I c)
      (λ e. ap (λ b. choose (not b) (u t ⊗ X t j) o) e ∙ sym (ap (λ b. choose b o y) e))
      (λ e. ap (λ b. choose (not b) (u t ⊗ X t j) o) e ∙ ap (λ v. u t ⊗ v) (basis_vector c j l h e) ∙ sym (ap (λ b. choose b o y) e)))

  -- multipliers that agree outside I
  combined_same : (y z : Vector (residues p)) → ((c : ℕ) → c < n → I c ≡ false → y c ≡ z c) → (j : ℕ)
      → combined (residues p) n I D A m y j ≡ combined (residues p) n I D A m z j
  unfolding combined
  combined_same y z same j =
      sum_same (residues p) n _ _
      (λ c l.
      let o = (residues p).zero in
      let v = kernel_vector (residues p) m D A c j in
      by_test (I c)
      (λ e. ap (λ b. choose b o (y c ⊗ v)) e ∙ sym (ap (λ b. choose b o (z c ⊗ v)) e))
      (λ e. ap (λ b. choose b o (y c ⊗ v)) e ∙ ap (λ q. q ⊗ v) (same c l e) ∙ sym (ap (λ b. choose b o (z c ⊗ v)) e)))

  -- the column of a place, and the vector there
  column_at : ℕ → ℕ
  column_at t = member_at (λ c. not (I c)) n t

  column_at_lem : (t : ℕ) → t < k → (column_at t < n) × (I (column_at t) ≡ false) × (outside_before p ok m n a (column_at t) ≡ t)
  unfolding column_at
  column_at_lem t l = let (below, out, place) = member_at_lem (λ c. not (I c)) n t l in (below, not-true _ out, place)

  column_at_place : (c : ℕ) → c < n → I c ≡ false → column_at (outside_before p ok m n a c) ≡ c
  unfolding column_at
  column_at_place c l e = member_at_place (λ j. not (I j)) n c l (ap not e)

  vector_sent : (t : ℕ) → t < k → InKernel (residues p) m n A (X t)
  vector_sent t l i h =
      let (below, out, place) = column_at_lem t l in
      apply_same (residues p) n A (X t) (kernel_vector (residues p) m D A (column_at t))
      (λ j b. ap (λ q. X q j) (sym place) ∙ basis_vector (column_at t) j below b out) i
      ∙ kernel_vector_sent p ok m n a (column_at t) below i h

  vectors_span : (x : Vector (residues p)) → InKernel (residues p) m n A x → IsCombination (residues p) k n X x
  vectors_span x h =
      let (y, e) = kernel_one_combination p ok m n a x h in (
        (λ t. y (column_at t)),
        λ j l.
            e j l
            ∙ sym
            (basis_combined (λ t. y (column_at t)) j l
            ∙ combined_same (λ c. y (column_at (outside_before p ok m n a c))) y (λ c b out. ap y (column_at_place c b out)) j),
      )

  vectors_once : (x u v : Vector (residues p)) → Combines (residues p) k n X u x → Combines (residues p) k n X v x
      → (t : ℕ) → t < k → u t ≡ v t
  vectors_once x u v f g t l =
      let (below, out, place) = column_at_lem t l in
      ap u (sym place)
      ∙ kernel_only_one p ok m n a x _ _ (λ j b. f j b ∙ basis_combined u j b) (λ j b. g j b ∙ basis_combined v j b) (column_at t) below out
      ∙ ap v place

  -- the definition's two parts, for those who fill a basis
  pub basis_parts : vectors m n I D A n ++ replicate (n * table_rank p ok m n a) 0 ≡ basis_of p ok m n a
  unfolding basis_of
  basis_parts = refl

  -- ---- what the call leaves

  basis_spans : IsKernelBasis p m n a k (basis_of p ok m n a)
  basis_spans = record { long = basis_long; sent = vector_sent; spans = vectors_span; once = vectors_once; rest = basis_rest }

  basis_by_column : ColumnVectors p ok m n a k (basis_of p ok m n a)
  basis_by_column =
      record {
        many = refl;
        each = basis_at;
        own = λ c j l h e f. basis_vector c j l h e ∙ kernel_vector_outside p ok m n a c j f;
      }

  basis_done : KernelDone p ok m n a (outcome (results (n - table_rank p ok m n a)) (basis_of p ok m n a))
  basis_done =
      let many : k ≡ n - table_rank p ok m n a = omega (arith, outside_many) in
      record {
        told = refl;
        basis = subst (λ q. IsKernelBasis p m n a q (basis_of p ok m n a)) many basis_spans;
        vectors = subst (λ q. ColumnVectors p ok m n a q (basis_of p ok m n a)) many basis_by_column;
      }

-- a kernel call that is not refused tells n - r and leaves a basis of the kernel, vector after vector by rising column outside I, and 0
-- behind it; p is then a modulus, and I and r are the same however that is shown
pub kernel_call_lem : (p m n : ℕ) (a basis : List ℕ) → (IsRefusal (kernel_call p m n a basis).told.number → ⊥)
    → IsModulus p × ((ok : IsModulus p) → KernelDone p ok m n a (kernel_call p m n a basis))
unfolding kernel_call
kernel_call_lem p m n a basis =
    in_order_elim _ _
    (λ o. (IsRefusal o.told.number → ⊥) → IsModulus p × ((ok : IsModulus p) → KernelDone p ok m n a o))
    (λ hs _. (hs.0, λ ok. subst (λ q. KernelDone p q m n a _) (modulus_prop p hs.0 ok) (basis_done p hs.0 m n a)))
    (λ kind _ accepted. absurd (accepted (refusal_number_lem kind)))
