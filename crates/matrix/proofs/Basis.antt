-- The marks of I, as they are written, sum to the rank. And the basis that the kernel vectors fill is 01's where the marked columns
-- are those of a pivot inverse of the table: its D is D, and its columns are I.
use mathlib.Core.Path.{◌≡◌, ap, ap₂, ◌∙◌}
use mathlib.Core.Bool.{Bool, true, false}
use mathlib.Core.List.{List, ◌++◌}
use Prim.Native.Nat.{ℕ, ◌*◌, ◌≤◌, ◌<◌}
use native.Mathlib.Omega.{arith}
use lib.ListN.{length, get_or, replicate}
use Rattle.checks.specs.Largest.{largest}
use Rattle.algebra.specs.Choice.{choose}
use Rattle.algebra.specs.Matrix.{Matrix}
use Rattle.algebra.specs.Quasiinverse.{Marks, count, IsPivotInverse}
use Rattle.checks.specs.Prime.{IsModulus}
use Rattle.field.specs.Residue.{residues}
use Rattle.field.specs.Written.{marks_of, marked}
use Rattle.field.proofs.Totals.{total}
use Rattle.field.proofs.Written.{length_tabulate, get_d_tabulate}
use Rattle.matrix.specs.Calls.{table_of, columns_of, table_rank, vectors_from}
use Rattle.matrix.specs.Parts.{StoresInverse, StoresBasis, KernelVectors}
use Rattle.matrix.proofs.Stored.{columns_are, rank_is, inverse_so, columns_many}
use Rattle.matrix.proofs.Memory.{total_of_marks}
use Rattle.matrix.proofs.KernelCall.{basis_parts}

-- written marks are 0 or 1, and sum to the number of members
module _ (n : ℕ) (I : Marks) (xs : List ℕ) (e : xs ≡ marks_of n I) where
  marks_long : length xs ≡ n
  marks_long = ap length e ∙ length_tabulate n (λ k. choose (I k) 1 0)

  marks_at : (c : ℕ) → c < n → get_or xs c 0 ≡ choose (I c) 1 0
  marks_at c l = ap (λ l. get_or l c 0) e ∙ get_d_tabulate n (λ k. choose (I k) 1 0) c l

  marks_few : n ≤ largest → (length xs ≤ largest) × ((c : ℕ) → c < length xs → get_or xs c 0 ≤ 1)
  marks_few h = (omega (arith, marks_long), (λ c l. rw (marks_at c (rw marks_long at l)) (small (I c))))
    where
      small : (b : Bool) → choose b 1 0 ≤ 1
      small true = omega arith
      small false = omega arith

  marks_sum : total (length xs) (λ c. get_or xs c 0) ≡ count n I
  marks_sum = ap (λ k. total k (λ c. get_or xs c 0)) marks_long ∙ total_of_marks n (λ c. get_or xs c 0) I marks_at

-- of the marks of I that were written
module _ {p : ℕ} {ok : IsModulus p} {m n : ℕ} {a d columns rows : List ℕ} (i : StoresInverse p ok m n a d columns rows) where
  pub columns_few : n ≤ largest → (length columns ≤ largest) × ((c : ℕ) → c < length columns → get_or columns c 0 ≤ 1)
  columns_few h = marks_few n (columns_of p ok m n a) columns i.columns_written h

  pub columns_sum : total (length columns) (λ c. get_or columns c 0) ≡ table_rank p ok m n a
  columns_sum = marks_sum n (columns_of p ok m n a) columns i.columns_written ∙ columns_many p ok m n a

-- the vectors of the columns that are not marked, by a pivot inverse whose columns are the marked ones, fill the basis
module _ (p : ℕ) (ok : IsModulus p) (m n : ℕ) (a : List ℕ) {D : Matrix (residues p)} {J : Marks} {at : List ℕ}
    (Q : IsPivotInverse (residues p) m n (table_of p m n a) D (marked at) J) where
  pub basis_stored : {basis : List ℕ} {k : ℕ} → KernelVectors m n D (table_of p m n a) at basis k → StoresBasis p ok m n a basis k
  basis_stored v =
      record {
        filled =
            v.filled
            ∙ ap₂ (λ l q. l ++ replicate (n * q) 0)
            (ap₂ (λ I X. vectors_from m n I X (table_of p m n a) 0 n) (columns_are p ok m n a Q) (inverse_so p ok m n a Q))
            (rank_is p ok m n a Q)
            ∙ basis_parts p ok m n a;
        many = omega (arith, v.many, rank_is p ok m n a Q);
      }
