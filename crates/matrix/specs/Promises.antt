-- What 01 promises of quasiinverse, kernel and solve, and 02 of fit and check, said of the outcome o of a call: of what it tells and of
-- the numbers that it leaves in lent memory. That the calls keep these promises is shown in proofs/InverseCall.antt, KernelCall.antt,
-- SolveCall.antt, FitCall.antt and CheckCall.antt.
use Rattle.std.specs.Prelude.{◌≡◌, false, not, ◌⊎◌, ◌↔◌, List, ℕ, ◌+◌, ◌*◌, ◌-◌, ◌<◌, length, get_or, drop, replicate}
use Rattle.algebra.specs.Matrix.{Vector, Matrix, sum, unit, apply, mixed}
use Rattle.algebra.specs.Span.{Combines, IsCombination, RowDepends, ColumnDepends, InKernel, Solves}
use Rattle.algebra.specs.Quasiinverse.{count, IsQuasiinverse, IsInverseOn}
use Rattle.algebra.specs.Kernel.{kernel_vector}
use Rattle.algebra.specs.Solve.{mix_of, remainder, IsFit}
use Rattle.checks.specs.declared.Refusal.TheVariants.{Insoluble}
use Rattle.checks.specs.Refusal.{IsRefusal}
use Rattle.checks.specs.Told.{results, refused}
use Rattle.checks.specs.Outcome.{Outcome}
use Rattle.checks.specs.Prime.{IsModulus}
use Rattle.field.specs.Residue.{residues, ◌⊗◌}
use Rattle.field.specs.Written.{numbers, marked}
use Rattle.words.specs.Words.{Below, Blank}
use Rattle.matrix.specs.Calls.{table_of, columns_of, row_marks_of, table_rank, inverse_of, vector_of, candidate, IsInner, IsOuter}

-- ---- quasiinverse

-- marks of the positions below n that depend on none before them: "1 in I, else 0"
pub record FreeMarks (n : ℕ) (Depends : ℕ → Type 0) (marks : List ℕ) : Type 0 where
  pub long : length marks ≡ n
  pub each : (c : ℕ) → c < n → ((get_or marks c 0 ≡ 1) × (Depends c → ⊥)) ⊎ ((get_or marks c 0 ≡ 0) × Depends c)

-- "I is the set of columns that are no combination of the columns before them, J the same for rows. .. I and J have r members each ..
-- D, of n rows and m columns, is the inverse of A restricted to J and I, and 0 outside I and J. So ADA = A and DAD = D. .. The result
-- is r." All of it of the numbers that are left: D, the column marks and the row marks.
pub record QuasiinverseDone (p m n : ℕ) (a : List ℕ) (o : Outcome (List ℕ × (List ℕ × List ℕ))) : Type 0 where
  pub columns : FreeMarks n (ColumnDepends (residues p) m (table_of p m n a)) o.lent.1.0
  pub rows : FreeMarks m (RowDepends (residues p) n (table_of p m n a)) o.lent.1.1
  pub told : o.told ≡ results (count n (marked o.lent.1.0))
  pub equally_many : count n (marked o.lent.1.0) ≡ count m (marked o.lent.1.1)
  pub d_long : length o.lent.0 ≡ n * m
  pub d_below : Below p o.lent.0
  pub inverse : IsInverseOn (residues p) m n (table_of p m n a) (table_of p n m o.lent.0) (marked o.lent.1.0) (marked o.lent.1.1)
  pub quasiinverse : IsQuasiinverse (residues p) m n (table_of p m n a) (table_of p n m o.lent.0)
  -- there is no other such D; and D, I, J and r are those that the promises of kernel, solve and fit name
  pub only : (X : Matrix (residues p))
      → IsInverseOn (residues p) m n (table_of p m n a) X (marked o.lent.1.0) (marked o.lent.1.1) → X ≡ table_of p n m o.lent.0
  pub is_D : (ok : IsModulus p) → table_of p n m o.lent.0 ≡ inverse_of p ok m n a
  pub is_I : (ok : IsModulus p) → marked o.lent.1.0 ≡ columns_of p ok m n a
  pub is_J : (ok : IsModulus p) → marked o.lent.1.1 ≡ row_marks_of p ok m n a
  pub is_r : (ok : IsModulus p) → count n (marked o.lent.1.0) ≡ table_rank p ok m n a

-- ---- kernel

-- the k vectors of n numbers at the front of the list, vector after vector, are a basis of the kernel of A: A sends each to zero, and
-- each vector that A sends to zero is one combination of them, and one only. "Lent: n × n numbers; .. the rest becomes 0."
pub record IsKernelBasis (p m n : ℕ) (a : List ℕ) (k : ℕ) (basis : List ℕ) : Type 0 where
  pub long : length basis ≡ n * n
  pub sent : (t : ℕ) → t < k → InKernel (residues p) m n (table_of p m n a) (table_of p k n basis t)
  pub spans : (x : Vector (residues p)) → InKernel (residues p) m n (table_of p m n a) x
      → IsCombination (residues p) k n (table_of p k n basis) x
  pub once : (x u v : Vector (residues p))
      → Combines (residues p) k n (table_of p k n basis) u x → Combines (residues p) k n (table_of p k n basis) v x
      → (t : ℕ) → t < k → u t ≡ v t
  pub rest : Blank (drop (k * n) basis)

module _ (p : ℕ) (ok : IsModulus p) (m n : ℕ) (a : List ℕ) where
  -- the number of columns outside I before c: the place of its vector among the vectors
  abbrev pub outside_before : ℕ → ℕ
  outside_before c = count c (λ j. not (columns_of p ok m n a j))

  -- "For each column c outside I, rising, one vector: column c of 1 - DA. It has 1 at c and 0 at the other columns outside I."
  pub record ColumnVectors (k : ℕ) (basis : List ℕ) : Type 0 where
    pub many : outside_before n ≡ k
    pub each : (c j : ℕ) → c < n → j < n → columns_of p ok m n a c ≡ false
        → get_or basis (outside_before c * n + j) 0 ≡ (kernel_vector (residues p) m (inverse_of p ok m n a) (table_of p m n a) c j).value
    pub own : (c j : ℕ) → c < n → j < n → columns_of p ok m n a c ≡ false → columns_of p ok m n a j ≡ false
        → table_of p k n basis (outside_before c) j ≡ unit (residues p) j c

  -- "The result is n - r", and the basis has so many vectors
  pub record KernelDone (o : Outcome (List ℕ)) : Type 0 where
    pub told : o.told ≡ results (n - table_rank p ok m n a)
    pub basis : IsKernelBasis p m n a (n - table_rank p ok m n a) o.lent
    pub vectors : ColumnVectors (n - table_rank p ok m n a) o.lent

-- ---- solve

-- no x has A x = w
abbrev pub NoSolution : (p m n : ℕ) (a w : List ℕ) → Type 0
NoSolution p m n a w = ((x : Vector (residues p)) × Solves (residues p) m n (table_of p m n a) x (vector_of p w)) → ⊥

module _ (p : ℕ) (ok : IsModulus p) (m n : ℕ) (a w : List ℕ) where
  -- "z (n numbers) becomes Dw, the mix u (m numbers) becomes all 0, and the result is r", and A z = w
  pub record SystemSolved (o : Outcome (List ℕ × List ℕ)) : Type 0 where
    pub told : o.told ≡ results (table_rank p ok m n a)
    pub solves : Solves (residues p) m n (table_of p m n a) (vector_of p o.lent.0) (vector_of p w)
    pub z_long : length o.lent.0 ≡ n
    pub z_is : o.lent.0 ≡ numbers n (candidate p ok m n a w)
    pub u_zeros : o.lent.1 ≡ replicate m 0

  -- A(Dw) and w are the same in row i
  abbrev pub AgreeInRow : ℕ → Type 0
  AgreeInRow i = apply (residues p) n (table_of p m n a) (candidate p ok m n a w) i ≡ vector_of p w i

  -- "the answer is 5 and u becomes the unit row of y minus (row y of A) times D, for the first row y where A(Dw) and w differ. Then
  -- uA = 0, and u times w is not 0." "5 | no solution | u written, z untouched"
  pub record SystemRefused (z : List ℕ) (o : Outcome (List ℕ × List ℕ)) : Type 0 where
    pub told : o.told ≡ refused Insoluble
    pub insoluble : NoSolution p m n a w
    pub z_untouched : o.lent.0 ≡ z
    pub y : ℕ
    pub y_row : y < m
    pub y_differs : AgreeInRow y → ⊥
    pub y_first : (i : ℕ) → i < y → AgreeInRow i
    pub u_is : o.lent.1 ≡ numbers m (mix_of (residues p) n (table_of p m n a) (inverse_of p ok m n a) y)
    pub u_long : length o.lent.1 ≡ m
    pub u_kills : (j : ℕ) → j < n → mixed (residues p) m (vector_of p o.lent.1) (table_of p m n a) j ≡ (residues p).zero
    pub u_shows : sum (residues p) m (λ t. vector_of p o.lent.1 t ⊗ vector_of p w t) ≡ (residues p).zero → ⊥

-- ---- fit

module _ (p : ℕ) (ok : IsModulus p) (m n : ℕ) (a w : List ℕ) where
  -- 02, #102: "z zero outside I, remainder zero on J and w = Az + remainder", of lists of n and of m numbers below p
  pub record NearestFit (z rest : List ℕ) : Type 0 where
    pub z_long : length z ≡ n
    pub z_below : Below p z
    pub rest_long : length rest ≡ m
    pub rest_below : Below p rest
    pub fits : IsFit (residues p) m n (table_of p m n a) (columns_of p ok m n a) (row_marks_of p ok m n a) (vector_of p w) (vector_of p z) (vector_of p rest)

  -- "z = Dw and the remainder w - Az .. The remainder is 0 on all rows of J, and the pair is the only one with z zero outside I,
  -- remainder zero on J and w = Az + remainder. .. The result is r"
  pub record FitDone (o : Outcome (List ℕ × List ℕ)) : Type 0 where
    pub told : o.told ≡ results (table_rank p ok m n a)
    pub z_is : o.lent.0 ≡ numbers n (candidate p ok m n a w)
    pub rest_is : o.lent.1 ≡ numbers m (remainder (residues p) n (table_of p m n a) (vector_of p o.lent.0) (vector_of p w))
    pub nearest : NearestFit o.lent.0 o.lent.1
    pub only : (z rest : List ℕ) → NearestFit z rest → (z ≡ o.lent.0) × (rest ≡ o.lent.1)
    -- how a wrong number of w shows: the remainder at y is w times the mix of row y, the unit row of y minus (row y of A) times D
    pub by_mixes : (y : ℕ) → y < m
        → vector_of p o.lent.1 y ≡ sum (residues p) m (λ t. mix_of (residues p) n (table_of p m n a) (inverse_of p ok m n a) y t ⊗ vector_of p w t)

-- "The remainder is all 0 exactly if solve accepts": of what fit leaves, f, and what solve answers for the same table and right
-- side, s. Then z is solve's z, and the result the same; otherwise solve's answer is 5.
pub record FitBesideSolve (f s : Outcome (List ℕ × List ℕ)) : Type 0 where
  pub exactly : Blank f.lent.1 ↔ (IsRefusal s.told.number → ⊥)
  pub same_z : (IsRefusal s.told.number → ⊥) → f.lent.0 ≡ s.lent.0
  pub same_result : (IsRefusal s.told.number → ⊥) → f.told ≡ s.told
  pub else_insoluble : IsRefusal s.told.number → s.told ≡ refused Insoluble

-- ---- check

module _ (p m n : ℕ) (a d : List ℕ) where
  -- of what is told past 1 to 4. 02, #113: "Accept D exactly if ADA = A and DAD = D .. 17, ADA differs from A; 18, DAD differs from D",
  -- "the new two as numbered": 18 only where ADA = A
  pub record CheckJudges (o : Outcome (Unit {0})) : Type 0 where
    pub accepts : (IsRefusal o.told.number → ⊥) ↔ IsQuasiinverse (residues p) m n (table_of p m n a) (table_of p n m d)
    pub seventeen : (o.told.number ≡ 17) ↔ (IsInner p m n a d → ⊥)
    pub eighteen : (o.told.number ≡ 18) ↔ (IsInner p m n a d × (IsOuter p m n a d → ⊥))

  -- of a call that is not refused: D is a quasiinverse of A, document 001's, "and give the rank", which is D's rank too. "After
  -- acceptance the nearest-fit remainder from that D", w - A(Dw), "is all 0 exactly if the system has a solution", whatever w is.
  pub record CheckDone (ok : IsModulus p) (o : Outcome (Unit {0})) : Type 0 where
    pub told : o.told ≡ results (table_rank p ok m n a)
    pub quasiinverse : IsQuasiinverse (residues p) m n (table_of p m n a) (table_of p n m d)
    pub same_rank : table_rank p ok n m d ≡ table_rank p ok m n a
    pub remainder_exactly : (w : Vector (residues p))
        → ((i : ℕ) → i < m → remainder (residues p) n (table_of p m n a) (apply (residues p) m (table_of p n m d) w) w i ≡ (residues p).zero)
        ↔ ((x : Vector (residues p)) × Solves (residues p) m n (table_of p m n a) x w)
