-- What quasiinverse, kernel, solve, fit and check answer and leave in lent memory, for every input: 01, "Quasiinverse, kernel,
-- solution" and "What is handed back on refusal"; 02, #102 and #113.
use Rattle.std.specs.Prelude.{true, false, List, [], ◌++◌, ℕ, zero, suc, ◌*◌, ◌-◌, get_or, replicate}
use Rattle.algebra.specs.Choice.{choose, pick, first_from}
use Rattle.algebra.specs.Matrix.{Vector, Matrix, apply}
use Rattle.algebra.specs.Quasiinverse.{Marks, Absorbs}
use Rattle.algebra.specs.Chosen.{chosen_columns, chosen_rows, rank}
use Rattle.algebra.specs.Kernel.{kernel_vector}
use Rattle.algebra.specs.Solve.{mix_of, remainder}
use Rattle.checks.specs.declared.Refusal.{Refusal}
use Rattle.checks.specs.declared.Refusal.TheVariants.{Length, Number, Insoluble, NotInner, NotOuter}
use Rattle.checks.specs.Told.{results, refused}
use Rattle.checks.specs.Outcome.{Outcome, outcome, untouched}
use Rattle.checks.specs.InOrder.{Checks, passed, ◌else◌, ◌⨾◌, then_checks, in_order}
use Rattle.checks.specs.Prime.{IsModulus}
use Rattle.checks.specs.Sizes.{table_sizes}
use Rattle.checks.specs.Decide.{long?}
use Rattle.field.specs.Residue.{residues, reduce}
use Rattle.field.specs.View.{table}
use Rattle.field.specs.Written.{numbers, rows_of, marks_of}
use Rattle.matrix.specs.Decide.{combinations, given_inverse, equal?, solves?, absorbs?}
use Rattle.words.specs.Decide.{below?}

-- the table of m rows and n columns in the numbers a, stored row by row
abbrev pub table_of : (p m n : ℕ) → List ℕ → Matrix (residues p)
table_of p m n a = table p a 0 n m n

module _ (p : ℕ) (ok : IsModulus p) (m n : ℕ) (a : List ℕ) where
  -- I, J, r and D of the table
  abbrev pub columns_of : Marks
  columns_of = chosen_columns (residues p) (combinations p ok) m n (table_of p m n a)

  abbrev pub row_marks_of : Marks
  row_marks_of = chosen_rows (residues p) (combinations p ok) m n (table_of p m n a)

  abbrev pub table_rank : ℕ
  table_rank = rank (residues p) (combinations p ok) m n (table_of p m n a)

  abbrev pub inverse_of : Matrix (residues p)
  inverse_of = (given_inverse p ok m n a).D

-- ---- quasiinverse

-- 1, 2; 3 for A, D, the column marks and the row marks; 4 for A
abbrev pub quasiinverse_checks : (p m n : ℕ) (a d columns rows : List ℕ) → Checks Refusal
quasiinverse_checks p m n a d columns rows =
    then_checks (table_sizes p m n)
    (λ _.
    long? a (m * n) else Length
    ⨾ long? d (n * m) else Length
    ⨾ long? columns n else Length
    ⨾ long? rows m else Length
    ⨾ below? p a else Number
    ⨾ passed)

-- the rank, with D, the column marks and the row marks
unfoldable pub quasiinverse_call : (p m n : ℕ) (a d columns rows : List ℕ) → Outcome (List ℕ × (List ℕ × List ℕ))
quasiinverse_call p m n a d columns rows =
    in_order (quasiinverse_checks p m n a d columns rows)
    (λ hs.
    outcome (results (table_rank p hs.0 m n a)) (
      rows_of n m (inverse_of p hs.0 m n a),
      (marks_of n (columns_of p hs.0 m n a), marks_of m (row_marks_of p hs.0 m n a)),
    ))
    (untouched (d, (columns, rows)))

-- ---- kernel

-- for each column c outside I from c on, k of them, rising: column c of 1 - DA
unfoldable pub vectors_from : {p : ℕ} (m n : ℕ) → Marks → Matrix (residues p) → Matrix (residues p) → (c k : ℕ) → List ℕ
vectors_from m n I D A c zero = []
vectors_from {p} m n I D A c (suc k) =
    choose (I c) [] (numbers n (kernel_vector (residues p) m D A c)) ++ vectors_from m n I D A (suc c) k

-- the vectors fill the front, vector after vector, the rest becomes 0
unfoldable pub basis_of : (p : ℕ) → IsModulus p → (m n : ℕ) → List ℕ → List ℕ
basis_of p ok m n a =
    vectors_from m n (columns_of p ok m n a) (inverse_of p ok m n a) (table_of p m n a) 0 n ++ replicate (n * table_rank p ok m n a) 0

-- 1, 2; 3 for A and the basis; 4 for A
abbrev pub kernel_checks : (p m n : ℕ) (a basis : List ℕ) → Checks Refusal
kernel_checks p m n a basis =
    then_checks (table_sizes p m n)
    (λ _.
    long? a (m * n) else Length
    ⨾ long? basis (n * n) else Length
    ⨾ below? p a else Number
    ⨾ passed)

-- n - r, with the basis
unfoldable pub kernel_call : (p m n : ℕ) (a basis : List ℕ) → Outcome (List ℕ)
kernel_call p m n a basis =
    in_order (kernel_checks p m n a basis)
    (λ hs. outcome (results (n - table_rank p hs.0 m n a)) (basis_of p hs.0 m n a))
    (untouched basis)

-- ---- solve and fit

-- 3 for A, w, z and a last slice of m numbers: solve's u, fit's remainder
abbrev pub system_lengths : (m n : ℕ) (a w z u : List ℕ) → Checks Refusal
system_lengths m n a w z u =
    long? a (m * n) else Length ⨾ long? w m else Length ⨾ long? z n else Length ⨾ long? u m else Length ⨾ passed

-- 1, 2; 3; 4 for A and then w
abbrev pub system_checks : (p m n : ℕ) (a w z u : List ℕ) → Checks Refusal
system_checks p m n a w z u =
    then_checks (table_sizes p m n)
    (λ _. then_checks (system_lengths m n a w z u) (λ _. below? p a else Number ⨾ below? p w else Number ⨾ passed))

-- the numbers of a list as a vector
unfoldable pub vector_of : (p : ℕ) → List ℕ → Vector (residues p)
vector_of p w i = reduce p (get_or w i 0)

module _ (p : ℕ) (ok : IsModulus p) (m n : ℕ) (a w : List ℕ) where
  -- Dw
  abbrev pub candidate : Vector (residues p)
  candidate = apply (residues p) m (inverse_of p ok m n a) (vector_of p w)

  -- the first row y where A(Dw) and w differ
  unfoldable pub first_row : ℕ
  first_row =
      first_from (λ i. pick (equal? (apply (residues p) n (table_of p m n a) candidate i) (vector_of p w i)) false true) 0 m

  -- if A(Dw) = w, z becomes Dw and u 0; else u becomes the unit row of y minus (row y of A) times D, and z stays
  unfoldable pub solution : List ℕ → Outcome (List ℕ × List ℕ)
  solution z =
      pick (solves? m n (table_of p m n a) candidate (vector_of p w))
      (outcome (results (table_rank p ok m n a)) (numbers n candidate, replicate m 0))
      (outcome (refused Insoluble) (z, numbers m (mix_of (residues p) n (table_of p m n a) (inverse_of p ok m n a) first_row)))

  -- w - A(Dw)
  abbrev pub left_over : Vector (residues p)
  left_over = remainder (residues p) n (table_of p m n a) candidate (vector_of p w)

  -- 02, #102: "z = Dw and the remainder w - Az, for each accepted table. .. The result is r"
  unfoldable pub nearest_fit : Outcome (List ℕ × List ℕ)
  nearest_fit = outcome (results (table_rank p ok m n a)) (numbers n candidate, numbers m left_over)

-- solve: the rank, with z and u; or 5, with z as it was and u
unfoldable pub solve_call : (p m n : ℕ) (a w z u : List ℕ) → Outcome (List ℕ × List ℕ)
solve_call p m n a w z u =
    in_order (system_checks p m n a w z u) (λ hs. solution p hs.0 m n a w z) (untouched (z, u))

-- fit: the rank, with z and the remainder. 02, #102: "the checks are solve's without 5"
unfoldable pub fit_call : (p m n : ℕ) (a w z rest : List ℕ) → Outcome (List ℕ × List ℕ)
fit_call p m n a w z rest =
    in_order (system_checks p m n a w z rest) (λ hs. nearest_fit p hs.0 m n a w) (untouched (z, rest))

-- ---- check

-- 02, #113: "Order: 1, 2, 3, 4 (A, then D), then the new two as numbered": 1, 2; 3 for A and then D; 4 for A and then D
abbrev pub pair_checks : (p m n : ℕ) (a d : List ℕ) → Checks Refusal
pair_checks p m n a d =
    then_checks (table_sizes p m n)
    (λ _.
    long? a (m * n) else Length
    ⨾ long? d (n * m) else Length
    ⨾ below? p a else Number
    ⨾ below? p d else Number
    ⨾ passed)

module _ (p m n : ℕ) (a d : List ℕ) where
  -- ADA = A, for the table D of n rows and m columns in d: D is an inner inverse of A
  abbrev pub IsInner : Type 0
  IsInner = Absorbs (residues p) m n (table_of p m n a) (table_of p n m d)

  -- DAD = D: D is an outer inverse of A
  abbrev pub IsOuter : Type 0
  IsOuter = Absorbs (residues p) n m (table_of p n m d) (table_of p m n a)

-- "17, ADA differs from A; 18, DAD differs from D": the same decision, the second time with A and D exchanged
abbrev pub inverse_checks : (p : ℕ) → IsModulus p → (m n : ℕ) (a d : List ℕ) → Checks Refusal
inverse_checks p ok m n a d = absorbs? p ok m n a d else NotInner ⨾ absorbs? p ok n m d a else NotOuter ⨾ passed

abbrev pub check_checks : (p m n : ℕ) (a d : List ℕ) → Checks Refusal
check_checks p m n a d = then_checks (pair_checks p m n a d) (λ hs. inverse_checks p hs.0 m n a d)

-- "Accept D exactly if ADA = A and DAD = D, and give the rank": that of A. Nothing is lent to be written.
unfoldable pub check_call : (p m n : ℕ) (a d : List ℕ) → Outcome (Unit {0})
check_call p m n a d =
    in_order (check_checks p m n a d) (λ hs. outcome (results (table_rank p hs.0 m n a)) tt) (untouched tt)
