-- How the numbers in memory decide a system. Dw and what it leaves over of w are written; where nothing is left over, Dw is a solution,
-- and the first row where something is left over is 01's row y. Where the rank is the number of rows nothing is left over.
use mathlib.Core.Path.{◌≡◌, sym, ap, ap₂, ◌∙◌}
use mathlib.Core.Bool.{true}
use mathlib.Core.List.{List}
use Prim.Native.Nat.{ℕ, ◌<◌}
use native.Mathlib.Omega.{arith}
use lib.ListN.{length, get_or}
use Rattle.algebra.specs.Matrix.{Vector, apply}
use Rattle.algebra.specs.Quasiinverse.{IsPivotInverse}
use Rattle.algebra.specs.Solve.{mix_of, remainder}
use Rattle.algebra.proofs.Fit.{remainder_zero, zero_remainder, rows_fit}
use Rattle.algebra.proofs.Independent.{all_marked}
use Rattle.checks.specs.declared.Refusal.TheVariants.{Insoluble}
use Rattle.checks.specs.Told.{results, refused}
use Rattle.checks.specs.Outcome.{outcome}
use Rattle.checks.specs.Prime.{IsModulus}
use Rattle.words.specs.Words.{Blank, LeastNonzero}
use Rattle.words.proofs.Zeros.{zeros_written}
use Rattle.field.specs.Residue.{residues}
use Rattle.field.specs.Written.{numbers}
use Rattle.field.proofs.Written.{length_tabulate, is_tabulate}
use Rattle.field.proofs.Residues.{reduce_small}
use Rattle.matrix_echelon.specs.Reduced.{SolutionFound}
use Rattle.matrix.specs.Decide.{field}
use Rattle.matrix.specs.Calls.{table_of, inverse_of, vector_of, candidate, left_over, first_row, solution}
use Rattle.matrix.specs.Parts.{plain, StoresFit}
use Rattle.matrix.proofs.Theorems.{first_row_differs, first_row_first}
use Rattle.matrix.proofs.SolveCall.{solution_found, solution_none}
use Rattle.matrix.proofs.Memory.{vector_line, remainder_read, zero_written, written_zero}
use Rattle.matrix.proofs.Grids.{plain_pivots, plain_inverse, plain_rank}

-- ---- what is left over decides

module _ (p : ℕ) (ok : IsModulus p) (m n : ℕ) (a w : List ℕ) where
  -- A(Dw)
  abbrev image : Vector (residues p)
  image = apply (residues p) n (table_of p m n a) (candidate p ok m n a w)

  module _ {r : ℕ} {x rest : List ℕ} (f : StoresFit p ok m n a w r x rest) where
    pub rest_long : length rest ≡ m
    rest_long = ap length f.rest_written ∙ length_tabulate m (λ i. (left_over p ok m n a w i).value)

    -- a number of the remainder is 0 exactly where A(Dw) and w are the same
    pub agrees : (i : ℕ) → i < m → get_or rest i 0 ≡ 0 → image i ≡ vector_of p w i
    agrees i l e =
        zero_remainder (residues p) (field p ok).ring n (table_of p m n a) (candidate p ok m n a w) (vector_of p w) i
        (written_zero p m (left_over p ok m n a w) i l (ap (λ xs. get_or xs i 0) (sym f.rest_written) ∙ e))

    pub is_zero : (i : ℕ) → i < m → image i ≡ vector_of p w i → get_or rest i 0 ≡ 0
    is_zero i l e =
        ap (λ xs. get_or xs i 0) f.rest_written
        ∙ zero_written p m (left_over p ok m n a w) i (omega (arith, ok.prime.two_or_more)) l
        (remainder_zero (residues p) (field p ok).ring n (table_of p m n a) (candidate p ok m n a w) (vector_of p w) i e)

    -- no number is left over: the system is solved
    pub solved_by_lem : (z z' : List ℕ) → Blank rest → z' ≡ x → outcome (results r) (z', rest) ≡ solution p ok m n a w z
    solved_by_lem z z' blank same =
        (λ i. outcome (results (f.is_rank i)) ((same ∙ f.z_written) i, zeros_written m rest rest_long blank i))
        ∙ sym (solution_found p ok m n a w z (λ i l. agrees i l (blank i)))

    -- y is a row where a number is left over: it is the first, and the system is refused
    module _ (y : ℕ) (first : LeastNonzero rest y) where
      inside : y < m
      inside = omega (arith, first.within, rest_long)

      differs : image y ≡ vector_of p w y → ⊥
      differs e = first.not_zero (is_zero y inside e)

      first_row_lem : first_row p ok m n a w ≡ y
      first_row_lem =
          let (row, other) = first_row_differs p ok m n a w (λ s. differs (s y inside)) in
          let q = first_row p ok m n a w in
          let late : q < y → ⊥ = λ l. other (agrees q row (first.before q l)) in
          let early : y < q → ⊥ = λ l. differs (first_row_first p ok m n a w y l) in
          omega arith

      pub refused_by_lem : (z u' : List ℕ) → u' ≡ numbers m (mix_of (residues p) n (table_of p m n a) (inverse_of p ok m n a) y)
          → outcome (refused Insoluble) (z, u') ≡ solution p ok m n a w z
      refused_by_lem z u' e =
          ap (λ u. outcome (refused Insoluble) (z, u))
          (e ∙ ap (λ k. numbers m (mix_of (residues p) n (table_of p m n a) (inverse_of p ok m n a) k)) (sym first_row_lem))
          ∙ sym (solution_none p ok m n a w z (λ s. differs (s y inside)))

-- ---- what the forward elimination gives

module _ (p : ℕ) (m n : ℕ) (a w x : List ℕ) {r : ℕ} (s : SolutionFound p (plain m n) a w 1 r x) where
  -- its solution is Dw
  candidate_found : (ok : IsModulus p) → x ≡ numbers n (candidate p ok m n a w)
  candidate_found ok =
      s.is_solution
      ∙ ap₂ (λ X v. numbers n (apply (residues p) m X v)) (plain_inverse p m n a s.rank ok) (vector_line p w)

  -- so what that leaves over makes it a fit
  pub fit_made : (rest : List ℕ) → rest ≡ numbers m (remainder (residues p) n (table_of p m n a) (vector_of p x) (vector_of p w))
      → (ok : IsModulus p) → StoresFit p ok m n a w r x rest
  fit_made rest e ok =
      record {
        is_rank = plain_rank p m n a s.rank ok;
        z_written = candidate_found ok;
        rest_written =
            e
            ∙ ap (λ l. numbers m (remainder (residues p) n (table_of p m n a) (vector_of p l) (vector_of p w))) (candidate_found ok)
            ∙ ap (numbers m) (remainder_read p n (table_of p m n a) (candidate p ok m n a w) (vector_of p w));
      }

  -- where the rank is the number of rows all rows are in J, and zeros are what is left over
  pub fit_full : (rest : List ℕ) → length rest ≡ m → Blank rest → r ≡ m → (ok : IsModulus p) → StoresFit p ok m n a w r x rest
  fit_full rest long blank full ok =
      record {
        is_rank = plain_rank p m n a s.rank ok;
        z_written = candidate_found ok;
        rest_written = is_tabulate m (λ i. (left_over p ok m n a w i).value) rest long (λ i h. blank i ∙ sym (left_zero i h));
      }
    where
      Q : IsPivotInverse (residues p) m n (table_of p m n a) s.rank.D s.rank.I s.rank.J
      Q = plain_pivots p m n a s.rank

      members : (y : ℕ) → y < m → s.rank.J y ≡ true
      members = all_marked m s.rank.J (sym Q.equally_many ∙ sym s.rank.rank ∙ full)

      same : (i : ℕ) → i < m → image p ok m n a w i ≡ vector_of p w i
      same i h =
          ap (λ X. apply (residues p) n (table_of p m n a) (apply (residues p) m X (vector_of p w)) i) (sym (plain_inverse p m n a s.rank ok))
          ∙ rows_fit (residues p) (field p ok).ring Q (vector_of p w) i (members i h)

      left_zero : (i : ℕ) → i < m → (left_over p ok m n a w i).value ≡ 0
      left_zero i h =
          ap (λ v. v.value)
          (remainder_zero (residues p) (field p ok).ring n (table_of p m n a) (candidate p ok m n a w) (vector_of p w) i (same i h))
          ∙ reduce_small p 0 (omega (arith, ok.prime.two_or_more))
