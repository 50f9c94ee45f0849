-- What 02, #102, promises of fit is kept by `fit_call` itself: the fit that it leaves and that there is no other, what it says beside
-- solve, and what it leaves of a table with no rows or no columns. The lists in memory read as the vectors of algebra/proofs/Fit.antt.
use mathlib.Core.Path.{◌≡◌, refl, sym, ap, ap₂, ◌∙◌, subst}
use mathlib.Core.List.{List, []}
use Prim.Native.Nat.{ℕ, ◌<◌}
use native.Mathlib.Omega.{arith}
use lib.ListN.{length, replicate, length-replicate, get_or-replicate}
use Rattle.algebra.specs.Ring.{IsCommutativeRing}
use Rattle.algebra.specs.Matrix.{Vector, Matrix, sum, apply}
use Rattle.algebra.specs.Span.{Solves}
use Rattle.algebra.specs.Quasiinverse.{count, IsPivotInverse}
use Rattle.algebra.specs.Chosen.{rank}
use Rattle.algebra.specs.Solve.{remainder}
use Rattle.algebra.proofs.Applied.{less_zero}
use Rattle.algebra.proofs.Solve.{mix_shows}
use Rattle.algebra.proofs.Fit as fit
use Rattle.checks.specs.declared.Refusal.TheVariants.{Insoluble}
use Rattle.checks.specs.Refusal.{refusal_number, IsRefusal}
use Rattle.checks.specs.Prime.{IsModulus}
use Rattle.checks.specs.Told.{results}
use Rattle.checks.specs.Outcome.{Outcome, outcome}
use Rattle.checks.specs.InOrder.{AllHold}
use Rattle.checks.proofs.InOrder.{given, in_order_elim, kind_of_list}
use Rattle.checks.proofs.Modulus.{modulus_prop}
use Rattle.checks.proofs.Refusals.{refusal_number_lem}
use Rattle.words.specs.Words.{Blank}
use Rattle.words.proofs.Zeros.{blank_inside}
use Rattle.field.specs.Residue.{residues, reduce, ◌⊕◌}
use Rattle.field.specs.Written.{tabulate, numbers}
use Rattle.field.proofs.Residues.{reduce_small, value_unique}
use Rattle.field.proofs.Written.{length_tabulate, is_tabulate}
use Rattle.matrix.specs.Decide.{field}
use Rattle.matrix.specs.Calls.{table_of, columns_of, row_marks_of, table_rank, inverse_of, vector_of, candidate, left_over, system_checks, solution, solve_call, nearest_fit, fit_call}
use Rattle.matrix.specs.Parts.{StoresFit}
use Rattle.matrix.specs.Promises.{NearestFit, FitDone, FitBesideSolve}
use Rattle.field.proofs.Lines.{numbers_below}
use Rattle.matrix.proofs.Memory.{vector_read, apply_read, remainder_read}
use Rattle.matrix.proofs.Stored.{table_pivots, columns_many}
use Rattle.matrix.proofs.Answers.{system_hold, table_given, system_given, solve_done, fit_done}
use Rattle.matrix.proofs.SolveCall.{solution_elim, other_kinds}
use Rattle.matrix.proofs.Systems.{rest_long, agrees, is_zero}

-- ---- past the checks

module _ (p : ℕ) (ok : IsModulus p) (m n : ℕ) (a w : List ℕ) where
  abbrev A : Matrix (residues p)
  A = table_of p m n a

  Q : IsPivotInverse (residues p) m n A (inverse_of p ok m n a) (columns_of p ok m n a) (row_marks_of p ok m n a)
  Q = table_pivots p ok m n a

  L : IsCommutativeRing (residues p)
  L = (field p ok).ring

  -- Dw and what it leaves over, and the lists that are left of them
  abbrev column : Vector (residues p)
  column = candidate p ok m n a w

  abbrev left : Vector (residues p)
  left = left_over p ok m n a w

  abbrev zs : List ℕ
  zs = numbers n column

  abbrev rests : List ℕ
  rests = numbers m left

  stored : StoresFit p ok m n a w (table_rank p ok m n a) zs rests
  stored = record { is_rank = refl; z_written = refl; rest_written = refl }

  nearest : NearestFit p ok m n a w zs rests
  nearest =
      let F = fit.fits (residues p) L Q (vector_of p w) in
      let positive : 0 < p = omega (arith, ok.prime.two_or_more) in
      record {
        z_long = length_tabulate n (λ t. (column t).value);
        z_below = numbers_below p n column positive;
        rest_long = length_tabulate m (λ t. (left t).value);
        rest_below = numbers_below p m left positive;
        fits = record {
          outside_zero = λ c l e. vector_read p n column c l ∙ F.outside_zero c l e;
          rows_zero = λ y l e. vector_read p m left y l ∙ F.rows_zero y l e;
          sums = λ i l. F.sums i l ∙ sym (ap₂ ◌⊕◌ (ap (λ v. v i) (apply_read p n A column)) (vector_read p m left i l));
        };
      }

  -- another fit is this one
  fit_only : (z rest : List ℕ) → NearestFit p ok m n a w z rest → (z ≡ zs) × (rest ≡ rests)
  unfolding vector_of
  fit_only z rest N = (
    is_tabulate n _ z N.z_long
        (λ c l. value_unique p _ (column c) (N.z_below c (omega (arith, N.z_long))) (fit.fit_column (residues p) L Q N.fits c l)),
    is_tabulate m _ rest N.rest_long
        (λ i l. value_unique p _ (left i) (N.rest_below i (omega (arith, N.rest_long))) (fit.fit_rest (residues p) L Q N.fits i l)),
  )

  done : FitDone p ok m n a w (nearest_fit p ok m n a w)
  unfolding nearest_fit
  done =
      record {
        told = refl;
        z_is = refl;
        rest_is = ap (numbers m) (sym (remainder_read p n A column (vector_of p w)));
        nearest = nearest;
        only = fit_only;
        by_mixes = λ y l. vector_read p m left y l ∙ sym (mix_shows (residues p) L m n A (inverse_of p ok m n a) (vector_of p w) y l);
      }

  -- all of the remainder is 0 exactly if Dw is a solution
  blank_solves : Blank rests → Solves (residues p) m n A column (vector_of p w)
  blank_solves b i l = agrees p ok m n a w stored i l (b i)

  solves_blank : Solves (residues p) m n A column (vector_of p w) → Blank rests
  solves_blank s =
      blank_inside rests
      (λ i l. let row : i < m = omega (arith, rest_long p ok m n a w stored) in is_zero p ok m n a w stored i row (s i row))

  -- beside what solve answers past its checks
  beside_solution : (z : List ℕ) → FitBesideSolve (nearest_fit p ok m n a w) (solution p ok m n a w z)
  unfolding nearest_fit
  beside_solution z =
      solution_elim p ok m n a w z (FitBesideSolve (nearest_fit p ok m n a w))
      (λ h.
      record {
        exactly = ((λ _ r. omega arith), (λ _. solves_blank h));
        same_z = λ _. refl;
        same_result = λ _. refl;
        else_insoluble = λ r. absurd (omega arith);
      })
      (λ f.
      let refuses = refusal_number_lem Insoluble in
      record {
        exactly = ((λ b. absurd (f (blank_solves b))), (λ accepts. absurd (accepts refuses)));
        same_z = λ accepts. absurd (accepts refuses);
        same_result = λ accepts. absurd (accepts refuses);
        else_insoluble = λ _. refl;
      })

-- ---- the call

module _ (p m n : ℕ) (a w z rest : List ℕ) where
  -- not refused, it leaves the nearest fit
  pub fit_call_done : (IsRefusal (fit_call p m n a w z rest).told.number → ⊥)
      → IsModulus p × ((ok : IsModulus p) → FitDone p ok m n a w (fit_call p m n a w z rest))
  unfolding fit_call
  fit_call_done =
      in_order_elim _ _ P
      (λ hs _. (hs.0, λ ok. subst (λ q. FitDone p q m n a w _) (modulus_prop p hs.0 ok) (done p hs.0 m n a w)))
      (λ kind _ accepted. absurd (accepted (refusal_number_lem kind)))
    where
      P : Outcome (List ℕ × List ℕ) → Type 0
      P o = (IsRefusal o.told.number → ⊥) → IsModulus p × ((ok : IsModulus p) → FitDone p ok m n a w o)

  -- "without 5"
  pub fit_never_insoluble : (fit_call p m n a w z rest).told.number ≡ 5 → ⊥
  unfolding fit_call nearest_fit
  fit_never_insoluble =
      in_order_elim _ _ (λ (o : Outcome (List ℕ × List ℕ)). o.told.number ≡ 5 → ⊥) (λ hs five. omega arith)
      (λ kind first. kind_of_list (λ k. refusal_number k ≡ 5 → ⊥) (other_kinds p m n a w z rest) first)

  -- beside solve on the same table and right side, with memory of its own
  pub fit_beside_solve : (IsRefusal (fit_call p m n a w z rest).told.number → ⊥) → (z' u : List ℕ) → length z' ≡ n → length u ≡ m
      → FitBesideSolve (fit_call p m n a w z rest) (solve_call p m n a w z' u)
  unfolding fit_call
  fit_beside_solve accepted z' u z_long u_long =
      in_order_elim _ _ P
      (λ hs _.
      let ok = hs.0 in
      let s = system_given p m n a w z rest hs in
      let all = system_hold p m n a w z' u (table_given p m n a w z rest hs)
      (record { w_long = s.w_long; w_below = s.w_below; z_long = z_long; u_long = u_long }) in
      subst (FitBesideSolve (nearest_fit p ok m n a w))
      (solve_done p m n a w z' u (solution p ok m n a w z') all (λ q. ap (λ k. solution p k m n a w z') (modulus_prop p ok q)))
      (beside_solution p ok m n a w z'))
      (λ kind _ taken. absurd (taken (refusal_number_lem kind)))
      accepted
    where
      P : Outcome (List ℕ × List ℕ) → Type 0
      P o = (IsRefusal o.told.number → ⊥) → FitBesideSolve o (solve_call p m n a w z' u)

-- ---- tables with no rows, and with no columns

-- no rows: nothing is to be fitted, z becomes 0 and there is no remainder
pub fit_no_rows : (p n : ℕ) (a w z rest : List ℕ) → AllHold (system_checks p 0 n a w z rest)
    → fit_call p 0 n a w z rest ≡ outcome (results 0) (replicate n 0, [])
unfolding rank count apply sum tabulate
fit_no_rows p n a w z rest all =
    sym
    (fit_done p 0 n a w z rest 0 (replicate n 0) [] all
    (λ ok.
    record {
      is_rank = refl;
      z_written =
          is_tabulate n _ (replicate n 0) (length-replicate n 0)
          (λ i l. get_or-replicate n i 0 0 l ∙ sym (reduce_small p 0 (omega (arith, ok.prime.two_or_more))));
      rest_written = refl;
    }))

-- no columns: there is no z, and all of w is left over
pub fit_no_columns : (p m : ℕ) (a w z rest : List ℕ) → AllHold (system_checks p m 0 a w z rest)
    → fit_call p m 0 a w z rest ≡ outcome (results 0) ([], w)
unfolding count apply sum tabulate remainder vector_of
fit_no_columns p m a w z rest all =
    let s = system_given p m 0 a w z rest (given all) in
    sym
    (fit_done p m 0 a w z rest 0 [] w all
    (λ ok.
    record {
      is_rank = columns_many p ok m 0 a;
      z_written = refl;
      rest_written =
          is_tabulate m _ w s.w_long
          (λ i l.
          sym
          (ap (λ r. r.value) (less_zero (residues p) (field p ok).ring (vector_of p w i) (reduce p 0) refl)
          ∙ reduce_small p _ (s.w_below i (omega (arith, s.w_long)))));
    }))
