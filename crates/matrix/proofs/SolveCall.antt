-- What 01 promises of solve is kept by `solve_call` itself: it refuses by 5 exactly where there is no solution, with z untouched and a
-- mix that shows it, and else it leaves a solution. The calls go by their checks and then by whether A(Dw) = w.
use mathlib.Core.Path.{◌≡◌, refl, sym, ap, ◌∙◌, subst}
use mathlib.Core.List.{List}
use mathlib.Core.Logic.{◌↔◌}
use Prim.Native.Nat.{ℕ}
use native.Mathlib.Omega.{arith}
use lib.ListN.{replicate}
use Rattle.algebra.specs.Matrix.{Vector, Matrix}
use Rattle.algebra.specs.Span.{Solves}
use Rattle.algebra.specs.Solve.{mix_of}
use Rattle.algebra.proofs.Applied.{mixed_same}
use Rattle.algebra.proofs.Choice.{pick_yes, pick_no}
use Rattle.algebra.proofs.Sums.{sum_same}
use Rattle.checks.specs.declared.Refusal.TheVariants.{Insoluble}
use Rattle.checks.specs.Refusal.{refusal_number, IsRefusal}
use Rattle.checks.specs.Prime.{IsModulus}
use Rattle.checks.specs.Told.{results, refused}
use Rattle.checks.specs.Outcome.{Outcome, outcome}
use Rattle.checks.specs.InOrder.{Given, EveryKind, AllHold}
use Rattle.checks.proofs.InOrder.{in_order_elim, kind_of_list, not_both, in_order_accepted}
use Rattle.checks.proofs.Modulus.{modulus_prop}
use Rattle.checks.proofs.Refusals.{refusal_number_lem}
use Rattle.field.specs.Residue.{residues, ◌⊗◌}
use Rattle.field.specs.Written.{numbers}
use Rattle.field.proofs.Written.{length_tabulate}
use Rattle.matrix.specs.Decide.{solves?}
use Rattle.matrix.specs.Calls.{table_of, table_rank, inverse_of, vector_of, candidate, first_row, solution, system_checks, solve_call}
use Rattle.matrix.specs.Promises.{NoSolution, SystemSolved, SystemRefused}
use Rattle.matrix.proofs.Memory.{vector_read, apply_read}
use Rattle.matrix.proofs.Answers.{system_hold, table_given, system_given}
use Rattle.matrix.proofs.Theorems.{solvable_exactly, first_row_differs, first_row_first, refused_exactly}

-- ---- past the checks

module _ (p : ℕ) (ok : IsModulus p) (m n : ℕ) (a w z : List ℕ) where
  abbrev A : Matrix (residues p)
  A = table_of p m n a

  -- A(Dw) = w
  abbrev Solved : Type 0
  Solved = Solves (residues p) m n A (candidate p ok m n a w) (vector_of p w)

  -- the unit row of y minus (row y of A) times D
  abbrev mix : Vector (residues p)
  mix = mix_of (residues p) n A (inverse_of p ok m n a) (first_row p ok m n a w)

  -- what is told and left where A(Dw) = w, and where not
  abbrev found : Outcome (List ℕ × List ℕ)
  found = outcome (results (table_rank p ok m n a)) (numbers n (candidate p ok m n a w), replicate m 0)

  abbrev none : Outcome (List ℕ × List ℕ)
  none = outcome (refused Insoluble) (z, numbers m mix)

  solved? : Dec Solved
  solved? = solves? m n A (candidate p ok m n a w) (vector_of p w)

  pub solution_found : Solved → solution p ok m n a w z ≡ found
  unfolding solution solved?
  solution_found h = pick_yes solved? _ _ h

  pub solution_none : (Solved → ⊥) → solution p ok m n a w z ≡ none
  unfolding solution solved?
  solution_none f = pick_no solved? _ _ f

  pub solution_elim : (Q : Outcome (List ℕ × List ℕ) → Type 0) → (Solved → Q found) → ((Solved → ⊥) → Q none) → Q (solution p ok m n a w z)
  solution_elim Q f g = go solved?
    where
      go : Dec Solved → Q (solution p ok m n a w z)
      go (yes h) = subst Q (sym (solution_found h)) (f h)
      go (no h) = subst Q (sym (solution_none h)) (g h)

  unsolved : (Solved → ⊥) → NoSolution p m n a w
  unsolved f s = f ((solvable_exactly p ok m n a w).0 s)

  solved_done : Solved → SystemSolved p ok m n a w found
  solved_done h =
      record {
        told = refl;
        solves = λ i l. ap (λ v. v i) (apply_read p n A (candidate p ok m n a w)) ∙ h i l;
        z_long = length_tabulate n (λ t. (candidate p ok m n a w t).value);
        z_is = refl;
        u_zeros = refl;
      }

  refused_done : (Solved → ⊥) → SystemRefused p ok m n a w z none
  refused_done f =
      let (row, differs) = first_row_differs p ok m n a w f in
      let (kills, shows) = refused_exactly p ok m n a w (unsolved f) in
      record {
        told = refl;
        insoluble = unsolved f;
        z_untouched = refl;
        y = first_row p ok m n a w;
        y_row = row;
        y_differs = differs;
        y_first = first_row_first p ok m n a w;
        u_is = refl;
        u_long = length_tabulate m (λ t. (mix t).value);
        u_kills = λ j l. mixed_same (residues p) m (vector_of p (numbers m mix)) mix A (vector_read p m mix) j ∙ kills j l;
        u_shows = λ e.
            shows (sym (sum_same (residues p) m _ _ (λ t l. ap (λ v. v ⊗ vector_of p w t) (vector_read p m mix t l))) ∙ e);
      }

-- ---- the call

module _ (p m n : ℕ) (a w z u : List ℕ) where
  -- the checks do not refuse by 5
  pub other_kinds : EveryKind (λ k. refusal_number k ≡ 5 → ⊥) (system_checks p m n a w z u)
  other_kinds = omega arith

  -- not refused, it leaves in z a solution
  pub solve_call_solved : (IsRefusal (solve_call p m n a w z u).told.number → ⊥)
      → IsModulus p × ((ok : IsModulus p) → SystemSolved p ok m n a w (solve_call p m n a w z u))
  unfolding solve_call
  solve_call_solved =
      in_order_elim _ _
      Q
      (λ hs.
      solution_elim p hs.0 m n a w z Q
      (λ h _. (hs.0, λ ok. subst (λ q. SystemSolved p q m n a w _) (modulus_prop p hs.0 ok) (solved_done p hs.0 m n a w z h)))
      (λ _ accepted. absurd (accepted (refusal_number_lem Insoluble))))
      (λ kind _ accepted. absurd (accepted (refusal_number_lem kind)))
    where
      Q : Outcome (List ℕ × List ℕ) → Type 0
      Q o = (IsRefusal o.told.number → ⊥) → IsModulus p × ((ok : IsModulus p) → SystemSolved p ok m n a w o)

  -- refused by 5, it leaves in u a mix that shows that there is no solution
  pub solve_call_insoluble : (solve_call p m n a w z u).told.number ≡ 5
      → IsModulus p × ((ok : IsModulus p) → SystemRefused p ok m n a w z (solve_call p m n a w z u))
  unfolding solve_call
  solve_call_insoluble =
      in_order_elim _ _
      Q
      (λ hs.
      solution_elim p hs.0 m n a w z Q
      (λ _ five. absurd (omega arith))
      (λ f _. (hs.0, λ ok. subst (λ q. SystemRefused p q m n a w z _) (modulus_prop p hs.0 ok) (refused_done p hs.0 m n a w z f))))
      (λ kind first five. absurd (kind_of_list (λ k. refusal_number k ≡ 5 → ⊥) other_kinds first five))
    where
      Q : Outcome (List ℕ × List ℕ) → Type 0
      Q o = o.told.number ≡ 5 → IsModulus p × ((ok : IsModulus p) → SystemRefused p ok m n a w z o)

  all_hold : Given (system_checks p m n a w z u) → AllHold (system_checks p m n a w z u)
  all_hold hs = system_hold p m n a w z u (table_given p m n a w z u hs) (system_given p m n a w z u hs)

  -- past the checks it refuses wherever there is no solution
  refuses : Given (system_checks p m n a w z u) → NoSolution p m n a w → (solve_call p m n a w z u).told ≡ refused Insoluble
  unfolding solve_call
  refuses given =
      in_order_elim _ _
      Q
      (λ hs. solution_elim p hs.0 m n a w z Q (λ h none. absurd (none (candidate p hs.0 m n a w, h))) (λ _ _. refl))
      (λ kind first _. absurd (not_both first (all_hold given)))
    where
      Q : Outcome (List ℕ × List ℕ) → Type 0
      Q o = NoSolution p m n a w → o.told ≡ refused Insoluble

  -- and accepts wherever there is one
  pub solve_call_accepts : Given (system_checks p m n a w z u)
      → (x : Vector (residues p)) × Solves (residues p) m n (table_of p m n a) x (vector_of p w)
      → IsRefusal (solve_call p m n a w z u).told.number → ⊥
  unfolding solve_call
  solve_call_accepts given some =
      in_order_accepted _ _ Q (all_hold given)
      (λ hs. solution_elim p hs.0 m n a w z Q (λ h r. omega arith) (λ f. absurd (unsolved p hs.0 m n a w z f some)))
    where
      Q : Outcome (List ℕ × List ℕ) → Type 0
      Q o = IsRefusal o.told.number → ⊥

  -- so past the checks the answer is 5 exactly if there is no solution
  pub solve_call_exactly : Given (system_checks p m n a w z u)
      → (((solve_call p m n a w z u).told ≡ refused Insoluble) ↔ NoSolution p m n a w)
      × (((solve_call p m n a w z u).told.number ≡ 5) ↔ NoSolution p m n a w)
  solve_call_exactly given =
      let none : (solve_call p m n a w z u).told.number ≡ 5 → NoSolution p m n a w =
      λ five. let (ok, done) = solve_call_insoluble five in (done ok).insoluble in (
        ((λ e. none (ap (λ t. t.number) e)), refuses given),
        (none, λ none. ap (λ t. t.number) (refuses given none)),
      )
