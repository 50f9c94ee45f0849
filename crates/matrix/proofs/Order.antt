-- 01, "Order for all three: 1, 2, 3, 4 (A first, then w)", and "What is handed back on refusal", said of the three calls, of fit, whose
-- "checks are solve's without 5" (02, #102), and of check, "1, 2, 3, 4 (A, then D)" (#113): 1 or 2 refuses whatever the lengths and
-- numbers are, 3 whatever the numbers are, then 4, all with lent memory untouched; all else is accepted. Solve's 5, and what it accepts,
-- is in SolveCall, check's 17 and 18 in CheckCall.
use mathlib.Core.Path.{◌≡◌, sym}
use mathlib.Core.List.{List}
use Prim.Native.Nat.{ℕ, ◌*◌}
use native.Mathlib.Omega.{arith}
use lib.ListN.{length}
use Rattle.checks.specs.declared.Refusal.{Refusal}
use Rattle.checks.specs.declared.Refusal.TheVariants.{Length, Number}
use Rattle.checks.specs.InOrder.{Given, AllHold, FirstFailing}
use Rattle.checks.specs.Refusal.{IsRefusal}
use Rattle.checks.specs.Sizes.{table_sizes}
use Rattle.checks.specs.Outcome.{Outcome, untouched}
use Rattle.checks.proofs.InOrder.{fails_here, ◌then◌, or_later, in_order_accepted}
use Rattle.checks.proofs.TableSizes.{past_sizes, sizes_first}
use Rattle.words.specs.Words.{Below}
use Rattle.matrix.specs.Calls.{quasiinverse_checks, quasiinverse_call, kernel_checks, kernel_call, system_checks, solve_call, nearest_fit, fit_call, check_call}
use Rattle.matrix.specs.Parts.{InverseRoom}
use Rattle.matrix.proofs.Answers.{system_length, system_number, quasiinverse_refused, kernel_refused, solve_refused, fit_refused}
use Rattle.matrix.proofs.Answers.{pair_length, pair_number, check_refused}

module _ (p m n : ℕ) (a : List ℕ) where
  -- ---- quasiinverse

  module _ (d columns rows : List ℕ) where
    pub quasiinverse_sizes : {k : Refusal} → FirstFailing (table_sizes p m n) k
        → quasiinverse_call p m n a d columns rows ≡ untouched (d, (columns, rows)) k
    quasiinverse_sizes f = sym (quasiinverse_refused p m n a d columns rows (sizes_first f))

    pub quasiinverse_length : Given (table_sizes p m n) → (length a ≡ m * n → InverseRoom m n d columns rows → ⊥)
        → quasiinverse_call p m n a d columns rows ≡ untouched (d, (columns, rows)) Length
    quasiinverse_length s bad =
        sym
        (quasiinverse_refused p m n a d columns rows
        (past_sizes s
        (or_later (λ la.
        or_later (λ ld.
        or_later (λ lc. fails_here (λ lr. bad la (record { d_long = ld; columns_long = lc; rows_long = lr }))))))))

    -- "All else is accepted"
    pub quasiinverse_accepted : AllHold (quasiinverse_checks p m n a d columns rows)
        → IsRefusal (quasiinverse_call p m n a d columns rows).told.number → ⊥
    unfolding quasiinverse_call
    quasiinverse_accepted all =
        in_order_accepted _ _ (λ (o : Outcome (List ℕ × (List ℕ × List ℕ))). IsRefusal o.told.number → ⊥) all (λ hs h. omega arith)

    pub quasiinverse_number : Given (table_sizes p m n) → length a ≡ m * n → InverseRoom m n d columns rows → (Below p a → ⊥)
        → quasiinverse_call p m n a d columns rows ≡ untouched (d, (columns, rows)) Number
    quasiinverse_number s la r bad =
        sym
        (quasiinverse_refused p m n a d columns rows
        (past_sizes s (la then r.d_long then r.columns_long then r.rows_long then fails_here bad)))

  -- ---- kernel

  module _ (basis : List ℕ) where
    pub kernel_sizes : {k : Refusal} → FirstFailing (table_sizes p m n) k → kernel_call p m n a basis ≡ untouched basis k
    kernel_sizes f = sym (kernel_refused p m n a basis (sizes_first f))

    pub kernel_length : Given (table_sizes p m n) → (length a ≡ m * n → length basis ≡ n * n → ⊥)
        → kernel_call p m n a basis ≡ untouched basis Length
    kernel_length s bad = sym (kernel_refused p m n a basis (past_sizes s (or_later (λ la. fails_here (bad la)))))

    pub kernel_accepted : AllHold (kernel_checks p m n a basis) → IsRefusal (kernel_call p m n a basis).told.number → ⊥
    unfolding kernel_call
    kernel_accepted all = in_order_accepted _ _ (λ (o : Outcome (List ℕ)). IsRefusal o.told.number → ⊥) all (λ hs h. omega arith)

    pub kernel_number : Given (table_sizes p m n) → length a ≡ m * n → length basis ≡ n * n → (Below p a → ⊥)
        → kernel_call p m n a basis ≡ untouched basis Number
    kernel_number s la lb bad = sym (kernel_refused p m n a basis (past_sizes s (la then lb then fails_here bad)))

  -- ---- solve and fit

  module _ (w z u : List ℕ) where
    pub solve_sizes : {k : Refusal} → FirstFailing (table_sizes p m n) k → solve_call p m n a w z u ≡ untouched (z, u) k
    solve_sizes f = sym (solve_refused p m n a w z u (sizes_first f))

    pub solve_length : Given (table_sizes p m n) → (length a ≡ m * n → length w ≡ m → length z ≡ n → length u ≡ m → ⊥)
        → solve_call p m n a w z u ≡ untouched (z, u) Length
    solve_length s bad = sym (solve_refused p m n a w z u (system_length p m n a w z u s bad))

    pub solve_number : Given (table_sizes p m n) → length a ≡ m * n → length w ≡ m → length z ≡ n → length u ≡ m
        → (Below p a → Below p w → ⊥) → solve_call p m n a w z u ≡ untouched (z, u) Number
    solve_number s la lw lz lu bad = sym (solve_refused p m n a w z u (system_number p m n a w z u s la lw lz lu bad))

    pub fit_sizes : {k : Refusal} → FirstFailing (table_sizes p m n) k → fit_call p m n a w z u ≡ untouched (z, u) k
    fit_sizes f = sym (fit_refused p m n a w z u (sizes_first f))

    pub fit_length : Given (table_sizes p m n) → (length a ≡ m * n → length w ≡ m → length z ≡ n → length u ≡ m → ⊥)
        → fit_call p m n a w z u ≡ untouched (z, u) Length
    fit_length s bad = sym (fit_refused p m n a w z u (system_length p m n a w z u s bad))

    pub fit_number : Given (table_sizes p m n) → length a ≡ m * n → length w ≡ m → length z ≡ n → length u ≡ m
        → (Below p a → Below p w → ⊥) → fit_call p m n a w z u ≡ untouched (z, u) Number
    fit_number s la lw lz lu bad = sym (fit_refused p m n a w z u (system_number p m n a w z u s la lw lz lu bad))

    -- "for each accepted table": past these checks fit is never refused
    pub fit_accepted : AllHold (system_checks p m n a w z u) → IsRefusal (fit_call p m n a w z u).told.number → ⊥
    unfolding fit_call nearest_fit
    fit_accepted all = in_order_accepted _ _ (λ (o : Outcome (List ℕ × List ℕ)). IsRefusal o.told.number → ⊥) all (λ hs h. omega arith)

  -- ---- check

  module _ (d : List ℕ) where
    pub check_sizes : {k : Refusal} → FirstFailing (table_sizes p m n) k → check_call p m n a d ≡ untouched tt k
    check_sizes f = sym (check_refused p m n a d (sizes_first f))

    pub check_length : Given (table_sizes p m n) → (length a ≡ m * n → length d ≡ n * m → ⊥) → check_call p m n a d ≡ untouched tt Length
    check_length s bad = sym (check_refused p m n a d (pair_length p m n a d s bad))

    pub check_number : Given (table_sizes p m n) → length a ≡ m * n → length d ≡ n * m → (Below p a → Below p d → ⊥)
        → check_call p m n a d ≡ untouched tt Number
    check_number s la ld bad = sym (check_refused p m n a d (pair_number p m n a d s la ld bad))
