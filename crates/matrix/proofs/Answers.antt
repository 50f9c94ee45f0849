-- What quasiinverse, kernel, solve, fit and check come to: the refusal by the first of their checks that fails, with all lent memory as it
-- was, or, where the table and the memory pass, what the parts left in it.
use mathlib.Core.Path.{◌≡◌, sym}
use mathlib.Core.List.{List}
use Prim.Native.Nat.{ℕ, ◌*◌}
use lib.ListN.{length}
use Rattle.checks.specs.declared.Refusal.{Refusal}
use Rattle.checks.specs.declared.Refusal.TheVariants.{Length, Number, NotInner, NotOuter}
use Rattle.checks.specs.Prime.{IsModulus}
use Rattle.checks.specs.Told.{results}
use Rattle.checks.specs.Outcome.{Outcome, outcome, untouched}
use Rattle.checks.specs.InOrder.{Given, AllHold, FirstFailing}
use Rattle.checks.specs.Sizes.{table_sizes}
use Rattle.checks.proofs.InOrder.{none_left, ◌and_then◌, ◌then◌, fails_here, or_later, fails_in_front, hold_and_then, fails_then}
use Rattle.checks.proofs.InOrder.{in_order_done, in_order_refused}
use Rattle.checks.proofs.TableSizes.{past_sizes}
use Rattle.words.specs.Words.{Below}
use Rattle.matrix.specs.Calls.{table_rank, quasiinverse_checks, quasiinverse_call, kernel_checks, kernel_call, solution, system_checks, solve_call, nearest_fit, fit_call}
use Rattle.matrix.specs.Calls.{IsInner, IsOuter, pair_checks, inverse_checks, check_call}
use Rattle.matrix.specs.Parts.{Checked, InverseRoom, StoresInverse, StoresBasis, System, StoresFit}

-- a table that has passed 1 to 4
pub passes_all : {p m n : ℕ} {a : List ℕ} → Given (table_sizes p m n) → length a ≡ m * n → Below p a → Checked p m n a
passes_all s l b = record { is_modulus = s.0; m_most = s.1.0.0; n_most = s.1.0.1; a_long = l; a_below = b }

-- ---- quasiinverse

module _ (p m n : ℕ) (a d columns rows : List ℕ) where
  pub quasiinverse_refused : {k : Refusal} → FirstFailing (quasiinverse_checks p m n a d columns rows) k
      → untouched (d, (columns, rows)) k ≡ quasiinverse_call p m n a d columns rows
  unfolding quasiinverse_call
  quasiinverse_refused f = sym (in_order_refused _ _ f)

  quasiinverse_hold : Checked p m n a → InverseRoom m n d columns rows → AllHold (quasiinverse_checks p m n a d columns rows)
  quasiinverse_hold k room =
      k.is_modulus
      and_then (k.m_most, k.n_most)
      and_then k.a_long
      and_then room.d_long
      and_then room.columns_long
      and_then room.rows_long
      and_then k.a_below
      and_then none_left

  pub quasiinverse_done : (d' columns' rows' : List ℕ) (r : ℕ) → Checked p m n a → InverseRoom m n d columns rows
      → ((ok : IsModulus p) → StoresInverse p ok m n a d' columns' rows') → ((ok : IsModulus p) → r ≡ table_rank p ok m n a)
      → outcome (results r) (d', (columns', rows')) ≡ quasiinverse_call p m n a d columns rows
  unfolding quasiinverse_call
  quasiinverse_done d' columns' rows' r k room i e =
      sym
      (in_order_done _ (untouched (d, (columns, rows))) _ (quasiinverse_hold k room)
      (λ hs.
      let ok = hs.0 in
      sym (λ t. outcome (results (e ok t)) ((i ok).d_written t, ((i ok).columns_written t, (i ok).rows_written t)))))

-- ---- kernel

module _ (p m n : ℕ) (a basis : List ℕ) where
  pub kernel_refused : {k : Refusal} → FirstFailing (kernel_checks p m n a basis) k → untouched basis k ≡ kernel_call p m n a basis
  unfolding kernel_call
  kernel_refused f = sym (in_order_refused _ _ f)

  kernel_hold : Checked p m n a → length basis ≡ n * n → AllHold (kernel_checks p m n a basis)
  kernel_hold k l =
      k.is_modulus
      and_then (k.m_most, k.n_most)
      and_then k.a_long
      and_then l
      and_then k.a_below
      and_then none_left

  pub kernel_done : (basis' : List ℕ) (r : ℕ) → Checked p m n a → length basis ≡ n * n
      → ((ok : IsModulus p) → StoresBasis p ok m n a basis' r) → outcome (results r) basis' ≡ kernel_call p m n a basis
  unfolding kernel_call
  kernel_done basis' r k l h =
      sym
      (in_order_done _ (untouched basis) _ (kernel_hold k l)
      (λ hs. sym (λ t. outcome (results ((h hs.0).many t)) ((h hs.0).filled t))))

-- ---- solve and fit

module _ (p m n : ℕ) (a w z u : List ℕ) where
  pub system_hold : Checked p m n a → System p m n w z u → AllHold (system_checks p m n a w z u)
  system_hold k s =
      k.is_modulus
      and_then (k.m_most, k.n_most)
      and_then k.a_long
      and_then s.w_long
      and_then s.z_long
      and_then s.u_long
      and_then k.a_below
      and_then s.w_below
      and_then none_left

  -- 3 and 4, by what fails: a length, whatever the numbers are, then a number of A or of w
  pub system_length : Given (table_sizes p m n) → (length a ≡ m * n → length w ≡ m → length z ≡ n → length u ≡ m → ⊥)
      → FirstFailing (system_checks p m n a w z u) Length
  system_length s bad = past_sizes s (or_later (λ la. or_later (λ lw. or_later (λ lz. fails_here (bad la lw lz)))))

  pub system_number : Given (table_sizes p m n) → length a ≡ m * n → length w ≡ m → length z ≡ n → length u ≡ m
      → (Below p a → Below p w → ⊥) → FirstFailing (system_checks p m n a w z u) Number
  system_number s la lw lz lu bad = past_sizes s (la then lw then lz then lu then or_later (λ b. fails_here (bad b)))

  -- what the checks gave is a table and a system
  pub table_given : Given (system_checks p m n a w z u) → Checked p m n a
  table_given (modulus, (sizes, (a_long, (w_long, (z_long, (u_long, (a_below, (w_below, _)))))))) =
      record { is_modulus = modulus; m_most = sizes.0; n_most = sizes.1; a_long = a_long; a_below = a_below }

  pub system_given : Given (system_checks p m n a w z u) → System p m n w z u
  system_given (modulus, (sizes, (a_long, (w_long, (z_long, (u_long, (a_below, (w_below, _)))))))) =
      record { w_long = w_long; w_below = w_below; z_long = z_long; u_long = u_long }

  pub solve_refused : {k : Refusal} → FirstFailing (system_checks p m n a w z u) k → untouched (z, u) k ≡ solve_call p m n a w z u
  unfolding solve_call
  solve_refused f = sym (in_order_refused _ _ f)

  pub solve_done : (x : Outcome (List ℕ × List ℕ)) → AllHold (system_checks p m n a w z u)
      → ((ok : IsModulus p) → x ≡ solution p ok m n a w z) → x ≡ solve_call p m n a w z u
  unfolding solve_call
  solve_done x all h = sym (in_order_done _ (untouched (z, u)) x all (λ hs. sym (h hs.0)))

  pub fit_refused : {k : Refusal} → FirstFailing (system_checks p m n a w z u) k → untouched (z, u) k ≡ fit_call p m n a w z u
  unfolding fit_call
  fit_refused f = sym (in_order_refused _ _ f)

  pub fit_done : (r : ℕ) (z' rest' : List ℕ) → AllHold (system_checks p m n a w z u)
      → ((ok : IsModulus p) → StoresFit p ok m n a w r z' rest') → outcome (results r) (z', rest') ≡ fit_call p m n a w z u
  unfolding fit_call nearest_fit
  fit_done r z' rest' all h =
      sym
      (in_order_done _ (untouched (z, u)) _ all
      (λ hs. let f = h hs.0 in sym (λ t. outcome (results (f.is_rank t)) (f.z_written t, f.rest_written t))))

-- ---- check

module _ (p m n : ℕ) (a d : List ℕ) where
  pub pair_hold : Checked p m n a → Checked p n m d → AllHold (pair_checks p m n a d)
  pair_hold k l =
      k.is_modulus
      and_then (k.m_most, k.n_most)
      and_then k.a_long
      and_then l.a_long
      and_then k.a_below
      and_then l.a_below
      and_then none_left

  -- 3 and 4, by what fails: a length, whatever the numbers are, then a number of A or of D
  pub pair_length : Given (table_sizes p m n) → (length a ≡ m * n → length d ≡ n * m → ⊥) → FirstFailing (pair_checks p m n a d) Length
  pair_length s bad = past_sizes s (or_later (λ la. fails_here (bad la)))

  pub pair_number : Given (table_sizes p m n) → length a ≡ m * n → length d ≡ n * m → (Below p a → Below p d → ⊥)
      → FirstFailing (pair_checks p m n a d) Number
  pair_number s la ld bad = past_sizes s (la then ld then or_later (λ b. fails_here (bad b)))

  -- what the checks gave are two tables, the one as wide as the other is high
  pub pair_given : Given (pair_checks p m n a d) → Checked p m n a × Checked p n m d
  pair_given (modulus, (sizes, (a_long, (d_long, (a_below, (d_below, _)))))) = (
    record { is_modulus = modulus; m_most = sizes.0; n_most = sizes.1; a_long = a_long; a_below = a_below },
    record { is_modulus = modulus; m_most = sizes.1; n_most = sizes.0; a_long = d_long; a_below = d_below },
  )

  pub check_refused : {k : Refusal} → FirstFailing (pair_checks p m n a d) k → untouched tt k ≡ check_call p m n a d
  unfolding check_call
  check_refused f = sym (in_order_refused _ _ (fails_in_front (pair_checks p m n a d) (λ hs. inverse_checks p hs.0 m n a d) f))

  module _ (all : AllHold (pair_checks p m n a d)) where
    pub check_not_inner : (IsInner p m n a d → ⊥) → untouched tt NotInner ≡ check_call p m n a d
    unfolding check_call
    check_not_inner f =
        sym (in_order_refused _ _ (fails_then (pair_checks p m n a d) (λ hs. inverse_checks p hs.0 m n a d) all (λ hs. fails_here f)))

    pub check_not_outer : IsInner p m n a d → (IsOuter p m n a d → ⊥) → untouched tt NotOuter ≡ check_call p m n a d
    unfolding check_call
    check_not_outer i f =
        sym
        (in_order_refused _ _ (fails_then (pair_checks p m n a d) (λ hs. inverse_checks p hs.0 m n a d) all (λ hs. i then fails_here f)))

    pub check_done : IsInner p m n a d → IsOuter p m n a d → (r : ℕ) → ((ok : IsModulus p) → r ≡ table_rank p ok m n a)
        → outcome (results r) tt ≡ check_call p m n a d
    unfolding check_call
    check_done i o r e =
        sym
        (in_order_done _ (untouched tt) _
        (hold_and_then {cs = pair_checks p m n a d} {more = λ hs. inverse_checks p hs.0 m n a d} all (λ hs. i and_then o and_then none_left))
        (λ hs. sym (λ t. outcome (results (e hs.0 t)) tt)))
