-- 01's starred examples of tables, what fit leaves of their systems and what check says of other tables hold of the calls' definitions.
-- No decision is opened: each example passes a test that computes (`passes`), and an example that passes holds (`passed_holds`), by the
-- checker and the laws of the calls.
use mathlib.Core.Path.{◌≡◌, refl, sym, ap, ap₂, ◌∙◌}
use mathlib.Core.Bool.{Bool, true, not}
use mathlib.Core.List.{List, ◌++◌, flatten, Memᴰ}
use Prim.Native.Nat.{ℕ, ◌+◌, ◌*◌}
use lib.Dec.{eqb, ltb, leb}
use lib.ListN.{length, get_or, replicate}
use native.Mathlib.Omega.{arith}
use borrow.Author.Tests.{eqb-true, ltb-true, leb-true}
use Rattle.field.proofs.Written.{length_tabulate}
use Rattle.algebra.specs.Choice.{first_from}
use Rattle.algebra.specs.Matrix.{Matrix, sum, unit, product, apply}
use Rattle.algebra.specs.Quasiinverse.{count}
use Rattle.algebra.specs.Kernel.{kernel_vector}
use Rattle.algebra.specs.Solve.{mix_of, remainder}
use Rattle.words.specs.Words.{Below}
use Rattle.field.specs.Residue.{residues, reduce, ◌⊕◌, ◌⊗◌, negated}
use Rattle.field.specs.View.{table}
use Rattle.field.specs.Written.{numbers, tabulate, marked}
use Rattle.checks.specs.Prime.{IsModulus}
use Rattle.checks.specs.Told.{results}
use Rattle.checks.specs.Outcome.{outcome}
use Rattle.checks.specs.InOrder.{AllHold}
use Rattle.matrix.specs.Calls.{table_of, table_rank, vectors_from, quasiinverse_call, kernel_call, system_checks, solve_call, fit_call, solution, vector_of}
use Rattle.matrix.specs.Calls.{pair_checks, check_call}
use Rattle.matrix.specs.Parts.{Checked, StoresInverse, InverseRoom, KernelVectors, StoresBasis, StoresFit}
use Rattle.matrix.specs.Examples.{Becomes, solved_by, refused_by, SystemExample, Judged, accepted, not_inner, not_outer, SentExample}
use Rattle.matrix.specs.Examples.{TableExample, table_examples, system_outcome, sent_outcome, Holds}
use Rattle.matrix.proofs.Stored.{rank_is}
use Rattle.matrix.proofs.Answers.{quasiinverse_done, kernel_done, system_hold, solve_done, fit_done, pair_hold, check_not_inner, check_not_outer, check_done}
use Rattle.matrix.proofs.Basis.{basis_stored}
use Rattle.matrix.proofs.Systems.{solved_by_lem, refused_by_lem}
use Rattle.matrix.proofs.Checker.{◌and◌, every, every_below, is_pivot_inverse, both, every_member}
use Rattle.matrix.proofs.CheckedTables.{are_below, all_below, are_same, all_same, are_marks, is_least_nonzero, least_nonzero, none_nonzero, is_prime}
use Rattle.matrix.proofs.CheckedTables.{is_table, table_checked, same, holds_inverse, quasiinverse_checked, inverse_checked}
use Rattle.matrix.proofs.CheckedTables.{is_absorbed, absorbs_checked, absorbs_unchecked}

-- ---- the test

module _ (e : TableExample) where
  open e use {p, m, n, a, d, columns, rows, rank, vectors, systems, others}

  -- the table, and D
  abbrev A : Matrix (residues p)
  A = table_of p m n a

  abbrev D : Matrix (residues p)
  D = table p d 0 m n m

  module _ (w : List ℕ) where
    -- Dw, what it leaves over, and the first row where something is left over
    abbrev candidate_of : List ℕ
    candidate_of = numbers n (apply (residues p) m D (vector_of p w))

    abbrev rest_of : List ℕ
    rest_of = numbers m (remainder (residues p) n A (apply (residues p) m D (vector_of p w)) (vector_of p w))

    unfoldable differing : ℕ
    differing = first_from (λ i. not (eqb (get_or rest_of i 0) 0)) 0 m

    -- nothing is left over and z is Dw, or something is and u is the mix of that row
    unfoldable becomes_so : Becomes → Bool
    becomes_so (solved_by z) = leb m differing and are_same z candidate_of and are_same (replicate m 0) rest_of
    becomes_so (refused_by u) = ltb differing m and are_same u (numbers m (mix_of (residues p) n A D differing))

    -- w passes the checks, and that row is the first
    unfoldable is_system : Bool
    is_system = eqb (length w) m and are_below p w and is_least_nonzero rest_of differing

  unfoldable passes_system : SystemExample → Bool
  passes_system s =
      is_system s.w and becomes_so s.w s.becomes and are_same s.z (candidate_of s.w) and are_same s.rest (rest_of s.w)

  -- the two equations hold, or the first of them that does not is the one named
  unfoldable judged_so : List ℕ → Judged → Bool
  judged_so x accepted = is_absorbed p m n a x and is_absorbed p n m x a
  judged_so x not_inner = not (is_absorbed p m n a x)
  judged_so x not_outer = is_absorbed p m n a x and not (is_absorbed p n m x a)

  unfoldable passes_sent : SentExample → Bool
  passes_sent s = eqb (length s.sent) (n * m) and are_below p s.sent and judged_so s.sent s.judged

  -- the table passes the checks, D and the marks are its quasiinverse, and rank, kernel, systems and other tables are as D says
  unfoldable passes : Bool
  passes =
      is_table p m n a
      and holds_inverse p m n a d columns rows
      and eqb (count n (marked columns)) rank
      and eqb (length vectors + rank) n
      and are_same (flatten vectors) (vectors_from m n (marked columns) D A 0 n)
      and every passes_system systems
      and every passes_sent others

-- ---- an example that passes holds

module _ (e : TableExample) (checks : Checked e.p e.m e.n e.a)
    (inverse : holds_inverse e.p e.m e.n e.a e.d e.columns e.rows ≡ true)
    (many : count e.n (marked e.columns) ≡ e.rank) where
  open e use {p, m, n, a, d, columns, rows, rank, vectors, systems}

  module _ (ok : IsModulus p) where
    -- d, columns and rows are 01's D, I and J of the table, and the rank is its rank
    stored : StoresInverse p ok m n a d columns rows
    stored = inverse_checked p m n a d columns rows ok inverse

    rank_so : rank ≡ table_rank p ok m n a
    rank_so = sym many ∙ rank_is p ok m n a (quasiinverse_checked p m n a d columns rows ok inverse)

  -- quasiinverse
  inverts : (lent-d lent-columns lent_rows : List ℕ) → InverseRoom m n lent-d lent-columns lent_rows
      → quasiinverse_call p m n a lent-d lent-columns lent_rows ≡ outcome (results rank) (d, (columns, rows))
  inverts lent-d lent-columns lent_rows room =
      sym (quasiinverse_done p m n a lent-d lent-columns lent_rows d columns rows rank checks room stored rank_so)

  -- kernel
  module _ (long : length vectors + rank ≡ n) (filled : flatten vectors ≡ vectors_from m n (marked columns) (D e) (A e) 0 n) where
    vectors_so : KernelVectors m n (D e) (A e) columns (flatten vectors ++ replicate (n * rank) 0) (length vectors)
    vectors_so =
        record { filled = ap₂ (λ l r. l ++ replicate (n * r) 0) filled (sym many); many = ap (λ r. length vectors + r) many ∙ long }

    basis_so : (ok : IsModulus p) → StoresBasis p ok m n a (flatten vectors ++ replicate (n * rank) 0) (length vectors)
    basis_so ok = basis_stored p ok m n a (quasiinverse_checked p m n a d columns rows ok inverse) vectors_so

    spans : (basis : List ℕ) → length basis ≡ n * n
        → kernel_call p m n a basis ≡ outcome (results (length vectors)) (flatten vectors ++ replicate (n * rank) 0)
    spans basis lent = sym (kernel_done p m n a basis _ (length vectors) checks lent basis_so)

  -- solve and fit
  module _ (w : List ℕ) (t : is_system e w ≡ true) where
    -- w passes the checks
    passes_checks : (length w ≡ m) × Below p w
    unfolding is_system
    passes_checks = let (long, below) = both _ _ (both _ _ t).0 in (eqb-true _ _ long, all_below p w below)

    all_hold : (z u : List ℕ) → length z ≡ n → length u ≡ m → AllHold (system_checks p m n a w z u)
    all_hold z u z_long u_long =
        system_hold p m n a w z u checks
        (record { w_long = passes_checks.0; w_below = passes_checks.1; z_long = z_long; u_long = u_long })

    rest_size : length (rest_of e w) ≡ m
    rest_size = length_tabulate m _

    least : is_least_nonzero (rest_of e w) (differing e w) ≡ true
    unfolding is_system
    least = (both _ _ t).1

    fit_so : (ok : IsModulus p) → StoresFit p ok m n a w rank (candidate_of e w) (rest_of e w)
    fit_so ok =
        record {
          is_rank = rank_so ok;
          z_written = ap (λ X. numbers n (apply (residues p) m X (vector_of p w))) (stored ok).is_D;
          rest_written =
              ap (λ X. numbers m (remainder (residues p) n (A e) (apply (residues p) m X (vector_of p w)) (vector_of p w))) (stored ok).is_D;
        }

    answers : (o : Becomes) → becomes_so e w o ≡ true → (z : List ℕ) (ok : IsModulus p)
        → system_outcome m rank o z ≡ solution p ok m n a w z
    unfolding becomes_so
    answers (solved_by x) s z ok =
        let (s, zeros) = both _ _ s in
        let (nowhere, same) = both _ _ s in
        ap (λ u. outcome (results rank) (x, u)) (all_same _ _ zeros)
        ∙ solved_by_lem p ok m n a w (fit_so ok) z x (none_nonzero _ _ least (omega (arith, rest_size, leb-true _ _ nowhere))) (all_same _ _ same)
    answers (refused_by u) s z ok =
        let (somewhere, same) = both _ _ s in
        refused_by_lem p ok m n a w (fit_so ok) (differing e w) (least_nonzero _ _ least (omega (arith, rest_size, ltb-true _ _ somewhere))) z u
        (all_same _ _ same ∙ ap (λ X. numbers m (mix_of (residues p) n (A e) X (differing e w))) (stored ok).is_D)

    solves : (o : Becomes) → becomes_so e w o ≡ true → (z u : List ℕ) → length z ≡ n → length u ≡ m
        → solve_call p m n a w z u ≡ system_outcome m rank o z
    solves o s z u z_long u_long = sym (solve_done p m n a w z u _ (all_hold z u z_long u_long) (answers o s z))

    fits : (x e' : List ℕ) → x ≡ candidate_of e w → e' ≡ rest_of e w → (z rest : List ℕ) → length z ≡ n → length rest ≡ m
        → fit_call p m n a w z rest ≡ outcome (results rank) (x, e')
    fits x e' so left z rest z_long rest_long =
        sym
        (ap₂ (λ k l. outcome (results rank) (k, l)) so left
        ∙ fit_done p m n a w z rest rank _ _ (all_hold z rest z_long rest_long) fit_so)

  -- check
  module _ (x : List ℕ) (long : length x ≡ n * m) (below : Below p x) where
    pair : AllHold (pair_checks p m n a x)
    pair =
        pair_hold p m n a x checks
        (record { is_modulus = checks.is_modulus; m_most = checks.n_most; n_most = checks.m_most; a_long = long; a_below = below })

    judges : (j : Judged) → judged_so e x j ≡ true → check_call p m n a x ≡ sent_outcome rank j
    unfolding judged_so
    judges accepted t =
        let (inner, outer) = both _ _ t in
        sym
        (check_done p m n a x pair (absorbs_checked p m n a x checks.is_modulus inner)
        (absorbs_checked p n m x a checks.is_modulus outer) rank rank_so)
    judges not_inner t = sym (check_not_inner p m n a x pair (absorbs_unchecked p m n a x t))
    judges not_outer t =
        let (inner, outer) = both _ _ t in
        sym
        (check_not_outer p m n a x pair (absorbs_checked p m n a x checks.is_modulus inner) (absorbs_unchecked p n m x a outer))

passed_holds : (e : TableExample) → passes e ≡ true → Holds e
unfolding passes passes_system passes_sent
passed_holds e t =
    let (t, others) = both _ _ t in
    let (t, systems) = both _ _ t in
    let (t, filled) = both _ _ t in
    let (t, long) = both _ _ t in
    let (t, many) = both _ _ t in
    let (table, inverse) = both _ _ t in
    let k = table_checked e.p e.m e.n e.a table in
    let r = eqb-true _ _ many in
    record {
      inverts = inverts e k inverse r;
      spans = spans e k inverse r (eqb-true _ _ long) (all_same _ _ filled);
      solves = λ s i.
          let (t, left) = both _ _ (every_member (passes_system e) e.systems systems s i) in
          let (t, so) = both _ _ t in
          let (system, becomes) = both _ _ t in
          solves e k inverse r s.w system s.becomes becomes;
      fits = λ s i.
          let (t, left) = both _ _ (every_member (passes_system e) e.systems systems s i) in
          let (t, so) = both _ _ t in
          let (system, becomes) = both _ _ t in
          fits e k inverse r s.w system s.z s.rest (all_same _ _ so) (all_same _ _ left);
      judges = λ s i.
          let (t, judged) = both _ _ (every_member (passes_sent e) e.others others s i) in
          let (long, below) = both _ _ t in
          judges e k inverse r s.sent (eqb-true _ _ long) (all_below e.p s.sent below) s.judged judged;
    }

-- every starred example passes, computed
all_pass : every passes table_examples ≡ true
unfolding every passes passes_system is_system becomes_so differing passes_sent judged_so is_absorbed table_examples
    is_table is_prime holds_inverse are_below are_same are_marks is_least_nonzero is_pivot_inverse every_below ◌and◌ same
    flatten vectors_from first_from marked vector_of kernel_vector mix_of remainder count sum unit product apply table tabulate reduce ◌⊕◌ ◌⊗◌ negated
all_pass = refl

-- every starred example holds
pub starred_tables_hold : (e : TableExample) → Memᴰ e table_examples → Holds e
starred_tables_hold e i = passed_holds e (every_member passes table_examples all_pass e i)
