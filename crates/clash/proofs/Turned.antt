-- The rows that a row combines from, by the turned system: row y of A D is the solution of the transpose of A with row y of A as its right
-- side, since the transpose of D is the pivot inverse of the transpose. With y itself, they are the frames that are selected.
use mathlib.Core.Path.{◌≡◌, sym, ap, ap₂, ◌∙◌, subst}
use mathlib.Core.Bool.{Bool, true, false}
use mathlib.Core.List.{List}
use Prim.Native.Nat.{ℕ, ◌+◌, ◌*◌, ◌-◌, ◌<◌}
use native.Mathlib.Nat.{mul-one}
use native.Mathlib.Decide.{ℕ_discrete}
use native.Mathlib.Omega.{arith}
use lib.Dec.{eqb}
use lib.ListN.{length, get_or, take, drop, replicate, set}
use lib.Seq.{get_or-set_same, get_or-set_other, length-take-le, get_or-take}
use borrow.Author.Tests.{eq-eqb, ne_eqb}
use Rattle.algebra.specs.Choice.{choose, pick}
use Rattle.algebra.specs.Ring.{IsCommutativeRing}
use Rattle.algebra.specs.Matrix.{product, apply, transpose}
use Rattle.algebra.specs.Quasiinverse.{count, IsPivotInverse}
use Rattle.algebra.proofs.Choice.{pick_yes, pick_no}
use Rattle.algebra.proofs.Counts.{count_same}
use Rattle.algebra.proofs.Sums.{sum_same}
use Rattle.algebra.proofs.Transpose.{transposed}
use Rattle.algebra.proofs.Marked.{inverse_is}
use Rattle.checks.specs.Told.{results}
use Rattle.checks.specs.Outcome.{outcome}
use Rattle.checks.specs.Prime.{IsModulus}
use Rattle.field.specs.Residue.{Residue, reduce, residues, ◌⊗◌}
use Rattle.field.specs.View.{line}
use Rattle.field.specs.Written.{numbers, marks_of, marked}
use Rattle.field.proofs.Lines.{part_long, part_line}
use Rattle.field.proofs.Residues.{reduce_value, reduce_small}
use Rattle.field.proofs.Written.{get_d_tabulate, is_tabulate, length_tabulate, marked_yes, marked_no}
use Rattle.matrix_echelon.specs.Grid.{Readable}
use Rattle.matrix_echelon.specs.Reduced.{ReducedForm, RowsByPivot}
use Rattle.matrix_echelon.proofs.Grids.{grid_turned, readable_one}
use Rattle.ledger.specs.Decide.{combined?}
use Rattle.clash.specs.Decide.{agree?, given_inverse, equal?}
use Rattle.clash.specs.Calls.{frames_of, Agree, log_inverse, contradiction, combination_of, clashing, clash_of}
use Rattle.clash.specs.Parts.{Logged, turned_grid, WordRead}
use Rattle.clash.proofs.Frames.{table_number}
use Rattle.clash.proofs.Clashes.{F, FirstNotKept, contradiction_found, first_not_kept_once, kept_agree, unmet_contradicts}
use Rattle.clash.proofs.Words.{number_inside, carried_made}

-- row y, as the code lends it
abbrev lent_row : (n s y : ℕ) → List ℕ → List ℕ
lent_row n s y log = take (y * (n + s) + n - y * (n + s)) (drop (y * (n + s)) log)

module _ {p m n s : ℕ} {log : List ℕ} (k : Logged p m n s log) (y : ℕ) (row : y < m) where
  -- it lies in the log
  pub row_fits : y * (n + s) + n < length log
  row_fits = number_inside k y n row (omega (arith, k.s_count.0))

  pub turned_readable : Readable p (turned_grid m n s) log (lent_row n s y log) 1 1
  turned_readable =
      readable_one
      (record {
        is_modulus = k.is_modulus;
        rows_most = k.n_size.1;
        columns_most = k.m_most;
        inside = λ j i l h. omega (arith, number_inside k i j h (omega arith));
      })
      (λ t h. omega (arith, part_long log (y * (n + s)) n (omega (arith, row_fits))))

  -- what the worked rows carry is row y of A D
  module _ {r : ℕ} {e pivots at x : List ℕ} (f : ReducedForm p (turned_grid m n s) log (lent_row n s y log) 1 1 r e pivots)
      (b : RowsByPivot r pivots at) (read : WordRead m 1 0 at e x) (ok : IsModulus p) where
    ring : IsCommutativeRing (residues p)
    ring = (F p ok m n s log).ring

    same_inverse : transpose (residues p) f.rank.D ≡ log_inverse p ok m n s log
    unfolding transpose
    same_inverse =
        inverse_is (residues p) (F p ok m n s log) (combined? p ok) (given_inverse p ok n s m log)
        (transposed (residues p) ring
        (subst (λ X. IsPivotInverse (residues p) n m X f.rank.D f.rank.I f.rank.J)
        (grid_turned p (turned_grid m n s) log 0 (n + s) (λ i j. omega arith)) f.rank.inverse))

    -- the turned D applied to row y is row y times D
    turned_row : (t : ℕ) → apply (residues p) n f.rank.D (line p (lent_row n s y log) 0 1) t ≡ combination_of p ok m n s log y t
    unfolding apply product transpose combination_of line
    turned_row t =
        sum_same (residues p) n _ _
        (λ j l.
        ring.times_comm _ _
        ∙ ap₂ ◌⊗◌
        (part_line p log (y * (n + s)) n j l
        ∙ ap (λ q. reduce p (get_or log (y * (n + s) + q) 0)) (mul-one j)
        ∙ sym (table_number p m n s log y row j l))
        (λ q. same_inverse q j t))

    pub turned_combination : take m x ≡ numbers m (combination_of p ok m n s log y)
    turned_combination =
        is_tabulate m _ (take m x) (length-take-le m x (omega (arith, read.long, k.m_most)))
        (λ t l.
        get_or-take m x t 0 l
        ∙ read.each t l
        ∙ carried_made ok k.m_most (omega arith) f b 0 t (omega arith)
        ∙ ap (λ (a : Residue p). a.value) (turned_row t))

-- ---- what is selected

module _ (p : ℕ) (ok : IsModulus p) (m n s : ℕ) (log : List ℕ) where
  -- the position that was found is the definition's
  pub contradiction_is : {y : ℕ} → FirstNotKept p ok m n s log y → y ≡ contradiction p ok m n s log
  contradiction_is f = first_not_kept_once p ok m n s log f (contradiction_found p ok m n s log)

  module _ (y : ℕ) (same : y ≡ contradiction p ok m n s log) where
    found : FirstNotKept p ok m n s log y
    found = subst (FirstNotKept p ok m n s log) (sym same) (contradiction_found p ok m n s log)

    -- no frame contradicts the earlier ones
    pub none_selected : y ≡ m → outcome (results 0) (replicate m 0) ≡ clash_of p ok m n s log
    unfolding clash_of
    none_selected e =
        sym
        (pick_yes (agree? p ok n s (frames_of m n s log) m) _ _
        (kept_agree p ok m n s log m (omega arith) (λ i h. found.before i (omega arith))))

    -- frame y does: the marks that row y of A D gives, with y, are the definition's
    module _ (row : y < m) (u : List ℕ) (combined : u ≡ numbers m (combination_of p ok m n s log y)) where
      number_of : (t : ℕ) → t < m → get_or u t 0 ≡ (combination_of p ok m n s log y t).value
      number_of t l = ap (λ xs. get_or xs t 0) combined ∙ get_d_tabulate m _ t l

      -- the number at y becomes 1
      abbrev with_y : List ℕ
      with_y = set u y 1

      u_long : length u ≡ m
      u_long = ap length combined ∙ length_tabulate m _

      same_marks : (t : ℕ) → t < m → marked with_y t ≡ clashing p ok m n s log t
      unfolding clashing
      same_marks t l = go (ℕ_discrete t y) (equal? (combination_of p ok m n s log y t) (residues p).zero)
        where
          other : Bool
          other = pick (equal? (combination_of p ok m n s log y t) (residues p).zero) false true

          to_y : {b : Bool} → choose (eqb t y) true (pick (equal? (combination_of p ok m n s log y t) (residues p).zero) false true) ≡ b
              → b ≡ clashing p ok m n s log t
          to_y e =
              sym e
              ∙ ap (λ q. choose (eqb t q) true (pick (equal? (combination_of p ok m n s log q t) (residues p).zero) false true)) same

          at_t : (t ≡ y → ⊥) → get_or with_y t 0 ≡ (combination_of p ok m n s log y t).value
          at_t d = get_or-set_other u y t 1 0 d ∙ number_of t l

          go : Dec (t ≡ y) → Dec (combination_of p ok m n s log y t ≡ (residues p).zero) → marked with_y t ≡ clashing p ok m n s log t
          go (yes e) _ =
              marked_yes with_y t
              (λ z.
              let one : get_or with_y t 0 ≡ 1 = ap (λ q. get_or with_y q 0) e ∙ get_or-set_same u y 1 0 (omega (arith, u_long)) in
              omega arith)
              ∙ to_y (ap (λ b. choose b true other) (eq-eqb t y e))
          go (no d) (yes z) =
              marked_no with_y t (at_t d ∙ ap (λ (a : Residue p). a.value) z ∙ reduce_small p 0 (omega (arith, ok.prime.two_or_more)))
              ∙ to_y (ap (λ b. choose b true other) (ne_eqb t y d) ∙ pick_yes (equal? (combination_of p ok m n s log y t) (residues p).zero) false true z)
          go (no d) (no f) =
              marked_yes with_y t
              (λ z. f (sym (reduce_value (combination_of p ok m n s log y t)) ∙ ap (reduce p) (sym (at_t d) ∙ z)))
              ∙ to_y (ap (λ b. choose b true other) (ne_eqb t y d) ∙ pick_no (equal? (combination_of p ok m n s log y t) (residues p).zero) false true f)

      pub some_selected : (marks : List ℕ) (c : ℕ) → marks ≡ marks_of m (marked with_y) → c ≡ count m (marked with_y)
          → outcome (results c) marks ≡ clash_of p ok m n s log
      unfolding clash_of
      some_selected marks c e d =
          (λ q. outcome (results (counted q)) (written q))
          ∙ sym (pick_no (agree? p ok n s (frames_of m n s log) m) _ _ none)
        where
          counted : c ≡ count m (clashing p ok m n s log)
          counted = d ∙ count_same m (marked with_y) (clashing p ok m n s log) same_marks

          written : marks ≡ marks_of m (clashing p ok m n s log)
          written =
              e
              ∙ is_tabulate m _ (marks_of m (marked with_y)) (length_tabulate m _)
              (λ t l. get_d_tabulate m _ t l ∙ ap (λ b. choose b 1 0) (same_marks t l))

          none : Agree p n s (frames_of m n s log) (λ i. i < m) → ⊥
          none (x, met) =
              let (w, (l, f)) = found.differs row in
              unmet_contradicts p ok m n s log y w row l f (x, λ i h. met i (omega arith))
