-- Substituting back. From the last worked row on the number at each pivot is that of D w, whatever table the rows come from; the other
-- numbers are 0. One row more has its number at its pivot. After the first row the list is D w, since D is 0 outside the pivots.
use mathlib.Core.Path.{◌≡◌, sym, ap, ◌∙◌, fun_ext}
use mathlib.Core.Bool.{true, false}
use mathlib.Core.List.{List}
use Prim.Native.Nat.{ℕ, ◌+◌, ◌*◌, ◌≤◌, ◌<◌}
use native.Mathlib.Nat.{add-zero}
use native.Mathlib.Decide.{ℕ_discrete}
use native.Mathlib.Omega.{arith}
use lib.ListN.{length, get_or, set, length-set}
use lib.Seq.{get_or-set_same, get_or-set_other}
use Rattle.algebra.specs.Ring.{IsCommutativeRing}
use Rattle.algebra.specs.Matrix.{Matrix, sum, apply}
use Rattle.algebra.specs.Echelon.{Worked}
use Rattle.algebra.proofs.Sums.{sum_same}
use Rattle.algebra.proofs.Marks.{by_test}
use Rattle.algebra.proofs.Counts.{true_not_false}
use Rattle.algebra.proofs.Applied.{zero_row_apply}
use Rattle.algebra.proofs.Echelon.{pivots_differ}
use Rattle.algebra.proofs.EchelonReduced.{back_substituted}
use Rattle.words.specs.Words.{Below}
use Rattle.field.specs.Residue.{Residue, reduce, residues, ◌⊕◌, ◌⊗◌, negated}
use Rattle.field.specs.View.{line}
use Rattle.field.specs.Products.{sum_of_products}
use Rattle.field.specs.Written.{numbers}
use Rattle.field.proofs.Residues.{reduce_of_value, below_of_value, value_unique}
use Rattle.field.proofs.Field.{residues_ring}
use Rattle.field.proofs.Written.{is_tabulate}
use Rattle.matrix_mul.proofs.PlaceRows.{IsPart}
use Rattle.matrix_echelon.specs.declared.Grid.{Grid}
use Rattle.matrix_echelon.specs.Grid.{wide}
use Rattle.matrix_echelon.specs.Group.{worked_rows, pivots_of}
use Rattle.matrix_echelon.specs.Forward.{Held}
use Rattle.matrix_echelon.specs.Reduced.{SolutionFound}
use Rattle.matrix_echelon.proofs.Groups.{one_not_zero}
use Rattle.matrix_echelon.proofs.Grids.{wide_carried, rank_worked}

-- z is D w at the pivots of the worked rows from t on, and 0 elsewhere
pub record SolvedFrom (p n r t : ℕ) (e pivots z : List ℕ) : Type 0 where
  pub long : length z ≡ n
  pub below : Below p z
  pub at_pivot :
      (m : ℕ) (M : Matrix (residues p)) (k : Worked (residues p) m n (n + 1) M r (worked_rows p e (n + 1)) (pivots_of pivots)) (s : ℕ)
      → t ≤ s → s < r → reduce p (get_or z (get_or pivots s 0) 0) ≡ apply (residues p) m k.D (λ i. M i n) (get_or pivots s 0)
  pub elsewhere : (c : ℕ) → c < n → ((s : ℕ) → t ≤ s → s < r → get_or pivots s 0 ≡ c → ⊥) → get_or z c 0 ≡ 0

-- what the code adds up: the numbers of a worked row times those of z
row_sum : (p n t : ℕ) (e row z : List ℕ) → IsPart e (t * (n + 1)) n row
    → sum_of_products p row z 0 1
    ≡ sum (residues p) n (λ j. worked_rows p e (n + 1) t j ⊗ reduce p (get_or z j 0))
unfolding line
row_sum p n t e row z part =
    ap (λ k. sum (residues p) k (λ j. line p row 0 1 j ⊗ line p z 0 1 j)) part.long
    ∙ sum_same (residues p) n _ _
    (λ j h.
    let place : 0 + j * 1 ≡ j = omega arith in
    ap (λ q. reduce p (get_or row q 0) ⊗ reduce p (get_or z q 0)) place
    ∙ ap (λ y. reduce p y ⊗ reduce p (get_or z j 0)) (part.same j h))

-- row t has its number x - y at its pivot, with the carried number x and the sum y
module _ {p n r t : ℕ} {e pivots z row : List ℕ} {y v : ℕ} (proper : 1 < p) (one_of_lem : t < r) (inside : get_or pivots t 0 < n)
    (k : SolvedFrom p n r (t + 1) e pivots z) (part : IsPart e (t * (n + 1)) n row)
    (is_sum : y ≡ (sum_of_products p row z 0 1).value)
    (is_number : v ≡ (worked_rows p e (n + 1) t n ⊕ negated (reduce p y)).value) where
  L : IsCommutativeRing (residues p)
  L = residues_ring p (omega (arith, proper))

  abbrev at : ℕ
  at = get_or pivots t 0

  here : get_or (set z at v) at 0 ≡ v
  here = get_or-set_same z at v 0 (omega (arith, k.long))

  other : (c : ℕ) → (c ≡ at → ⊥) → get_or (set z at v) c 0 ≡ get_or z c 0
  other c d = get_or-set_other z at c v 0 d

  below : Below p (set z at v)
  below c h = by_place (ℕ_discrete c at)
    where
      by_place : Dec (c ≡ at) → get_or (set z at v) c 0 < p
      by_place (yes d) =
          rw (ap (λ q. get_or (set z at v) q 0) d ∙ here) (below_of_value (omega arith) (worked_rows p e (n + 1) t n ⊕ negated (reduce p y)) is_number)
      by_place (no d) = rw (other c d) (k.below c (omega (arith, length-set z at v)))

  module _ (m : ℕ) (M : Matrix (residues p)) (w : Worked (residues p) m n (n + 1) M r (worked_rows p e (n + 1)) (pivots_of pivots)) where
    abbrev solution : ℕ → Residue p
    solution = apply (residues p) m w.D (λ i. M i n)

    own : reduce p v ≡ solution at
    own =
        reduce_of_value _ is_number
        ∙ ap (λ q. worked_rows p e (n + 1) t n ⊕ negated q) (reduce_of_value _ is_sum ∙ row_sum p n t e row z part)
        ∙ sym
        (back_substituted (residues p) L (one_not_zero p proper) w n (omega arith) (λ j. reduce p (get_or z j 0)) t one_of_lem
        (λ s h l. k.at_pivot m M w s (omega arith) l)
        (λ c h f. ap (reduce p) (k.elsewhere c h (λ s b l. f s (omega arith) l))))

    at_pivot : (s : ℕ) → t ≤ s → s < r → Dec (s ≡ t) → reduce p (get_or (set z at v) (get_or pivots s 0) 0) ≡ solution (get_or pivots s 0)
    at_pivot s h l (yes d) =
        ap (λ q. reduce p (get_or (set z at v) (get_or pivots q 0) 0)) d
        ∙ ap (reduce p) here
        ∙ own
        ∙ ap (λ q. solution (get_or pivots q 0)) (sym d)
    at_pivot s h l (no d) =
        ap (reduce p) (other (get_or pivots s 0) (λ q. d (pivots_differ (residues p) L (one_not_zero p proper) w s t l one_of_lem q)))
        ∙ k.at_pivot m M w s (omega arith) l

  pub solved_more : SolvedFrom p n r t e pivots (set z (get_or pivots t 0) v)
  solved_more =
      record {
        long = length-set z at v ∙ k.long;
        below = below;
        at_pivot = λ m M w s h l. at_pivot m M w s h l (ℕ_discrete s t);
        elsewhere = λ c h f.
            other c (λ q. f t (omega arith) one_of_lem (sym q)) ∙ k.elsewhere c h (λ s b l. f s (omega arith) l);
      }

-- all rows are done
module _ {p m n : ℕ} {M : Matrix (residues p)} {r : ℕ} {e pivots z : List ℕ} (positive : 0 < p)
    (w : Worked (residues p) m n (n + 1) M r (worked_rows p e (n + 1)) (pivots_of pivots)) (k : SolvedFrom p n r 0 e pivots z) where
  solved_at : (c : ℕ) → c < n → reduce p (get_or z c 0) ≡ apply (residues p) m w.D (λ i. M i n) c
  solved_at c h = by_test (w.I c) pivot outside
    where
      pivot : w.I c ≡ true → reduce p (get_or z c 0) ≡ apply (residues p) m w.D (λ i. M i n) c
      pivot b =
          let (s, (l, q)) = w.found c b in
          rw q at (k.at_pivot m M w s (omega arith) l)

      outside : w.I c ≡ false → reduce p (get_or z c 0) ≡ apply (residues p) m w.D (λ i. M i n) c
      outside b =
          ap (reduce p) (k.elsewhere c h (λ s o l q. true_not_false (ap w.I (sym q) ∙ w.chosen s l) b))
          ∙ sym (zero_row_apply (residues p) (residues_ring p positive) m w.D (λ i. M i n) c (λ t l. w.inverse.row_outside c t b))

  all_solved : z ≡ numbers n (apply (residues p) m w.D (λ i. M i n))
  all_solved = is_tabulate n _ z k.long (λ c h. value_unique p _ _ (k.below c (omega (arith, k.long))) (solved_at c h))

pub solution_found : {p : ℕ} {g : Grid} {a w : List ℕ} {step r : ℕ} {e pivots z : List ℕ} → 0 < p
    → Held p g g.rows a w step 1 r e pivots → SolvedFrom p g.columns r 0 e pivots z → SolutionFound p g a w step r z
solution_found {p} {g} {a} {w} {step} positive h k =
    record {
      rank = rank_worked w step h.worked;
      is_solution =
          all_solved positive h.worked k
          ∙ ap (λ x. numbers g.columns (apply (residues p) g.rows h.worked.D x)) (fun_ext carried);
    }
  where
    -- the column behind the table is the carried one
    carried : (i : ℕ) → wide p g a w step i g.columns ≡ line p w 0 step i
    carried i = ap (wide p g a w step i) (sym (add-zero g.columns)) ∙ wide_carried p g a w step i 0
