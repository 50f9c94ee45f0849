-- The worked rows are reduced from the last one on: of any table from which they come they stay worked rows, and those from t on are 0
-- at all pivots but their own. When all are reduced, the rows are those of D A with D w behind them: the reduced form.
use mathlib.Core.Path.{◌≡◌, refl, sym, ap, ◌∙◌}
use mathlib.Core.Bool.{false}
use mathlib.Core.List.{List}
use Prim.Native.Nat.{ℕ, suc, ◌+◌, ◌-◌, ◌≤◌, ◌<◌}
use native.Mathlib.Decide.{dec_lt, ℕ_discrete}
use native.Mathlib.Omega.{arith}
use lib.Dec.{eqb}
use lib.ListN.{get_or, take}
use lib.Seq.{length-take-le, get_or-take}
use borrow.Author.Tests.{eq-eqb, ne_eqb}
use Rattle.algebra.specs.Choice.{choose}
use Rattle.algebra.specs.Ring.{IsCommutativeRing}
use Rattle.algebra.specs.Matrix.{Matrix, unit, product, apply, mixed}
use Rattle.algebra.specs.Echelon.{Worked, ReducedFrom, RowReduced, others}
use Rattle.algebra.proofs.Marks.{is_false}
use Rattle.algebra.proofs.Independent.{count_most}
use Rattle.algebra.proofs.Echelon.{pivot_below, pivots_differ}
use Rattle.algebra.proofs.EchelonReduced.{reduced_row, reduced_carried, others_at_pivot, row_reduced}
use Rattle.algebra.proofs.Sums.{unit_same, unit_other}
use Rattle.words.specs.Lengths.{longest_row}
use Rattle.field.specs.Residue.{reduce, residues, ◌⊕◌}
use Rattle.field.proofs.Field.{residues_ring}
use Rattle.matrix_echelon.specs.declared.Grid.{Grid}
use Rattle.matrix_echelon.specs.declared.pivots.Pivots.{Pivots}
use Rattle.matrix_echelon.specs.Grid.{wide}
use Rattle.matrix_echelon.specs.Group.{worked_rows, pivots_of, WorkedRoom}
use Rattle.matrix_echelon.specs.Forward.{Held}
use Rattle.matrix_echelon.specs.Reduced.{FirstFree, RowLessened, ReducedForm, Pivoting, RowsByPivot}
use Rattle.matrix_echelon.proofs.Groups.{one_not_zero}
use Rattle.matrix_echelon.proofs.Grids.{wide_cut, wide_behind, rank_worked}

-- e has become e', whose rows from t on are reduced
pub record RowsReduced (p width r t : ℕ) (pivots e e' : List ℕ) : Type 0 where
  pub room : WorkedRoom p e'
  pub rows :
      (m n : ℕ) (M : Matrix (residues p)) → Worked (residues p) m n width M r (worked_rows p e width) (pivots_of pivots)
      → Worked (residues p) m n width M r (worked_rows p e' width) (pivots_of pivots) × ReducedFrom (residues p) t r (worked_rows p e' width) (pivots_of pivots)

-- every column in front of `from` has a pivot
abbrev pub TakenBefore : (from r : ℕ) (pivots : List ℕ) → Type 0
TakenBefore from r pivots = (j : ℕ) → j < from → (s : ℕ) × ((s < r) × (get_or pivots s 0 ≡ j))

-- what is written in front of `from` is what the other rows make of the row there
module _ {p : ℕ} {v : Pivots} {from t m n : ℕ} {e e' : List ℕ} {M : Matrix (residues p)} (proper : 1 < p)
    (taken : TakenBefore from v.rank v.places.now) (w : Worked (residues p) m n v.width M v.rank (worked_rows p e v.width) (pivots_of v.places.now)) (l : t < v.rank)
    (after : ReducedFrom (residues p) (suc t) v.rank (worked_rows p e v.width) (pivots_of v.places.now)) (h : RowLessened p v from t e e') where
  ring : IsCommutativeRing (residues p)
  ring = residues_ring p (omega (arith, proper))

  unit_front : (j s : ℕ) → j < from → s < v.rank → get_or v.places.now s 0 ≡ j → worked_rows p e' v.width t j ≡ unit (residues p) s t
  unit_front j s b k at = ap (reduce p) (h.front j b) ∙ go (ℕ_discrete s t)
    where
      go : Dec (s ≡ t) → reduce p (choose (eqb j (get_or v.places.now t 0)) 1 0) ≡ unit (residues p) s t
      go (yes same) =
          ap (λ c. reduce p (choose c 1 0)) (eq-eqb j (get_or v.places.now t 0) (sym at ∙ ap (λ q. get_or v.places.now q 0) same))
          ∙ sym (unit_same (residues p) t)
          ∙ ap (λ q. unit (residues p) q t) (sym same)
      go (no differs) =
          ap (λ c. reduce p (choose c 1 0))
          (ne_eqb j (get_or v.places.now t 0) (λ same. differs (pivots_differ (residues p) ring (one_not_zero p proper) w s t k l (at ∙ same))))
          ∙ sym (unit_other (residues p) s t differs)

  pub lessened_reduced : RowReduced (residues p) v.width v.rank t (worked_rows p e v.width) (pivots_of v.places.now) (worked_rows p e' v.width)
  lessened_reduced = record { row = λ j b. row j b (dec_lt j from); rest = λ s j k d b. h.rest s j d b }
    where
      row : (j : ℕ) → j < v.width → Dec (j < from)
          → worked_rows p e' v.width t j
          ≡ worked_rows p e v.width t j
          ⊕ mixed (residues p) v.rank (others (residues p) t (worked_rows p e v.width) (pivots_of v.places.now)) (worked_rows p e v.width) j
      row j b (no k) = h.row j (omega arith) b
      row j b (yes k) =
          let (s, (c, at)) = taken j k in
          unit_front j s k c at
          ∙ sym (others_at_pivot (residues p) ring (one_not_zero p proper) w l after s c)
          ∙ ap (λ q.
          worked_rows p e v.width t q
          ⊕ mixed (residues p) v.rank (others (residues p) t (worked_rows p e v.width) (pivots_of v.places.now)) (worked_rows p e v.width) q) at

-- one row more
pub reduced_more : {p : ℕ} {v : Pivots} {from t : ℕ} {e e' e'' : List ℕ} → 1 < p → 0 < t → t ≤ v.rank → TakenBefore from v.rank v.places.now
    → RowsReduced p v.width v.rank t v.places.now e e'
    → RowLessened p v from (t - 1) e' e'' → RowsReduced p v.width v.rank (t - 1) v.places.now e e''
reduced_more {p} {v} {from} {t} {e} {e'} {e''} proper some most taken k h =
    record {
      room = h.room;
      rows = λ m n M w.
          let (w', after) = k.rows m n M w in
          let later : ReducedFrom (residues p) (suc (t - 1)) v.rank (worked_rows p e' v.width) (pivots_of v.places.now) = λ s q l b c. after s q l (omega arith) c in
          row_reduced (residues p) (residues_ring p (omega arith)) (one_not_zero p proper) w' (omega arith) later
          (lessened_reduced proper taken w' (omega arith) later h);
    }

module _ {p : ℕ} {g : Grid} {a w : List ℕ} {step carried r : ℕ} {e e' pivots : List ℕ} (proper : 1 < p)
    (h : Held p g g.rows a w step carried r e pivots) (k : RowsReduced p (g.columns + carried) r 0 pivots e e') where
  L : IsCommutativeRing (residues p)
  L = residues_ring p (omega (arith, proper))

  worked :
      Worked (residues p) g.rows g.columns (g.columns + carried) (wide p g a w step) r (worked_rows p e' (g.columns + carried)) (pivots_of pivots)
  worked = (k.rows g.rows g.columns (wide p g a w step) h.worked).0

  all_reduced : ReducedFrom (residues p) 0 r (worked_rows p e' (g.columns + carried)) (pivots_of pivots)
  all_reduced = (k.rows g.rows g.columns (wide p g a w step) h.worked).1

  pub reduced_form : ReducedForm p g a w step carried r e' pivots
  reduced_form =
      record {
        rank = rank_worked w step worked;
        below = k.room.below;
        long = k.room.long;
        pivots_long = h.room.pivots_long;
        pivots_below = pivot_below (residues p) L (one_not_zero p proper) worked;
        chosen = worked.chosen;
        found = worked.found;
        row = λ t j l b.
            reduced_row (residues p) L (one_not_zero p proper) worked all_reduced t l j b
            ∙ ap (λ X. product (residues p) g.rows worked.D X (pivots_of pivots t) j) (wide_cut p g a w step);
        carried = λ t u l b.
            reduced_carried (residues p) L (one_not_zero p proper) worked all_reduced t l (g.columns + u) (omega arith)
            ∙ ap (λ v. apply (residues p) g.rows worked.D v (pivots_of pivots t)) (wide_behind p g a w step u);
      }

-- in front of the first free column every column has a pivot
pub taken_before : {n r from : ℕ} {pivots at : List ℕ} → n ≤ longest_row → RowsByPivot r pivots at → FirstFree (take n at) from
    → TakenBefore from r pivots
taken_before {n} {r} {from} {pivots} {at} small k f j h = go (get_or at j 0) refl
  where
    in_front : j < n
    in_front = omega (arith, f.within, length-take-le n at (omega (arith, k.long)))

    go : (c : ℕ) → get_or at j 0 ≡ c → (s : ℕ) × ((s < r) × (get_or pivots s 0 ≡ j))
    go ℕ.zero e = absurd (f.taken j h (get_or-take n at j 0 in_front ∙ e))
    go (suc s) e = (s, k.row j s e)

-- what the reduced form says of the pivots: they lie in the longest row, and a column where none stands is outside I
module _ {p : ℕ} {g : Grid} {a w : List ℕ} {step carried r : ℕ} {e pivots : List ℕ} (f : ReducedForm p g a w step carried r e pivots) where
  pub reduced_pivoting : g.columns ≤ longest_row → Pivoting r pivots
  reduced_pivoting most =
      record {
        long = f.pivots_long;
        few = omega (arith, f.rank.rank, count_most g.columns f.rank.I);
        inside = λ t l. omega (arith, f.pivots_below t l);
      }

  pub no_pivot_outside : (c : ℕ) → ((t : ℕ) → t < r → get_or pivots t 0 ≡ c → ⊥) → f.rank.I c ≡ false
  no_pivot_outside c none = is_false (f.rank.I c) (λ b. let (t, (l, d)) = f.found c b in none t l d)
