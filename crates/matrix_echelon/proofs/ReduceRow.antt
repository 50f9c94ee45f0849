-- A worked row is made 0 at the pivots of the others: its part from `from` on is copied out, the combination of the rows is added to
-- the copy, and the copy is put back; in front of it a unit row is written; the other rows stay.
use mathlib.Core.Path.{◌≡◌, sym, ap, ◌∙◌}
use mathlib.Core.Bool.{Bool, true, false}
use mathlib.Core.List.{List, ◌++◌}
use Prim.Native.Nat.{ℕ, ◌+◌, ◌*◌, ◌-◌, ◌≤◌, ◌<◌}
use native.Mathlib.Nat.{mul-le-mul, le_refl}
use native.Mathlib.Decide.{dec_lt}
use native.Mathlib.Omega.{arith}
use lib.ListN.{length, get_or, take, drop, length-append}
use lib.Seq.{length-take-le, get_or-take, take_at}
use lib.Dec.{eqb}
use Rattle.algebra.specs.Choice.{choose}
use Rattle.algebra.specs.Matrix.{sum, mixed}
use Rattle.algebra.specs.Echelon.{others}
use Rattle.algebra.proofs.Sums.{sum_same}
use Rattle.words.specs.Lengths.{widest_row}
use Rattle.words.specs.Words.{Below, Zeros, Copied, PutAt}
use Rattle.words.proofs.Parts.{taken_below}
use Rattle.field.specs.Residue.{Residue, reduce, residues, ◌⊕◌, ◌⊗◌}
use Rattle.field.specs.View.{line}
use Rattle.field.specs.Products.{sum_of_products}
use Rattle.field.proofs.Residues.{reduce_of_value, below_of_value}
use Rattle.matrix_mul.specs.Rows.{Combinable, CombinedInto, Passes}
use Rattle.matrix_mul.proofs.RowsTaken.{each_passes}
use Rattle.matrix_echelon.specs.declared.pivots.Pivots.{Pivots}
use Rattle.matrix_echelon.specs.Group.{worked_rows, pivots_of}
use Rattle.matrix_echelon.specs.Reduced.{Lookable, Reducible, Multipliers, UnitWritten, RowLessened}
use Rattle.matrix_echelon.proofs.WorkedClear.{row_inside, row_before, put_below}

-- the worked rows lie in the room
pub looked_inside : {p : ℕ} {v : Pivots} {t : ℕ} {e : List ℕ} → Lookable p v t e → (s : ℕ) → s < v.rank
    → s * v.width + v.width ≤ length e
looked_inside {v = v} can s h =
    omega (arith, row_inside s v.width (omega (arith, v.placed.few)) v.placed.narrow, can.rows_in.long)

-- the copy x of row t from `from` on, `len` numbers, in front of a longer list
module _ {p : ℕ} {v : Pivots} {from t : ℕ} {next e by room x : List ℕ} (can : Reducible p v from t next e) (found : Multipliers p v t e by)
    (empty : Zeros widest_row room) (copied : Copied e (t * v.width + from) (v.width - from) room x) where
  abbrev len : ℕ
  len = v.width - from

  parts : from + len ≡ v.width
  parts = omega (arith, can.within)

  pub by_long : length (take v.rank by) ≡ v.rank
  by_long = length-take-le v.rank by (omega (arith, found.long, v.placed.few))

  pub copy_long : length (take len x) ≡ len
  copy_long = length-take-le len x (omega (arith, copied.same_length, empty.0, v.placed.narrow, parts))

  -- the combination of the rows can be added to it
  pub combinable : Combinable p (take v.rank by) e (record { start = from; stride = v.width }) (take len x)
  combinable =
      record {
        positive = can.lookable.positive;
        in_range = can.lookable.in_range;
        few = omega (arith, by_long, v.placed.few);
        narrow = omega (arith, copy_long, v.placed.narrow, parts);
        by_below = taken_below p by v.rank found.below;
        table_below = can.lookable.rows_in.below;
        inside = λ s h. omega (arith, looked_inside can.lookable s (omega (arith, by_long)), copy_long, parts);
      }

  pub passes : Passes (length (take v.rank by)) next (record { start = from; stride = v.width }) (length (take len x)) e
  passes = each_passes (omega (arith, by_long, v.placed.few)) can.through

  -- y is the row with the combination added
  module _ (y : List ℕ) (combined : CombinedInto p (take v.rank by) e from v.width (take len x) y) where
    y_long : length y ≡ len
    y_long = combined.0 ∙ copy_long

    y_below : Below p y
    y_below j h = below_of_value can.lookable.positive (sum_at_lem j) (combined.1 j (omega (arith, combined.0)))
      where
        sum_at_lem : ℕ → Residue p
        sum_at_lem j = reduce p (get_or (take len x) j 0) ⊕ sum_of_products p (take v.rank by) e (from + j) v.width

    whole : take len (y ++ drop len x) ≡ y
    whole = take_at y (drop len x) len y_long

    -- it comes as the front of the longer list, and has its place among the worked rows
    pub back_long : length (take len (y ++ drop len x)) ≡ len
    back_long = ap length whole ∙ y_long

    pub back_short : len ≤ length (y ++ drop len x)
    back_short = omega (arith, length-append y (drop len x), y_long)

    pub back_inside : t * v.width + from + length (take len (y ++ drop len x)) ≤ length e
    back_inside = omega (arith, back_long, looked_inside can.lookable t can.lookable.one_of, parts)

    copy_at : (j : ℕ) → j < len → reduce p (get_or (take len x) j 0) ≡ worked_rows p e v.width t (from + j)
    copy_at j h =
        let place : t * v.width + from + j ≡ t * v.width + (from + j) = omega arith in
        ap (reduce p) (get_or-take len x j 0 h ∙ copied.front j h ∙ ap (λ q. get_or e q 0) place)

    added : (j : ℕ) → sum_of_products p (take v.rank by) e (from + j) v.width
        ≡ mixed (residues p) v.rank (others (residues p) t (worked_rows p e v.width) (pivots_of v.places.now)) (worked_rows p e v.width) (from + j)
    unfolding line mixed
    added j =
        ap (λ k. sum (residues p) k (λ s. line p (take v.rank by) 0 1 s ⊗ line p e (from + j) v.width s)) by_long
        ∙ sum_same (residues p) v.rank _ _ each
      where
        each : (s : ℕ) → s < v.rank
            → line p (take v.rank by) 0 1 s ⊗ line p e (from + j) v.width s
            ≡ others (residues p) t (worked_rows p e v.width) (pivots_of v.places.now) s ⊗ worked_rows p e v.width s (from + j)
        each s h =
            let first : 0 + s * 1 ≡ s = omega arith in
            let place : from + j + s * v.width ≡ s * v.width + (from + j) = omega arith in
            ap (λ n. reduce p (get_or (take v.rank by) n 0) ⊗ reduce p (get_or e (from + j + s * v.width) 0)) first
            ∙ ap (λ n. reduce p n ⊗ reduce p (get_or e (from + j + s * v.width) 0)) (get_or-take v.rank by s 0 h)
            ∙ ap (λ m. m ⊗ reduce p (get_or e (from + j + s * v.width) 0)) (found.each s h)
            ∙ ap (λ n. others (residues p) t (worked_rows p e v.width) (pivots_of v.places.now) s ⊗ reduce p (get_or e n 0)) place

    -- it is put back, and a unit row is written in front of it
    module _ (e₁ e' : List ℕ) (put : PutAt (take len (y ++ drop len x)) (t * v.width + from) e e₁)
        (unit : UnitWritten (get_or v.places.now t 0) from (t * v.width) e₁ e') where
      put_row : PutAt y (t * v.width + from) e e₁
      put_row = rw whole at put

      behind : (j : ℕ) → j < len → get_or e' (t * v.width + (from + j)) 0 ≡ get_or y j 0
      behind j h =
          let place : t * v.width + (from + j) ≡ t * v.width + from + j = omega arith in
          unit.behind (t * v.width + (from + j)) (omega arith) ∙ ap (λ q. get_or e₁ q 0) place ∙ put_row.1 j (omega (arith, y_long))

      row : (j : ℕ) → j < len
          → worked_rows p e' v.width t (from + j)
          ≡ worked_rows p e v.width t (from + j)
          ⊕ mixed (residues p) v.rank (others (residues p) t (worked_rows p e v.width) (pivots_of v.places.now)) (worked_rows p e v.width) (from + j)
      row j h =
          ap (reduce p) (behind j h)
          ∙ reduce_of_value _ (combined.1 j (omega (arith, copy_long)))
          ∙ ap (λ z. z ⊕ sum_of_products p (take v.rank by) e (from + j) v.width) (copy_at j h)
          ∙ ap (λ z. worked_rows p e v.width t (from + j) ⊕ z) (added j)

      rest : (s j : ℕ) → (s ≡ t → ⊥) → j < v.width → worked_rows p e' v.width s j ≡ worked_rows p e v.width s j
      rest s j d h = ap (reduce p) (by_place (dec_lt s t))
        where
          by_place : Dec (s < t) → get_or e' (s * v.width + j) 0 ≡ get_or e (s * v.width + j) 0
          by_place (yes l) =
              let b = row_before s t v.width j l h in
              unit.before (s * v.width + j) b ∙ put_row.2 (s * v.width + j) (omega (arith, b))
          by_place (no l) =
              let later : t + 1 ≤ s = omega arith in
              let b = mul-le-mul later (le_refl v.width) in
              unit.behind (s * v.width + j) (omega (arith, b, parts)) ∙ put_row.3 (s * v.width + j) (omega (arith, y_long, b, parts))

      one_below : (b : Bool) → 1 < p → choose b 1 0 < p
      one_below true h = h
      one_below false h = omega arith

      below : Below p e'
      below q h = by_place (dec_lt q (t * v.width)) (dec_lt q (t * v.width + from))
        where
          old : Below p e₁
          old = put_below p y (t * v.width + from) e e₁ y_below can.lookable.rows_in.below put_row

          by_place : Dec (q < t * v.width) → Dec (q < t * v.width + from) → get_or e' q 0 < p
          by_place (yes l) b = rw (unit.before q l) (old q (omega (arith, unit.same_length)))
          by_place (no l) (yes b) =
              let place : t * v.width + (q - t * v.width) ≡ q = omega arith in
              rw (sym place) (rw (unit.each (q - t * v.width) (omega arith)) (one_below (eqb (q - t * v.width) (get_or v.places.now t 0)) can.proper))
          by_place (no l) (no b) = rw (unit.behind q (omega arith)) (old q (omega (arith, unit.same_length)))

      pub row_lessened : RowLessened p v from t e e'
      row_lessened =
          record {
            room = record { long = unit.same_length ∙ put_row.0 ∙ can.lookable.rows_in.long; below = below };
            row = λ j a h.
                let place : from + (j - from) ≡ j = omega arith in
                rw (sym place) (row (j - from) (omega (arith, parts)));
            front = unit.each;
            rest = rest;
          }
