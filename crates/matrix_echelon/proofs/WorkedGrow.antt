-- A row becomes the next worked row: what is left once it is scaled, its group is cleared at its pivot, and it is put behind the others.
use mathlib.Core.Path.{◌≡◌, sym, ap, subst, ◌∙◌}
use mathlib.Core.List.{List}
use Prim.Native.Nat.{ℕ, ◌+◌, ◌*◌, ◌/◌, ◌≤◌, ◌<◌}
use native.Mathlib.Omega.{arith}
use lib.ListN.{length, get_or, set, length-set}
use lib.Seq.{get_or-set_same, get_or-set_other}
use Rattle.algebra.specs.Echelon.{Grown}
use Rattle.words.specs.Words.{Below, PutAt}
use Rattle.field.specs.Residue.{reduce, residues, ◌⊕◌, ◌⊗◌, negated}
use Rattle.field.proofs.Residues.{reduce_of_value, below_of_value}
use Rattle.matrix_echelon.specs.Group.{worked_rows, pivots_of}
use Rattle.matrix_echelon.specs.Worked.{Scaled, GroupClearable, GroupCleared, Growable, RowGrown}
use Rattle.matrix_echelon.proofs.WorkedMultiples.{scaled_zero}
use Rattle.matrix_echelon.proofs.WorkedClear.{row_inside, row_before, put_below}

-- a scaled row is below p, begins at the same place, and can clear its group there
module _ {p s : ℕ} {x x' : List ℕ} {v r : ℕ} {e : List ℕ} (can : GroupClearable p x v r e) (scaled : Scaled p s x x') where
  scaled_below : Below p x'
  scaled_below j h =
      below_of_value can.leading.positive (reduce p s ⊗ reduce p (get_or x j 0)) (scaled.each j (omega (arith, scaled.same_length)))

  pub scaled_clearable : GroupClearable p x' v r e
  scaled_clearable =
      record {
        leading =
            record {
              positive = can.leading.positive;
              in_range = can.leading.in_range;
              below = scaled_below;
              within = omega (arith, can.leading.within, scaled.same_length);
              zeros =
                  λ j h. let z = can.leading.zeros j h in
                  scaled.each j (omega (arith, can.leading.within)) ∙ sym (scaled_zero p s _ can.leading.positive z) ∙ z;
            };
        narrow = omega (arith, can.narrow, scaled.same_length);
        in_row = omega (arith, can.in_row, scaled.same_length);
        few = can.few;
        room = can.room;
      }

-- a row that clears its group fits the room behind it
pub row_fits : {p : ℕ} {x : List ℕ} {v r : ℕ} {e e' : List ℕ} → GroupClearable p x v r e → GroupCleared p x v r e e'
    → r * length x + length x ≤ length e'
row_fits {x = x} {r = r} can cleared = omega (arith, row_inside r (length x) can.few can.narrow, cleared.room.long)

-- the row x, scaled to x', has cleared its group and stands as row r
module _ {p s : ℕ} {x x' : List ℕ} {v r : ℕ} {e e' pivots : List ℕ} (e'' : List ℕ) (can : Growable p x v r e pivots) (scaled : Scaled p s x x')
    (cleared : GroupCleared p x' v r e e') (put : PutAt x' (r * length x') e' e'') where
  new_row : (j : ℕ) → j < length x' → worked_rows p e'' (length x') r j ≡ reduce p (get_or x' j 0)
  new_row j h = ap (reduce p) (put.1 j h)

  earlier_row : (t j : ℕ) → t < r → j < length x' → worked_rows p e'' (length x') t j ≡ worked_rows p e' (length x') t j
  earlier_row t j h l = ap (reduce p) (put.2 (t * length x' + j) (row_before t r (length x') j h l))

  grown_rows :
      (width : ℕ) → length x' ≡ width
      → Grown (residues p) width r v (reduce p s) (λ j. reduce p (get_or x j 0)) (worked_rows p e (length x')) (pivots_of pivots)
      (worked_rows p e'' (length x')) (pivots_of (set pivots r v))
  grown_rows width long =
      record {
        new = λ j h. new_row j (omega arith) ∙ reduce_of_value _ (scaled.each j (omega (arith, scaled.same_length)));
        group =
            λ t j h l g.
            earlier_row t j h (omega arith)
            ∙ cleared.group t j h l (omega arith)
            ∙ ap (λ y. worked_rows p e (length x') t j ⊕ negated (worked_rows p e (length x') t v) ⊗ y) (sym (new_row j (omega arith)));
        earlier =
            λ t j h g.
            earlier_row t j (omega arith) (omega arith)
            ∙ ap (reduce p) (cleared.before (t * length x' + j) (row_before t (r / 4 * 4) (length x') j h (omega arith)));
        new_pivot = get_or-set_same pivots r v 0 (omega (arith, can.clearable.few, can.pivots_long));
        pivots = λ t h. get_or-set_other pivots r t v 0 (omega arith);
      }

  pub row_grown : reduce p (get_or x v 0) ⊗ reduce p s ≡ reduce p 1 → RowGrown p x v r e pivots e'' (set pivots r v)
  row_grown one =
      record {
        room =
            record {
              long = put.0 ∙ cleared.room.long;
              below =
                  put_below p x' (r * length x') e' e'' (scaled_below can.clearable scaled) cleared.room.below put;
            };
        pivots_long = length-set pivots r v ∙ can.pivots_long;
        factor = reduce p s;
        to_one = one;
        grown =
            λ width long.
            let wide : length x' ≡ width = scaled.same_length ∙ long in
            subst
            (λ w.
            Grown (residues p) width r v (reduce p s) (λ j. reduce p (get_or x j 0)) (worked_rows p e w) (pivots_of pivots) (worked_rows p e'' w)
            (pivots_of (set pivots r v)))
            wide
            (grown_rows width wide);
      }
