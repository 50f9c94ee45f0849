-- A group of four worked rows that is added to the sums of limbs: the rows lie in their memory, the limbs have room for them, and
-- the row that the limbs stand for has the group added, each row with the multiplier found at its pivot.
use mathlib.Core.Path.{◌≡◌, sym, ap, ap₂, ◌∙◌, subst}
use mathlib.Core.List.{List}
use Prim.Native.Nat.{ℕ, zero, suc, ◌+◌, ◌*◌, ◌≤◌, ◌<◌}
use native.Mathlib.Nat.{mul-zero, zero-mul}
use native.Mathlib.Decide.{dec_lt}
use native.Mathlib.Omega.{arith}
use lib.ListN.{length, get_or}
use mir.Val.{Fits}
use mir.Syntax.{w64}
use Rattle.algebra.specs.Ring.{IsCommutativeRing}
use Rattle.algebra.specs.Matrix.{Vector, mixed, sum}
use Rattle.algebra.specs.Echelon.{ClearedTo, GroupAdded, Leading}
use Rattle.algebra.proofs.Cleared as cleared
use Rattle.algebra.proofs.Rings as rings
use Rattle.checks.specs.Prime.{largest_modulus}
use Rattle.words.specs.Lengths.{widest_row}
use Rattle.field.specs.Residue.{Residue, reduce, residues, ◌⊕◌, ◌⊗◌}
use Rattle.field.specs.Limbs.{limb_base}
use Rattle.field.proofs.Residues.{reduce_plus, reduce_times, reduce_zero, nonzero_of_positive}
use Rattle.field.proofs.Field.{residues_ring}
use Rattle.field.proofs.Limbs.{Within, within_zero, within_one, within_more, within_low, within_high, within_fits, whole_add, number_fits}
use Rattle.matrix_mul.specs.declared.limbs.Limbs.{Limbs}
use Rattle.matrix_mul.specs.declared.rows.Row.{Row}
use Rattle.matrix_mul.specs.declared.rows.Four.{Four}
use Rattle.matrix_mul.specs.Rows.{Short, Inside, FourInside, NothingBefore, Ready, Added, product_at, four_at, whole_at}
use Rattle.matrix_mul.proofs.RowsTaken.{below_shorts, quarter_product, four_fit}
use Rattle.matrix_echelon.specs.declared.pivots.Pivots.{Pivots}
use Rattle.matrix_echelon.specs.Group.{WorkedRoom, IsPivotRow, GroupTaken, GroupsCleared, Clearable, row_in, worked_rows}
use Rattle.matrix_echelon.specs.Group.{pivots_of}
use Rattle.matrix_echelon.proofs.WorkedClear.{row_inside}

-- 1 is not 0 modulo p
pub one_not_zero : (p : ℕ) → 1 < p → reduce p 1 ≡ reduce p 0 → ⊥
one_not_zero p h = nonzero_of_positive p 1 (omega arith) h

-- at their first `width` places s has sums of at most k limbs
pub record LimbsWithin (k width : ℕ) (s : Limbs) : Type 0 where
  pub low_within : (j : ℕ) → j < width → Within k (get_or s.lo j 0)
  pub high_within : (j : ℕ) → j < width → Within k (get_or s.hi j 0)

pub limbs_fresh : {p width r : ℕ} {e pivots : List ℕ} {s : Limbs} → Clearable p width r e pivots s → LimbsWithin 1 width s
limbs_fresh c =
    record {
      low_within = λ j h. within_one _ (c.small j (omega arith));
      high_within = λ j h. rw (c.fresh j) (within_more 0 1 0 (omega arith) within_zero);
    }

pub limbs_ready : {k width : ℕ} {s : Limbs} → k ≤ limb_base → width ≤ widest_row → LimbsWithin k width s → Ready width s
limbs_ready {k} b w l =
    record {
      small = w;
      fits_lo = λ j h. within_fits k _ b (l.low_within j h);
      fits_hi = λ j h. within_fits k _ b (l.high_within j h);
    }

module _ (p : ℕ) (e : List ℕ) (v : Pivots) (positive : 0 < p) (in_range : p ≤ largest_modulus) (room : WorkedRoom p e)
    {g : ℕ} {s : Limbs} {four : Four} (taken : GroupTaken p v g s four)
  where
    -- a row with its multiplier lies in the memory of the worked rows
    row_inside_lem : {t : ℕ} {row : Row} → IsPivotRow p v t s row → Inside v.width e row
    unfolding Short
    row_inside_lem {t} {row} i = record { short = omega (arith, i.below); in_table = place (dec_lt t v.rank) }
      where
        place : Dec (t < v.rank) → row.at + v.width ≤ length e
        place (yes h) = omega (arith, i.place h, room.long, row_inside t v.width (omega (arith, v.placed.few)) v.placed.narrow)
        place (no h) = omega (arith, i.first (omega arith), room.long, v.placed.narrow)

    pub four_inside : FourInside v.width e four
    four_inside =
        record {
          table_short = below_shorts p e in_range room.below;
          first = row_inside_lem taken.row_a;
          second = row_inside_lem taken.row_b;
          third = row_inside_lem taken.row_c;
          fourth = row_inside_lem taken.row_d;
        }

    four_fits : (j : ℕ) → Fits w64 (four_at e four j)
    unfolding four_at product_at
    four_fits j =
        let i = four_inside in
        number_fits _
        (four_fit _ _ _ _ (quarter_product _ _ i.first.short (i.table_short _)) (quarter_product _ _ i.second.short (i.table_short _))
        (quarter_product _ _ i.third.short (i.table_short _)) (quarter_product _ _ i.fourth.short (i.table_short _)))

    -- in front of the least pivot of the group its rows are 0
    pub nothing_before : {least : ℕ} → least ≤ v.width
        → ((t : ℕ) → g ≤ t → t < g + 4 → t < v.rank → least ≤ pivots_of v.places.now t)
        → Leading (residues p) v.rank (worked_rows p e v.width) (pivots_of v.places.now)
        → NothingBefore v.width least e four
    unfolding four_at product_at
    nothing_before {least} in_width none leading =
        record {
          within = in_width;
          nothing = λ j h.
              omega (
                arith,
                product_none taken.row_a (omega arith) (omega arith) j h,
                product_none taken.row_b (omega arith) (omega arith) j h,
                product_none taken.row_c (omega arith) (omega arith) j h,
                product_none taken.row_d (omega arith) (omega arith) j h,
              );
        }
      where
        product_none : {t : ℕ} {row : Row} → IsPivotRow p v t s row → g ≤ t → t < g + 4 → (j : ℕ) → j < least
            → product_at e row j ≡ 0
        product_none {t} {row} i a b j h = at (dec_lt t v.rank)
          where
            at : Dec (t < v.rank) → row.times * get_or e (row.at + j) 0 ≡ 0
            at (yes k) =
                let room_for = row_inside t v.width (omega (arith, v.placed.few)) v.placed.narrow in
                let in_row : j < pivots_of v.places.now t = omega (arith, none t a b k) in
                let blank : get_or e (t * v.width + j) 0 ≡ 0 =
                reduce_zero p _ (room.below _ (omega (arith, room.long, room_for, v.placed.inside t k))) (leading t j k in_row)
                in
                ap (λ q. row.times * get_or e (q + j) 0) (i.place k) ∙ ap (λ m. row.times * m) blank ∙ mul-zero row.times
            at (no k) = ap (λ m. m * get_or e (row.at + j) 0) (i.no_multiplier (omega arith)) ∙ zero-mul (get_or e (row.at + j) 0)

    -- the limbs with the group added
    pub limbs_more : {k : ℕ} {s' : Limbs} → LimbsWithin k v.width s → Added v.width (four_at e four) s s' → LimbsWithin (k + 1) v.width s'
    limbs_more {k} l a =
        record {
          low_within = λ j h. rw (a.low_at j h) (within_low k _ _ (l.low_within j h));
          high_within = λ j h. rw (a.high_at j h) (within_high k _ _ (l.high_within j h) (four_fits j));
        }

    -- what a row adds is its multiplier times the worked row
    term : {t : ℕ} {row : Row} → IsPivotRow p v t s row → (j : ℕ)
        → reduce p (product_at e row j) ≡ reduce p row.times ⊗ worked_rows p e v.width t j
    unfolding product_at
    term {t} {row} i j = reduce_times p row.times _ ∙ at_row (dec_lt t v.rank)
      where
        L : IsCommutativeRing (residues p)
        L = residues_ring p positive

        at_row : Dec (t < v.rank)
            → reduce p row.times ⊗ reduce p (get_or e (row.at + j) 0) ≡ reduce p row.times ⊗ worked_rows p e v.width t j
        at_row (yes h) = ap (λ q. reduce p row.times ⊗ reduce p (get_or e (q + j) 0)) (i.place h)
        at_row (no h) =
            let none = i.no_multiplier (omega arith) in
            ap (λ c. reduce p c ⊗ reduce p (get_or e (row.at + j) 0)) none
            ∙ rings.zero_times (residues p) L (reduce p (get_or e (row.at + j) 0))
            ∙ sym (rings.zero_times (residues p) L (worked_rows p e v.width t j))
            ∙ ap (λ c. reduce p c ⊗ worked_rows p e v.width t j) (sym none)

    first_row_lem : IsPivotRow p v (g + 0) s four.a
    first_row_lem =
        let here : g ≡ g + 0 = omega arith in
        subst (λ t. IsPivotRow p v t s four.a) here taken.row_a

    -- the four multipliers
    multipliers : ℕ → Residue p
    multipliers zero = reduce p four.a.times
    multipliers (suc zero) = reduce p four.b.times
    multipliers (suc (suc zero)) = reduce p four.c.times
    multipliers (suc (suc (suc k))) = reduce p four.d.times

    -- the group adds the combination of its rows
    combination : (j : ℕ) → reduce p (four_at e four j) ≡ mixed (residues p) 4 multipliers (λ k. worked_rows p e v.width (g + k)) j
    unfolding four_at mixed sum multipliers
    combination j =
        reduce_plus p (product_at e four.a j + product_at e four.b j + product_at e four.c j) (product_at e four.d j)
        ∙ ap₂ ◌⊕◌
        (reduce_plus p (product_at e four.a j + product_at e four.b j) (product_at e four.c j)
        ∙ ap₂ ◌⊕◌
        (reduce_plus p (product_at e four.a j) (product_at e four.b j)
        ∙ ap₂ ◌⊕◌ (term first_row_lem j ∙ sym (rings.zero_plus (residues p) (residues_ring p positive) _)) (term taken.row_b j))
        (term taken.row_c j))
        (term taken.row_d j)

    group_added : {s' : Limbs} → Added v.width (four_at e four) s s'
        → GroupAdded (residues p) g v.width v.rank (worked_rows p e v.width) (pivots_of v.places.now) (row_in p s) (row_in p s')
    unfolding whole_at multipliers
    group_added a =
        record {
          by = multipliers;
          at_pivot = at_pivot;
          beyond = beyond;
          sums = λ j h.
              ap (reduce p) (rw (a.low_at j (omega arith), a.high_at j (omega arith)) (whole_add (get_or s.lo j 0) (get_or s.hi j 0) (four_at e four j)))
              ∙ reduce_plus p _ (four_at e four j)
              ∙ ap (λ x. row_in p s j ⊕ x) (combination j);
        }
      where
        at_pivot : (k : ℕ) → k < 4 → g + k < v.rank → multipliers k ≡ (residues p).minus (row_in p s (pivots_of v.places.now (g + k)))
        at_pivot zero h l = first_row_lem.multiplier l
        at_pivot (suc zero) h l = taken.row_b.multiplier l
        at_pivot (suc (suc zero)) h l = taken.row_c.multiplier l
        at_pivot (suc (suc (suc zero))) h l = taken.row_d.multiplier l
        at_pivot (suc (suc (suc (suc k)))) h l = absurd (omega arith)

        beyond : (k : ℕ) → k < 4 → v.rank ≤ g + k → multipliers k ≡ reduce p 0
        beyond zero h l = ap (reduce p) (first_row_lem.no_multiplier l)
        beyond (suc zero) h l = ap (reduce p) (taken.row_b.no_multiplier l)
        beyond (suc (suc zero)) h l = ap (reduce p) (taken.row_c.no_multiplier l)
        beyond (suc (suc (suc zero))) h l = ap (reduce p) (taken.row_d.no_multiplier l)
        beyond (suc (suc (suc (suc k)))) h l = absurd (omega arith)

    -- the row is cleared at the pivots of one group more
    pub group_cleared : (1 < p) → (q : ℕ) → g ≡ 4 * q → GroupsCleared p v.width v.rank e v.places.now → {x : Vector (residues p)} {s' : Limbs}
        → ClearedTo (residues p) (4 * q) 0 v.width (λ i. x) v.rank (worked_rows p e v.width) (pivots_of v.places.now) (row_in p s)
        → Added v.width (four_at e four) s s'
        → ClearedTo (residues p) (4 * (q + 1)) 0 v.width (λ i. x) v.rank (worked_rows p e v.width) (pivots_of v.places.now) (row_in p s')
    group_cleared proper q at-q groups {x} {s'} c a =
        let more : 4 * q + 4 ≡ 4 * (q + 1) = omega arith in
        subst (λ k. ClearedTo (residues p) k 0 v.width (λ i. x) v.rank (worked_rows p e v.width) (pivots_of v.places.now) (row_in p s')) more
        (cleared.cleared_group (residues p) (residues_ring p positive) (one_not_zero p proper) q groups
        (λ t h. omega (arith, v.placed.inside t h)) c
        (subst (λ k. GroupAdded (residues p) k v.width v.rank (worked_rows p e v.width) (pivots_of v.places.now) (row_in p s) (row_in p s')) at-q (group_added a)))
