-- A row that was cleared at all pivots is settled: its residues are written out, and where one of the first n is not 0 the row
-- joins the worked rows with the first such place as its pivot.
use mathlib.Core.Path.{◌≡◌, sym, ap, ◌∙◌}
use mathlib.Core.List.{List}
use Prim.Native.Nat.{ℕ, ◌+◌, ◌<◌}
use native.Mathlib.Numerals.{add-one}
use native.Mathlib.Omega.{arith}
use lib.ListN.{length, get_or, take}
use lib.Seq.{length-take-le, get_or-take}
use Rattle.algebra.specs.Ring.{IsCommutativeRing}
use Rattle.algebra.specs.Matrix.{Vector, Matrix}
use Rattle.algebra.specs.Echelon.{Cleared}
use Rattle.algebra.proofs.Echelon.{row_skipped, row_added, pivot_below, grown_leading}
use Rattle.checks.specs.Prime.{IsModulus}
use Rattle.words.specs.Words.{Below, Blank, LeastNonzero}
use Rattle.field.specs.Residue.{reduce, residues}
use Rattle.field.proofs.Residues.{reduce_of_value, below_of_value}
use Rattle.field.proofs.Field.{residues_ring}
use Rattle.matrix_mul.specs.Rows.{Summed, whole_at, summed_number}
use Rattle.matrix_mul.specs.declared.limbs.Limbs.{Limbs}
use Rattle.matrix_echelon.specs.Group.{row_in}
use Rattle.matrix_echelon.specs.Worked.{Growable, RowGrown}
use Rattle.matrix_echelon.specs.Forward.{Settleable, RowSettled}
use Rattle.matrix_echelon.proofs.Groups.{one_not_zero}

pub modulus_proper : {p : ℕ} → IsModulus p → 1 < p
modulus_proper ok = omega (arith, ok.prime.two_or_more)

-- a cleared row may be written otherwise at its places
cleared_same : {p i width : ℕ} {M : Matrix (residues p)} {r : ℕ} {E : Matrix (residues p)} {pivot : ℕ → ℕ} {x y : Vector (residues p)}
    → ((j : ℕ) → j < width → x j ≡ y j) → ((t : ℕ) → t < r → pivot t < width)
    → Cleared (residues p) i width M r E pivot x → Cleared (residues p) i width M r E pivot y
cleared_same {pivot = pivot} e b c =
    record {
      by = c.by;
      beyond = c.beyond;
      sums = λ j h. sym (e j h) ∙ c.sums j h;
      zeros_at = λ s h l. sym (e (pivot s) (b s h)) ∙ c.zeros_at s h l;
    }

module _ {p n r : ℕ} {limbs : Limbs} {x e pivots x' : List ℕ} (s : Settleable p n r limbs x e pivots) (f : Summed p (whole_at limbs) x x') where
  proper : 1 < p
  proper = modulus_proper s.is_modulus

  number_at : (j : ℕ) → j < length x → get_or x' j 0 ≡ (row_in p limbs j).value
  unfolding summed_number
  number_at j h =
      f.summed_at j h ∙ ap (λ m. (reduce p (m + whole_at limbs j)).value) (s.x_blank j)
      ∙ ap (λ m. (reduce p m).value) (omega arith)

  residue_at : (j : ℕ) → j < length x → reduce p (get_or x' j 0) ≡ row_in p limbs j
  residue_at j h = reduce_of_value (row_in p limbs j) (number_at j h)

  row_below : Below p x'
  row_below j h = below_of_value (omega (arith, proper)) (row_in p limbs j) (number_at j (omega (arith, f.long)))

  -- no pivot: the row follows from those before it
  pub settled_none : Blank (take n x') → RowSettled p n r limbs x e pivots r e pivots
  settled_none blank =
      record {
        room = s.room;
        leading = λ width long b l. l;
        worked = λ width long i M w c.
            row_skipped (residues p) (residues_ring p (omega (arith, proper))) (one_not_zero p proper) w c
            (λ j h. sym (residue_at j (omega (arith, s.narrow))) ∙ ap (reduce p) (sym (get_or-take n x' j 0 h) ∙ blank j));
      }

  -- a pivot
  module _ {v : ℕ} (l : LeastNonzero (take n x') v) where
    in_front : v < n
    in_front = omega (arith, l.within, length-take-le n x' (omega (arith, f.long, s.narrow)))

    zero_before : (j : ℕ) → j < v → get_or x' j 0 ≡ 0
    zero_before j h = sym (get_or-take n x' j 0 (omega (arith, in_front))) ∙ l.before j h

    pub growable : Growable p x' v r e pivots
    growable =
        record {
          is_modulus = s.is_modulus;
          clearable =
              record {
                leading =
                    record {
                      positive = omega (arith, proper);
                      in_range = s.is_modulus.in_range;
                      below = row_below;
                      within = omega (arith, f.long, s.narrow, in_front);
                      zeros = zero_before;
                    };
                narrow = omega (arith, f.long, s.ready.small);
                in_row = omega (arith, f.long, s.narrow, in_front);
                few = s.few;
                room = s.room.rows_in;
              };
          not_zero = λ z. l.not_zero (get_or-take n x' v 0 in_front ∙ z);
          pivots_long = s.room.pivots_long;
        }

    pub settled_row : {e' pivots' : List ℕ} → RowGrown p x' v r e pivots e' pivots'
        → RowSettled p n r limbs x e pivots (r + 1) e' pivots'
    settled_row {e'} {pivots'} g =
        record {
          room = record { rows_in = g.room; pivots_long = g.pivots_long };
          leading = λ width long b l.
              rw (add-one r)
              (grown_leading (residues p) L (one_not_zero p proper) b (omega (arith, s.narrow, in_front)) (λ j h. ap (reduce p) (zero_before j h)) l
              (g.grown width (f.long ∙ long)));
          worked = λ width long i M w c.
              rw (add-one r)
              (row_added (residues p) L (one_not_zero p proper) w
              (cleared_same (λ j h. sym (residue_at j (omega arith))) (λ t h. omega (arith, w.narrow, pivot_below (residues p) L (one_not_zero p proper) w t h)) c)
              in_front (λ j h. ap (reduce p) (zero_before j h)) g.to_one (g.grown width (f.long ∙ long)));
        }
      where
        L : IsCommutativeRing (residues p)
        L = residues_ring p (omega (arith, proper))
