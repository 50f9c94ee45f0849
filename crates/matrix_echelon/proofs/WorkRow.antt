-- One row of the table is worked off: what its parts ask holds, and after them one row more of the table is worked off. Where every
-- column has its pivot nothing is to be done.
use mathlib.Core.Path.{◌≡◌, sym, ap, ◌∙◌, subst}
use mathlib.Core.List.{List}
use Prim.Native.Nat.{ℕ, suc, ◌+◌, ◌*◌, ◌-◌, ◌≤◌, ◌<◌}
use native.Mathlib.Decide.{dec_lt}
use native.Mathlib.Omega.{arith}
use lib.ListN.{length, get_or, take}
use lib.Seq.{length-take-le, get_or-take}
use Rattle.algebra.specs.Ring.{IsCommutativeRing}
use Rattle.algebra.specs.Matrix.{mixed}
use Rattle.algebra.specs.Echelon.{Worked, Cleared}
use Rattle.algebra.proofs.Echelon.{worked_none, row_follows, rank_columns}
use Rattle.words.specs.Lengths.{widest_row}
use Rattle.words.specs.Words.{Blank, Zeros}
use Rattle.words.proofs.Zeros.{blank_inside}
use Rattle.field.specs.Residue.{reduce, residues}
use Rattle.field.specs.Limbs.{whole}
use Rattle.field.specs.View.{line}
use Rattle.field.proofs.Field.{residues_ring}
use Rattle.matrix_mul.specs.Rows.{NoLimbs, whole_at}
use Rattle.matrix_mul.specs.declared.limbs.Limbs.{Limbs}
use Rattle.matrix_echelon.specs.declared.Grid.{Grid}
use Rattle.matrix_echelon.specs.Grid.{wide, Readable}
use Rattle.matrix_echelon.specs.Group.{row_in, worked_rows, pivots_of, RowRead, Clearable, PivotsCleared}
use Rattle.matrix_echelon.specs.Forward.{Room, Settleable, RowSettled, Held, Workable}
use Rattle.matrix_echelon.proofs.Groups.{one_not_zero}
use Rattle.matrix_echelon.proofs.Settle.{modulus_proper}
use Rattle.matrix_echelon.proofs.Grids.{wide_front, wide_carried, pivots_held}

-- no row yet
pub held_none : {p : ℕ} {g : Grid} {a w : List ℕ} {step carried : ℕ} {e pivots : List ℕ} → Readable p g a w step carried → Room p e pivots
    → Held p g 0 a w step carried 0 e pivots
held_none {p} {g} {a} {w} {step} {carried} {e} {pivots} s r =
    let proper = modulus_proper s.table.is_modulus in
    record {
      room = r;
      leading = λ t j h. absurd (omega arith);
      worked =
          worked_none (residues p) (residues_ring p (omega (arith, proper))) (one_not_zero p proper) g.columns (g.columns + carried)
          (wide p g a w step) (worked_rows p e (g.columns + carried)) (pivots_of pivots) (omega arith);
    }

-- every column has its pivot
pub held_follows : {p : ℕ} {g : Grid} {i : ℕ} {a w : List ℕ} {step carried r : ℕ} {e pivots : List ℕ} → Readable p g a w step carried → g.columns ≤ r
    → Held p g i a w step carried r e pivots → Held p g (suc i) a w step carried r e pivots
held_follows {p} {g} {i} {a} {w} {step} {carried} {r} {e} {pivots} s full h =
    record {
      room = h.room;
      leading = h.leading;
      worked = subst (Rows (suc i)) (sym is_n) (row_follows (residues p) L (one_not_zero p proper) (subst (Rows i) is_n h.worked));
    }
  where
    proper : 1 < p
    proper = modulus_proper s.table.is_modulus

    L : IsCommutativeRing (residues p)
    L = residues_ring p (omega (arith, proper))

    Rows : ℕ → ℕ → Type 0
    Rows k q = Worked (residues p) k g.columns (g.columns + carried) (wide p g a w step) q (worked_rows p e (g.columns + carried)) (pivots_of pivots)

    is_n : r ≡ g.columns
    is_n = omega (arith, rank_columns (residues p) L (one_not_zero p proper) h.worked)

module _ {p : ℕ} {g : Grid} {i : ℕ} {a w : List ℕ} {step carried r : ℕ} {e pivots : List ℕ}
    (s : Workable p g i a w step carried r e pivots) where
  proper : 1 < p
  proper = modulus_proper s.readable.table.is_modulus

  L : IsCommutativeRing (residues p)
  L = residues_ring p (omega (arith, proper))

  worked : Worked (residues p) i g.columns (g.columns + carried) (wide p g a w step) r (worked_rows p e (g.columns + carried)) (pivots_of pivots)
  worked = s.held.worked

  module _ {none limbs : Limbs} (z : NoLimbs none) (l : RowRead g i a w step carried none limbs) where
    no_high : (j : ℕ) → get_or limbs.hi j 0 ≡ 0
    no_high j = ap (λ xs. get_or xs j 0) l.high ∙ z.high_zeros.1 j

    pub clearable : Clearable p (g.columns + carried) r e pivots limbs
    clearable =
        record {
          proper = proper;
          room = s.held.room.rows_in;
          pivots_in = pivots_held s.readable s.held;
          cleared = worked.cleared;
          leading = s.held.leading;
          small = l.small;
          fresh = no_high;
        }

    -- the limbs stand for row i
    row_there : (j : ℕ) → j < g.columns + carried → row_in p limbs j ≡ wide p g a w step i j
    unfolding whole_at whole line
    row_there j h = at (dec_lt j g.columns)
      where
        only_low : whole (get_or limbs.lo j 0) (get_or limbs.hi j 0) ≡ get_or limbs.lo j 0
        only_low = omega (arith, no_high j)

        at : Dec (j < g.columns) → reduce p (whole (get_or limbs.lo j 0) (get_or limbs.hi j 0)) ≡ wide p g a w step i j
        at (yes b) = ap (reduce p) (only_low ∙ l.each j b) ∙ sym (wide_front p g a w step i j b)
        at (no b) =
            let u = j - g.columns in
            let e : j ≡ g.columns + u = omega arith in
            let place : i * step + u ≡ u + i * step = omega arith in
            ap (reduce p) only_low
            ∙ ap (λ k. reduce p (get_or limbs.lo k 0)) e
            ∙ ap (reduce p) (l.behind u (omega arith) ∙ ap (λ q. get_or w q 0) place)
            ∙ sym (wide_carried p g a w step i u)
            ∙ ap (wide p g a w step i) (sym e)

    -- the front of the room is as long as a worked row
    room_long : (x : List ℕ) → Zeros widest_row x → length (take (g.columns + carried) x) ≡ g.columns + carried
    room_long x y =
        length-take-le (g.columns + carried) x (omega (arith, y.0, s.readable.table.columns_most, s.readable.carried_most))

    module _ {limbs' : Limbs} (c : PivotsCleared p (g.columns + carried) r e pivots limbs limbs') where
      pub settleable : (x : List ℕ) → Zeros widest_row x → Settleable p g.columns r limbs' (take (g.columns + carried) x) e pivots
      settleable x y =
          record {
            is_modulus = s.readable.table.is_modulus;
            narrow = omega (arith, wide_long);
            few = omega (arith, s.free, s.readable.table.columns_most);
            ready = rw wide_long c.ready;
            x_blank = blank;
            room = s.held.room;
          }
        where
          wide_long : length (take (g.columns + carried) x) ≡ g.columns + carried
          wide_long = room_long x y

          blank : Blank (take (g.columns + carried) x)
          blank = blank_inside (take (g.columns + carried) x) (λ j b. get_or-take (g.columns + carried) x j 0 (omega (arith, wide_long)) ∙ y.1 j)

      row_cleared : Cleared (residues p) i (g.columns + carried) (wide p g a w step) r (worked_rows p e (g.columns + carried)) (pivots_of pivots) (row_in p limbs')
      row_cleared =
          record {
            by = c.cleared.by;
            beyond = c.cleared.beyond;
            sums = λ j h. c.cleared.sums j h ∙ ap (λ y. (residues p).plus y (mixed (residues p) r c.cleared.by (worked_rows p e (g.columns + carried)) j)) (row_there j h);
            zeros_at = c.cleared.zeros_at;
          }

      pub row_worked : (x : List ℕ) → Zeros widest_row x → {r' : ℕ} {e' pivots' : List ℕ}
          → RowSettled p g.columns r limbs' (take (g.columns + carried) x) e pivots r' e' pivots' → Held p g (suc i) a w step carried r' e' pivots'
      row_worked x y t =
          record {
            room = t.room;
            worked = t.worked _ (room_long x y) i (wide p g a w step) worked row_cleared;
            leading = t.leading _ (room_long x y) (pivots_held s.readable s.held).inside s.held.leading;
          }
