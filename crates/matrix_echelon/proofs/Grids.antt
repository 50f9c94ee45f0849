-- What is read in place: a table with its rows one behind the other, as it stands or turned. With its carried columns, cut to its sizes,
-- it is the table; so the worked rows of all its rows give its rank, and their pivots lie in its columns.
use mathlib.Core.Path.{◌≡◌, refl, ap, ◌∙◌, subst, fun_ext}
use mathlib.Core.Bool.{Bool, true, false}
use mathlib.Core.List.{List}
use Prim.Native.Nat.{ℕ, ◌+◌, ◌*◌, ◌-◌, ◌<◌}
use native.Mathlib.Omega.{arith}
use lib.Dec.{ltb}
use lib.ListN.{length, get_or}
use Rattle.algebra.specs.Choice.{choose}
use Rattle.algebra.specs.Ring.{IsCommutativeRing}
use Rattle.algebra.specs.Matrix.{Matrix, cut, transpose}
use Rattle.algebra.specs.Quasiinverse.{IsPivotInverse}
use Rattle.algebra.specs.Echelon.{Worked}
use Rattle.algebra.proofs.Matrices.{entries}
use Rattle.algebra.proofs.Blocks.{choose_upper, choose_lower}
use Rattle.algebra.proofs.Echelon.{pivot_below, rank_columns}
use Rattle.checks.specs.Prime.{IsModulus}
use Rattle.words.specs.Lengths.{longest_row, widest_table}
use Rattle.words.specs.Words.{Zeros}
use Rattle.field.specs.Residue.{reduce, residues}
use Rattle.field.specs.View.{line, table}
use Rattle.field.specs.Products.{Reaches}
use Rattle.field.proofs.Field.{residues_ring}
use Rattle.field.proofs.Views.{blank_below}
use Rattle.matrix_echelon.specs.declared.Grid.{Grid}
use Rattle.matrix_echelon.specs.Grid.{grid_place, entry_of, grid_of, wide, TableReadable, Readable}
use Rattle.matrix_echelon.specs.Pivots.{PivotsInside}
use Rattle.matrix_echelon.specs.Forward.{Room, Held, IsRank}
use Rattle.matrix_echelon.proofs.Groups.{one_not_zero}
use Rattle.matrix_echelon.proofs.Settle.{modulus_proper}

-- the table alone can be read, and with one carried column
pub readable_none : {p : ℕ} {g : Grid} {a : List ℕ} (w : List ℕ) (step : ℕ) → TableReadable p g a → Readable p g a w step 0
readable_none w step s = record { table = s; carried_most = omega arith; reaches = λ u h. absurd (omega arith) }

pub readable_one : {p : ℕ} {g : Grid} {a w : List ℕ} {step : ℕ} → TableReadable p g a → Reaches g.rows 0 step (length w)
    → Readable p g a w step 1
readable_one s reach = record { table = s; carried_most = omega arith; reaches = λ u h t l. omega (arith, reach t l) }

-- the table with its carried columns, at a column and behind them
pub wide_front : (p : ℕ) (g : Grid) (a w : List ℕ) (step i j : ℕ) → j < g.columns → wide p g a w step i j ≡ entry_of p g a i j
unfolding wide
wide_front p g a w step i j h = choose_upper g.columns j (entry_of p g a i j) (line p w (j - g.columns) step i) h

pub wide_carried : (p : ℕ) (g : Grid) (a w : List ℕ) (step i u : ℕ) → wide p g a w step i (g.columns + u) ≡ line p w u step i
unfolding wide
wide_carried p g a w step i u = choose_lower g.columns u (entry_of p g a i (g.columns + u)) (λ q. line p w q step i)

-- a choice that is made twice
chosen_twice : {A : Type 0} (b : Bool) (x y z : A) → choose b (choose b x y) z ≡ choose b x z
chosen_twice true x y z = refl
chosen_twice false x y z = refl

module _ (p : ℕ) (g : Grid) (a w : List ℕ) (step : ℕ) where
  pub wide_cut : cut (residues p) g.rows g.columns (wide p g a w step) ≡ grid_of p g a
  unfolding cut grid_of wide
  wide_cut =
      entries (residues p) _ _
      (λ i j.
      ap (λ x. choose (ltb i g.rows) x (reduce p 0))
      (chosen_twice (ltb j g.columns) (entry_of p g a i j) (line p w (j - g.columns) step i) (reduce p 0)))

  -- behind the table stand the carried columns
  pub wide_behind : (u : ℕ) → ◌≡◌ {A = ℕ → (residues p).Carrier} (λ i. wide p g a w step i (g.columns + u)) (line p w u step)
  wide_behind u = fun_ext (λ i. wide_carried p g a w step i u)

-- a table whose rows begin `stride` numbers apart, read row by row, and read turned: row i of the table is column i of what is read
module _ (p : ℕ) (g : Grid) (a : List ℕ) (start stride : ℕ) where
  pub grid_table : ((i j : ℕ) → grid_place g i j ≡ start + i * stride + j) → grid_of p g a ≡ table p a start stride g.rows g.columns
  unfolding grid_of cut table
  grid_table place =
      entries (residues p) _ _
      (λ i j.
      ap (λ q. choose (ltb i g.rows) (choose (ltb j g.columns) (reduce p (get_or a q 0)) (reduce p 0)) (reduce p 0)) (place i j))

  pub grid_turned : ((i j : ℕ) → grid_place g j i ≡ start + i * stride + j)
      → grid_of p g a ≡ transpose (residues p) (table p a start stride g.columns g.rows)
  unfolding grid_of cut table transpose
  grid_turned place =
      entries (residues p) _ _
      (λ j i.
      ap (λ q. choose (ltb j g.rows) (choose (ltb i g.columns) (reduce p (get_or a q 0)) (reduce p 0)) (reduce p 0)) (place i j)
      ∙ swapped (ltb j g.rows) (ltb i g.columns) (reduce p (get_or a (start + i * stride + j) 0)) (reduce p 0))
    where
      swapped : {A : Type 0} (b c : Bool) (x z : A) → choose b (choose c x z) z ≡ choose c (choose b x z) z
      swapped true c x z = refl
      swapped false true x z = refl
      swapped false false x z = refl

-- the D of the worked rows is a pivot inverse of the table
abbrev pub rank_worked : {p : ℕ} {g : Grid} {a : List ℕ} (w : List ℕ) (step : ℕ) {width r : ℕ} {E : Matrix (residues p)} {pivot : ℕ → ℕ}
    → Worked (residues p) g.rows g.columns width (wide p g a w step) r E pivot → IsRank p g a r
rank_worked {p} {g} {a} w step k =
    record {
      D = k.D;
      I = k.I;
      J = k.J;
      inverse =
          subst (λ X. IsPivotInverse (residues p) g.rows g.columns X k.D k.I k.J) (wide_cut p g a w step) k.inverse;
      rank = k.rank;
    }

-- fresh rooms hold the worked rows and their pivots
pub room_fresh : {p : ℕ} (e pivots : List ℕ) → IsModulus p → Zeros widest_table e → Zeros longest_row pivots → Room p e pivots
room_fresh {p} e pivots ok zeros none =
    record {
      rows_in = record { long = zeros.0; below = blank_below p e (omega (arith, modulus_proper ok)) zeros.1 };
      pivots_long = none.0;
    }

-- the pivots lie in the columns
module _ {p : ℕ} {g : Grid} {i : ℕ} {a w : List ℕ} {step carried r : ℕ} {e pivots : List ℕ} (s : Readable p g a w step carried)
    (h : Held p g i a w step carried r e pivots) where
  proper : 1 < p
  proper = modulus_proper s.table.is_modulus

  L : IsCommutativeRing (residues p)
  L = residues_ring p (omega (arith, proper))

  pub pivot_in_columns : (t : ℕ) → t < r → get_or pivots t 0 < g.columns
  pivot_in_columns = pivot_below (residues p) L (one_not_zero p proper) h.worked

  pub pivots_held : PivotsInside (g.columns + carried) r pivots
  pivots_held =
      record {
        narrow = omega (arith, s.table.columns_most, s.carried_most);
        few = omega (arith, s.table.columns_most, rank_columns (residues p) L (one_not_zero p proper) h.worked);
        long = h.room.pivots_long;
        inside = λ t l. omega (arith, pivot_in_columns t l);
      }
