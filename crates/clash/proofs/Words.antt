-- The worked rows of a log's multipliers carry its values along: so the numbers that they carry for a word are that word of D V, and the
-- first frame whose sum with them is not its value is the first that D V does not meet.
use mathlib.Core.Path.{◌≡◌, refl, sym, ap, ◌∙◌, subst}
use mathlib.Core.List.{List}
use Prim.Native.Nat.{ℕ, zero, suc, ◌+◌, ◌*◌, ◌-◌, ◌≤◌, ◌<◌}
use native.Mathlib.Nat.{mul-le-mul}
use native.Mathlib.Omega.{arith}
use lib.ListN.{length, get_or, take, drop}
use Rattle.algebra.specs.Matrix.{apply}
use Rattle.algebra.specs.Quasiinverse.{IsPivotInverse}
use Rattle.algebra.proofs.Sums.{sum_same}
use Rattle.algebra.proofs.Applied.{apply_same, zero_row_apply}
use Rattle.algebra.proofs.Independent.{count_most}
use Rattle.algebra.proofs.Marked.{inverse_is}
use Rattle.checks.specs.Largest.{largest, most_words}
use Rattle.checks.specs.Prime.{IsModulus}
use Rattle.words.proofs.Parts.{part_length, part_at}
use Rattle.field.specs.Residue.{Residue, reduce, residues, ◌⊗◌}
use Rattle.field.specs.View.{line}
use Rattle.field.proofs.Field.{residues_field}
use Rattle.field.proofs.Lines.{row_inside}
use Rattle.field.proofs.Residues.{reduce_value, reduce_small, reduce_of_value, value_unique}
use Rattle.matrix_echelon.specs.declared.Grid.{Grid}
use Rattle.matrix_echelon.specs.Grid.{Readable}
use Rattle.matrix_echelon.specs.Forward.{Room}
use Rattle.matrix_echelon.specs.Reduced.{ReducedForm, RowsByPivot}
use Rattle.matrix_echelon.proofs.Grids.{grid_table}
use Rattle.matrix_echelon.proofs.ReducedRows.{no_pivot_outside}
use Rattle.ledger.specs.Decide.{combined?}
use Rattle.clash.specs.Decide.{given_inverse}
use Rattle.clash.specs.Calls.{log_table, log_inverse}
use Rattle.clash.specs.Parts.{Logged, rows_grid, log_value, WorkedRows, carried_number, word_number, IsMet, frame_sum, FirstByWords}
use Rattle.clash.proofs.Frames.{table_number}
use Rattle.clash.proofs.Clashes.{F, own, Kept, FirstNotKept}

-- ---- the numbers that worked rows carry

module _ {p : ℕ} {g : Grid} {a w : List ℕ} {step count r : ℕ} {e pivots at : List ℕ} (ok : IsModulus p) (narrow : g.columns ≤ largest)
    (few : count ≤ most_words) (f : ReducedForm p g a w step count r e pivots) (b : RowsByPivot r pivots at) where
  rank_within : r ≤ g.columns
  rank_within = rw f.rank.rank (count_most g.columns f.rank.I)

  pub worked_rows_lem : WorkedRows g.columns count at e
  worked_rows_lem =
      record {
        n_most = narrow;
        s_most = few;
        at_long = b.long;
        at_most = λ j. omega (arith, b.few j, rank_within);
        e_long = f.long;
      }

  -- those for column u are D times that column
  pub carried_made : (u j : ℕ) → u < count
      → word_number g.columns count at e u j ≡ (apply (residues p) g.rows f.rank.D (line p w u step) j).value
  carried_made u j l = go (get_or at j 0) refl
    where
      go : (v : ℕ) → get_or at j 0 ≡ v → word_number g.columns count at e u j ≡ (apply (residues p) g.rows f.rank.D (line p w u step) j).value
      go zero z =
          ap (λ q. carried_number g.columns count u q e) z
          ∙ sym
          (ap (λ (x : Residue p). x.value)
          (zero_row_apply (residues p) (residues_field p ok.prime).ring g.rows f.rank.D (line p w u step) j
          (λ t h. f.rank.inverse.row_outside j t (no_pivot_outside f j (b.none j z))))
          ∙ reduce_small p 0 (omega (arith, ok.prime.two_or_more)))
      go (suc t) z =
          let (h, d) = b.row j t z in
          let inside =
          mul-le-mul {n₁ = suc t} {m₁ = g.columns + count} {n₂ = 64} {m₂ = 80} (omega (arith, rank_within)) (omega arith) in
          ap (λ q. carried_number g.columns count u q e) z
          ∙ value_unique p _ _ (f.below (t * (g.columns + count) + (g.columns + u)) (omega (arith, inside, f.long)))
          (f.carried t u h l ∙ ap (λ c. apply (residues p) g.rows f.rank.D (line p w u step) c) d)

-- and the room can be used again
pub room_again : {p : ℕ} {g : Grid} {a w : List ℕ} {step count r : ℕ} {e pivots : List ℕ} → ReducedForm p g a w step count r e pivots
    → Room p e pivots
room_again f = record { rows_in = record { long = f.long; below = f.below }; pivots_long = f.pivots_long }

-- ---- of a log

-- the numbers of the log from the first value on, as they are lent
abbrev pub value_part : (n : ℕ) → List ℕ → List ℕ
value_part n log = take (length log - n) (drop n log)

module _ {p m n s : ℕ} {log : List ℕ} (k : Logged p m n s log) where
  -- a number of row i lies in the log
  pub number_inside : (i q : ℕ) → i < m → q < n + s → i * (n + s) + q < length log
  number_inside i q h l = omega (arith, row_inside i m (n + s) h, k.log_long)

  -- where the log has rows
  module _ (some : 0 < m) where
    pub values_inside : n < length log
    values_inside = omega (arith, number_inside 0 n some (omega (arith, k.s_count.0)))

    values_long : length (value_part n log) ≡ length log - n
    values_long = part_length log n (length log - n) (omega (arith, values_inside))

    -- the multipliers can be read with their values
    pub rows_readable : Readable p (rows_grid m n s) log (value_part n log) (n + s) s
    rows_readable =
        record {
          table =
              record {
                is_modulus = k.is_modulus;
                rows_most = k.m_most;
                columns_most = k.n_size.1;
                inside = λ i j h l. omega (arith, number_inside i j h (omega arith));
              };
          carried_most = k.s_count.1;
          reaches = λ w l t h. omega (arith, number_inside t (n + w) h (omega arith), values_long);
        }

    -- the carried columns are the values
    carried_value : (w : ℕ) → w < s → (t : ℕ) → t < m → line p (value_part n log) w (n + s) t ≡ log_value p n s log t w
    unfolding line
    carried_value w l t h =
        let place : n + (w + t * (n + s)) ≡ t * (n + s) + n + w = omega arith in
        ap (reduce p)
        (part_at log n (length log - n) (w + t * (n + s)) (omega (arith, number_inside t (n + w) h (omega arith))) ∙ ap (λ q. get_or log q 0) place)

    module _ {r : ℕ} {e pivots at : List ℕ} (f : ReducedForm p (rows_grid m n s) log (value_part n log) (n + s) s r e pivots)
        (b : RowsByPivot r pivots at) (ok : IsModulus p) where
      -- the D of the worked rows is the log's
      same_inverse : f.rank.D ≡ log_inverse p ok m n s log
      same_inverse =
          inverse_is (residues p) (F p ok m n s log) (combined? p ok) (given_inverse p ok n s m log)
          (subst (λ X. IsPivotInverse (residues p) m n X f.rank.D f.rank.I f.rank.J)
          (grid_table p (rows_grid m n s) log 0 (n + s) (λ i j. omega arith)) f.rank.inverse)

      -- so what they carry for a word is that word of D V
      number_own : (w j : ℕ) → w < s → reduce p (word_number n s at e w j) ≡ own p ok m n s log j w
      number_own w j l =
          reduce_of_value _ (carried_made ok k.n_size.1 k.s_count.1 f b w j l)
          ∙ apply_same (residues p) m f.rank.D (line p (value_part n log) w (n + s)) (λ i. log_value p n s log i w) (carried_value w l) j
          ∙ ap (λ X. apply (residues p) m X (λ i. log_value p n s log i w) j) same_inverse

      -- and a frame's sum with it is its row of A (D V)
      sum_own : (i w : ℕ) → i < m → w < s
          → frame_sum p n s log (word_number n s at e w) i ≡ apply (residues p) n (log_table p m n s log) (λ t. own p ok m n s log t w) i
      unfolding apply
      sum_own i w h l =
          sum_same (residues p) n _ _ (λ j c q. sym (table_number p m n s log i h j c) q ⊗ number_own w j l q)

      met_kept : (i w : ℕ) → i < m → w < s → IsMet p n s w log (word_number n s at e w) i → Kept p ok m n s log i w
      met_kept i w h l met =
          sym (sum_own i w h l) ∙ sym (reduce_value (frame_sum p n s log (word_number n s at e w) i)) ∙ ap (reduce p) met

      kept_met : (i w : ℕ) → i < m → w < s → Kept p ok m n s log i w → IsMet p n s w log (word_number n s at e w) i
      kept_met i w h l c =
          ap (λ (a : Residue p). a.value) (sum_own i w h l ∙ c)
          ∙ reduce_small p (get_or log (i * (n + s) + n + w) 0)
          (k.log_below (i * (n + s) + n + w) (omega (arith, number_inside i (n + w) h (omega arith))))

      -- the first frame that is not met by what they carry is the first that D V does not meet
      pub words_found : {y : ℕ} → FirstByWords p m n s s log (word_number n s at e) y → FirstNotKept p ok m n s log y
      words_found {y} g =
          record {
            within = g.within;
            before = λ i h w l. met_kept i w (omega (arith, g.within)) l (g.before i h w l);
            differs = λ row. let (w, (l, d)) = g.differs row in (w, (l, λ c. d (kept_met y w row l c)));
          }
