-- The multipliers that make a worked row 0 at the pivots of the others: what the loop writes, and what the list then holds.
use mathlib.Core.Path.{◌≡◌, ap, sym, ◌∙◌}
use mathlib.Core.List.{List}
use Prim.Native.Nat.{ℕ, ◌+◌, ◌*◌, ◌<◌}
use native.Mathlib.Decide.{dec_lt, ℕ_discrete}
use native.Mathlib.Omega.{arith}
use lib.ListN.{length, get_or, set, length-set}
use lib.Dec.{eqb}
use lib.Seq.{get_or-set_same, get_or-set_other}
use borrow.Author.Tests.{eq-eqb, ne_eqb}
use Rattle.algebra.specs.Choice.{choose}
use Rattle.algebra.specs.Echelon.{others}
use Rattle.words.specs.Lengths.{longest_row}
use Rattle.words.specs.Words.{Zeros, Below}
use Rattle.words.proofs.Walk.{Walked}
use Rattle.field.specs.Residue.{Residue, reduce, residues, ◌⊕◌, negated}
use Rattle.matrix_echelon.specs.declared.pivots.Pivots.{Pivots}
use Rattle.matrix_echelon.specs.Group.{worked_rows, pivots_of}
use Rattle.matrix_echelon.specs.Reduced.{Lookable, Multipliers}
use Rattle.matrix_echelon.proofs.WorkedClear.{negative_residue, negative_below}

-- what the loop writes at place s: 0 less the number of row t at the pivot of row s
unfoldable pub opposite_at : (p width t : ℕ) (e pivots : List ℕ) → ℕ → ℕ
opposite_at p width t e pivots s = (reduce p 0 ⊕ negated (reduce p (get_or e (t * width + get_or pivots s 0) 0))).value

-- of r numbers written into an empty list, and a 0 at place t
module _ {p : ℕ} {v : Pivots} {t : ℕ} {e none by : List ℕ} (can : Lookable p v t e) (empty : Zeros longest_row none)
    (w : Walked v.rank (opposite_at p v.width t e v.places.now) none by) where
  here : t < length by
  here = omega (arith, can.one_of, v.placed.few, empty.0, w.long)

  multipliers_below : Below p (set by t 0)
  unfolding opposite_at
  multipliers_below q h = by_place (ℕ_discrete q t) (dec_lt q v.rank)
    where
      by_place : Dec (q ≡ t) → Dec (q < v.rank) → get_or (set by t 0) q 0 < p
      by_place (yes i) d = rw (i, get_or-set_same by t 0 0 here) can.positive
      by_place (no i) (yes l) =
          rw (get_or-set_other by t q 0 0 i) (negative_below p _ _ can.positive (w.passed q l))
      by_place (no i) (no l) =
          rw (get_or-set_other by t q 0 0 i ∙ w.left q (omega arith) ∙ empty.1 q) can.positive

  multiplier_at : (s : ℕ) → s < v.rank → reduce p (get_or (set by t 0) s 0) ≡ others (residues p) t (worked_rows p e v.width) (pivots_of v.places.now) s
  unfolding others opposite_at
  multiplier_at s h = by_place (ℕ_discrete s t)
    where
      opposite : Residue p
      opposite = negated (worked_rows p e v.width t (pivots_of v.places.now s))

      by_place : Dec (s ≡ t) → reduce p (get_or (set by t 0) s 0) ≡ choose (eqb s t) (reduce p 0) opposite
      by_place (yes i) =
          ap (λ n. reduce p (get_or (set by t 0) n 0)) i
          ∙ ap (reduce p) (get_or-set_same by t 0 0 here)
          ∙ ap (λ b. choose b (reduce p 0) opposite) (sym (eq-eqb s t i))
      by_place (no i) =
          negative_residue p _ _ can.positive (get_or-set_other by t s 0 0 i ∙ w.passed s h)
          ∙ ap (λ b. choose b (reduce p 0) opposite) (sym (ne_eqb s t i))

  pub multipliers_found : Multipliers p v t e (set by t 0)
  multipliers_found = record { long = length-set by t 0 ∙ w.long ∙ empty.0; below = multipliers_below; each = multiplier_at }
