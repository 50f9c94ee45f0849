-- What `combine` has in its sums of limbs after t rows, and what it leaves in the end. Each turn adds the sums of four products;
-- `RowTaken` says of each of the four rows how far the rows are worked off with it.
use mathlib.Core.Path.{◌≡◌, ap, ◌∙◌}
use mathlib.Core.List.{List}
use Prim.Native.Nat.{ℕ, ◌+◌, ◌*◌, ◌<◌, ◌≤◌}
use native.Mathlib.Nat.{mul-zero}
use native.Mathlib.Omega.{arith}
use lib.ListN.{length, get_or}
use mir.Val.{Fits}
use mir.Syntax.{w64}
use Rattle.field.specs.Residue.{reduce, ◌⊕◌}
use Rattle.words.specs.Lengths.{longest_row, widest_row}
use Rattle.field.specs.Totals.{products}
use Rattle.matrix_mul.specs.declared.Place.{Place}
use Rattle.matrix_mul.specs.declared.limbs.Limbs.{Limbs}
use Rattle.matrix_mul.specs.declared.rows.Four.{Four}
use Rattle.matrix_mul.specs.Rows.{Shorts, PassesOver, Passes, FourTaken, NoLimbs, Ready, Added, whole_at, Summed, CombinedInto}
use Rattle.matrix_mul.specs.Rows.{product_at, four_at, part_at, sum_at, summed_number}
use Rattle.field.proofs.Totals.{total_zero, reduce_products}
use Rattle.field.proofs.Residues.{reduce_plus}
use Rattle.field.proofs.Limbs.{Sums, sums_none, sums_more, sums_widen, sums_low_fits, sums_high_fits, number_fits}
use Rattle.matrix_mul.proofs.RowsTaken.{quarter_product, four_fit}

-- where the same numbers are added, the same is left
pub summed_same : {p : ℕ} {v w : ℕ → ℕ} {before after : List ℕ} → ((j : ℕ) → j < length before → v j ≡ w j)
    → Summed p v before after → Summed p w before after
unfolding summed_number
summed_same {p} {before = before} e s =
    record {
      long = s.long;
      summed_at = λ j h. s.summed_at j h ∙ ap (λ n. (reduce p (get_or before j 0 + n)).value) (e j h);
    }

-- the sums hold at the first `width` places the limbs of what the first t rows add there
pub record RowsHeld (by table : List ℕ) (Y : Place) (width t : ℕ) (s : Limbs) : Type 0 where
  pub held_at : (j : ℕ) → j < width → Sums t (get_or s.lo j 0) (get_or s.hi j 0) (part_at by table Y t j)

module _ {by table : List ℕ} {Y : Place} {width : ℕ} where
  -- before the first row the sums are zeros
  pub held_none : {s : Limbs} → NoLimbs s → RowsHeld by table Y width 0 s
  held_none none = record { held_at = λ j h. rw (none.low_zeros.1 j, none.high_zeros.1 j, total_zero) sums_none }

  -- the sums have room for four rows more
  pub held_ready : {t : ℕ} {s : Limbs} → t ≤ longest_row → width ≤ widest_row → RowsHeld by table Y width t s → Ready width s
  held_ready {t} {s} b n h =
      record {
        small = n;
        fits_lo = λ j k. sums_low_fits t (get_or s.lo j 0) (get_or s.hi j 0) _ (omega arith) (h.held_at j k);
        fits_hi = λ j k. sums_high_fits t (get_or s.lo j 0) (get_or s.hi j 0) _ (omega arith) (h.held_at j k);
      }

  -- four rows more
  module _ {next : List ℕ} (passes : Passes (length by) next Y width table) (short : Shorts table) {t : ℕ} {f : Four}
      (taken : FourTaken by next Y t f)
    where
      -- rows of zeros add nothing
      over : (j : ℕ) → j < width → PassesOver (length by) next (products by table (Y.start + j) Y.stride)
      unfolding products
      over j k s u h l g =
          let here : Y.start + j + u * Y.stride ≡ Y.start + u * Y.stride + j = omega arith in
          rw (here, passes.zeros j k s u h l g, mul-zero)

      sum_four : (j : ℕ) → j < width → part_at by table Y t j + four_at table f j ≡ part_at by table Y f.d.next j
      unfolding four_at
      sum_four j k =
          let o = over j k in
          omega (
            arith,
            taken.first.added table j o,
            taken.second.added table j o,
            taken.third.added table j o,
            taken.fourth.added table j o,
          )

      four_fits : (j : ℕ) → Fits w64 (four_at table f j)
      unfolding four_at product_at
      four_fits j =
          number_fits _
          (four_fit _ _ _ _ (quarter_product _ _ taken.first.short (short _)) (quarter_product _ _ taken.second.short (short _))
          (quarter_product _ _ taken.third.short (short _)) (quarter_product _ _ taken.fourth.short (short _)))

      pub held_four : {s s' : Limbs} → t < length by → RowsHeld by table Y width t s → Added width (four_at table f) s s'
          → RowsHeld by table Y width f.d.next s'
      held_four {s} l h a =
          record {
            held_at =
                λ j k. rw (a.low_at j k, a.high_at j k, ← sum_four j k)
                (sums_widen (t + 1) f.d.next _ _ _
                (omega (arith, taken.first.onward l, taken.second.later, taken.third.later, taken.fourth.later))
                (sums_more t (get_or s.lo j 0) (get_or s.hi j 0) _ _ (h.held_at j k) (four_fits j)));
          }

      -- where no row is left, four rows from the first on are all
      pub four_all : t ≡ 0 → f.d.next ≡ length by → (j : ℕ) → j < width → four_at table f j ≡ sum_at by table Y j
      four_all first last j k =
          let none : part_at by table Y t j ≡ 0 = ap (λ n. part_at by table Y n j) first ∙ total_zero _ in
          omega (arith, sum_four j k) ∙ ap (λ n. part_at by table Y n j) last

  -- what the sums stand for in the end
  pub held_whole : {s : Limbs} → RowsHeld by table Y width (length by) s → (j : ℕ) → j < width
      → whole_at s j ≡ sum_at by table Y j
  unfolding whole_at
  held_whole h j k = (h.held_at j k).same

-- the combination of the rows, in residues
pub summed_combined : {p : ℕ} (by table : List ℕ) (Y : Place) {before after : List ℕ} → Summed p (sum_at by table Y) before after
    → CombinedInto p by table Y.start Y.stride before after
unfolding summed_number
summed_combined {p} by table Y {before} s = (
  s.long,
  λ j k.
      s.summed_at j k
      ∙ ap (λ r. r.value)
      (reduce_plus p (get_or before j 0) (sum_at by table Y j)
      ∙ ap (λ r. reduce p (get_or before j 0) ⊕ r) (reduce_products p (length by) by table (Y.start + j) Y.stride)),
)
