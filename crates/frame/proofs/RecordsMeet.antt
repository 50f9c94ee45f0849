-- What seal's values say of the records: in each word their residues meet the frame that is sealed, which is why the records and the
-- frames that are sealed for them agree. And which records are sealed: record after record, and with the old low end 01's.
use mathlib.Core.Path.{◌≡◌, sym, ap, ◌∙◌}
use mathlib.Core.Logic.{◌↔◌}
use mathlib.Core.List.{List, [], ◌∷◌, ◌++◌}
use Prim.Native.Nat.{ℕ, zero, suc, ◌+◌, ◌<◌}
use native.Mathlib.Omega.{arith}
use lib.IntN.{ℤ, pos}
use lib.ListN.{length, get_or, get_or-append}
use lib.Seq.{get_or-append-add}
use Rattle.algebra.specs.Matrix.{sum}
use Rattle.algebra.proofs.Sums as sums
use Rattle.field.specs.Residue.{Residue, reduce, residues, ◌⊗◌}
use Rattle.field.specs.Written.{tabulate}
use Rattle.field.proofs.Residues.{reduce_value}
use Rattle.field.proofs.Field.{residues_ring}
use Rattle.field.proofs.Written.{get_d_tabulate}
use Rattle.signed.specs.Reading.{residue_of}
use Rattle.signed.specs.Balanced.{balanced_low, IsBalanced}
use Rattle.signed.proofs.Balanced.{balanced_record}
use Rattle.frame.specs.Sealing.{Records, word_place, word_of, sealed_word, sealed}

pub sealed_at : (p n s : ℕ) (zs : List ℤ) (xs : List ℕ) (w : ℕ) → w < s → get_or (sealed p n s zs xs) w 0 ≡ sealed_word p n s zs xs w
unfolding sealed
sealed_at p n s zs xs w h = get_d_tabulate s (sealed_word p n s zs xs) w h

-- the residues of the records meet the frame: for each word their sum of products with the multipliers is the sealed value
pub sealed_met : (p n s : ℕ) (zs : List ℤ) (xs : List ℕ) (w : ℕ) → 0 < p → w < s
    → sum (residues p) n (λ j. reduce p (get_or xs j 0) ⊗ reduce p (residue_of p (word_of s zs j w))) ≡ reduce p (get_or (sealed p n s zs xs) w 0)
unfolding sealed_word
sealed_met p n s zs xs w positive h =
    sums.sum_same (residues p) n _ _ (λ t h. (residues_ring p positive).times_comm _ _) ∙ sym (reduce_value _)
    ∙ ap (reduce p) (sym (sealed_at p n s zs xs w h))

-- ---- which records are sealed

-- records of some words each, one record after the other
pub joined : List (List ℤ) → List ℤ
joined [] = []
joined (r ∷ rs) = r ++ joined rs

-- "record after record": where record after record has s words, word w of record j is what sealing takes for it
pub record_after_record : (s : ℕ) (rs : List (List ℤ)) → ((j : ℕ) → j < length rs → length (get_or rs j []) ≡ s) → (j w : ℕ) → j < length rs → w < s
    → word_of s (joined rs) j w ≡ get_or (get_or rs j []) w (pos 0)
unfolding joined
record_after_record s [] long j w h l = absurd (omega arith)
record_after_record s (r ∷ rs) long zero w h l =
    let first : word_place s 0 w ≡ w = omega arith in
    ap (λ (k : ℕ). get_or (r ++ joined rs) k (pos 0)) first ∙ get_or-append r (joined rs) (pos 0) w (omega (arith, long 0 h))
record_after_record s (r ∷ rs) long (suc j) w h l =
    let behind : word_place s (suc j) w ≡ length r + word_place s j w = omega (arith, long 0 (omega arith)) in
    ap (λ (k : ℕ). get_or (r ++ joined rs) k (pos 0)) behind ∙ get_or-append-add r (joined rs) (word_place s j w) (pos 0)
    ∙ record_after_record s rs (λ i k. long (suc i) (omega arith)) j w (omega arith) l

-- with one word a record the value is 01's: the sum of products of the records and the multipliers modulo p
pub sealed_one : (p n : ℕ) (zs : List ℤ) (xs : List ℕ)
    → sealed p n 1 zs xs ≡ (sum (residues p) n (λ j. reduce p (residue_of p (get_or zs j (pos 0))) ⊗ reduce p (get_or xs j 0))).value ∷ []
unfolding sealed sealed_word tabulate
sealed_one p n zs xs =
    ap (λ (r : Residue p). r.value ∷ [])
    (sums.sum_same (residues p) n _ _
    (λ j h.
    let place : word_place 1 j 0 ≡ j = omega arith in
    ap (λ (k : ℕ). reduce p (residue_of p (get_or zs k (pos 0))) ⊗ reduce p (get_or xs j 0)) place))

-- with the old low end the records are those that lie from -(p - 1)/2 to p/2
pub records_balanced : (p : ℕ) (zs : List ℤ) → 0 < p
    → Records p (balanced_low p) zs ↔ ((i : ℕ) → i < length zs → IsBalanced p (get_or zs i (pos 0)))
records_balanced p zs positive = (
  λ r i h. (balanced_record p (get_or zs i (pos 0)) positive).0 (r i h),
  λ r i h. (balanced_record p (get_or zs i (pos 0)) positive).1 (r i h),
)
