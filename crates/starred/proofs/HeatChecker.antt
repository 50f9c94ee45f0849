-- Tests that compute on the rows of a ledger, and what they tell. A vector that the rows send to zero, and a frame's multipliers do
-- not, shows that these are no combination of the rows; the numbers of a combination show that they are one. A record is settled
-- where its unit row is a combination of the rows, and is not where the rows send a vector to zero that is not zero there. So every
-- answer of take and everything that show gives is told by a test, and no decision is opened.
use mathlib.Core.Path.{◌≡◌, refl, sym, ap, ap₂, ◌∙◌}
use mathlib.Core.Bool.{Bool, true, false, not, and-eq-true_iff}
use mathlib.Core.List.{List, [], ◌∷◌, ◌++◌, append-nil}
use Prim.Native.Nat.{ℕ, zero, suc, ◌<◌}
use native.Mathlib.Omega.{arith}
use lib.Dec.{eqb}
use lib.IntN.{ℤ, pos, negsuc}
use lib.ListN.{length, get_or}
use borrow.Author.Tests.{eqb-true, eqb-false, eq-eqb, not-true}
use Rattle.algebra.specs.Ring.{IsCommutativeRing}
use Rattle.algebra.specs.Matrix.{Vector, Matrix, sum, unit, apply, mixed}
use Rattle.algebra.specs.Span.{Combines, IsCombination, InKernel}
use Rattle.algebra.proofs.Counts.{true_not_false}
use Rattle.algebra.proofs.Rings as rings
use Rattle.algebra.proofs.Sums as sums
use Rattle.algebra.proofs.Applied as applied
use Rattle.checks.specs.declared.Refusal.TheVariants.{Conflict}
use Rattle.checks.specs.Told.{refused}
use Rattle.checks.specs.Outcome.{outcome}
use Rattle.checks.specs.Largest.{WordCount}
use Rattle.checks.specs.Prime.{IsModulus}
use Rattle.field.specs.Residue.{Residue, reduce, residues, ◌⊕◌, ◌⊗◌, negated}
use Rattle.field.proofs.Field.{residues_ring}
use Rattle.field.proofs.Residues.{residue_path}
use Rattle.signed.specs.Reading.{reading}
use Rattle.signed.specs.Balanced.{balanced_low}
use Rattle.matrix.proofs.Checker.{◌and◌, every_below, both, every_below_lem}
use Rattle.matrix.proofs.CheckedTables.{are_same, all_same, same}
use Rattle.ledger.specs.Ledger.{Entry, entry, ledger, Assignment, GivesValues, MeetsAll, Settled, multiplier_rows, value_table}
use Rattle.ledger.specs.Proper.{Proper}
use Rattle.ledger.specs.Steps.{new_told, repeat_told, mix_words, take_accepted, shown_mark, shown_number}
use Rattle.ledger.proofs.LedgerLaws.{take_new, take_repeat, take_conflict, standing_met, shown_exactly}
use Rattle.starred.specs.Heat.{Answer, new, repeat, conflict, told, mix_after, kept}

-- ---- residues and signed numbers that are compared

same_residue : {p : ℕ} (x y : Residue p) → same x y ≡ true → x ≡ y
unfolding same
same_residue x y t = residue_path (eqb-true _ _ t)

other_residue : {p : ℕ} (x y : Residue p) → not (same x y) ≡ true → x ≡ y → ⊥
unfolding same
other_residue x y t e = eqb-false _ _ (not-true _ t) (ap (λ (a : Residue _). a.value) e)

-- what holds of every number below n passes the test of them
passes_below : (n : ℕ) (f : ℕ → Bool) → ((k : ℕ) → k < n → f k ≡ true) → every_below n f ≡ true
unfolding every_below ◌and◌
passes_below zero f h = refl
passes_below (suc n) f h = (and-eq-true_iff _ _).1 (passes_below n f (λ k l. h k (omega arith)), h n (omega arith))

unfoldable pub sameℤ : ℤ → ℤ → Bool
sameℤ (pos a) (pos b) = eqb a b
sameℤ (negsuc a) (negsuc b) = eqb a b
sameℤ (pos a) (negsuc b) = false
sameℤ (negsuc a) (pos b) = false

same_number : (x y : ℤ) → sameℤ x y ≡ true → x ≡ y
unfolding sameℤ
same_number (pos a) (pos b) t = ap pos (eqb-true _ _ t)
same_number (negsuc a) (negsuc b) t = ap negsuc (eqb-true _ _ t)
same_number (pos a) (negsuc b) t = cc
same_number (negsuc a) (pos b) t = cc

-- numbers as residues
abbrev pub vector : (p : ℕ) → List ℕ → Vector (residues p)
vector p xs j = reduce p (get_or xs j 0)

-- a record is settled by a combination of the rows, or free by a vector that they send to zero
pub data Witness : Type 0 where
  settled_by : (combination : List ℕ) → Witness
  free_by : (sent : List ℕ) → Witness

module _ (p n s : ℕ) (es : List Entry) where
  abbrev rows : Matrix (residues p)
  rows = multiplier_rows p es

  -- ---- the tests

  -- the rows send x to zero
  unfoldable pub send_to_zero : Vector (residues p) → Bool
  send_to_zero x = every_below (length es) (λ i. same (apply (residues p) n rows x i) (reduce p 0))

  -- v is the combination u of the rows
  unfoldable pub is_combination : (u v : Vector (residues p)) → Bool
  is_combination u v = every_below n (λ j. same (v j) (mixed (residues p) (length es) u rows j))

  -- the sum of products of two vectors, and of a combination and the values of word w
  abbrev times : (v x : Vector (residues p)) → Residue p
  times v x = sum (residues p) n (λ j. v j ⊗ x j)

  abbrev value_by : Vector (residues p) → (w : ℕ) → Residue p
  value_by u w = sum (residues p) (length es) (λ t. u t ⊗ value_table p es t w)

  -- the combination u of the values is vs, in all s of them
  unfoldable pub gives_values : Vector (residues p) → List ℕ → Bool
  gives_values u vs = every_below s (λ w. same (value_by u w) (reduce p (get_or vs w 0)))

  -- the mix begins with a combination of the rows that gives the multipliers xs, and is 0 after it
  unfoldable pub is_mix : (xs mix : List ℕ) → Bool
  is_mix xs mix = is_combination (vector p mix) (vector p xs) and are_same (mix_words p n es (vector p mix)) mix

  -- the answer is the one to the frame with multipliers xs and values vs; x separates the multipliers from the rows
  unfoldable pub is_answer : (xs vs x : List ℕ) → Answer → Bool
  is_answer xs vs x (new count) =
      eqb (suc (length es)) count and send_to_zero (vector p x) and not (same (times (vector p xs) (vector p x)) (reduce p 0))
  is_answer xs vs x (repeat count mix) = eqb (length es) count and is_mix xs mix and gives_values (vector p mix) vs
  is_answer xs vs x (conflict mix) = is_mix xs mix and not (gives_values (vector p mix) vs)

  -- show with the old low end gives the mark and the numbers of record j, one for each word
  unfoldable pub is_shown : (j mark : ℕ) (number : ℕ → ℤ) → Witness → Bool
  is_shown j mark number (settled_by u) =
      eqb 1 mark
      and every_below s (λ w. sameℤ (reading p (balanced_low p) (value_by (vector p u) w).value) (number w))
      and is_combination (vector p u) (unit (residues p) j)
  is_shown j mark number (free_by x) =
      eqb 0 mark and every_below s (λ w. sameℤ (pos 0) (number w)) and send_to_zero (vector p x) and not (same (vector p x j) (reduce p 0))

  -- ---- what they tell

  sent : (x : Vector (residues p)) → send_to_zero x ≡ true → InKernel (residues p) (length es) n rows x
  unfolding send_to_zero
  sent x t i h = same_residue _ _ (every_below_lem (length es) _ t i h)

  combined : (u v : Vector (residues p)) → is_combination u v ≡ true → Combines (residues p) (length es) n rows u v
  unfolding is_combination
  combined u v t j h = same_residue _ _ (every_below_lem n _ t j h)

  gives_values_lem : (u : Vector (residues p)) (vs : List ℕ) → gives_values u vs ≡ true → GivesValues p s es u vs
  unfolding gives_values
  gives_values_lem u vs t w h = same_residue _ _ (every_below_lem s _ t w h)

  gives_others : (u : Vector (residues p)) (vs : List ℕ) → not (gives_values u vs) ≡ true → GivesValues p s es u vs → ⊥
  unfolding gives_values same
  gives_others u vs t given =
      true_not_false (passes_below s _ (λ w h. eq-eqb _ _ (ap (λ (a : Residue p). a.value) (given w h)))) (not-true _ t)

  module _ (ok : IsModulus p) where
    L : IsCommutativeRing (residues p)
    L = residues_ring p (omega (arith, ok.prime.two_or_more))

    -- (u X) x = u (X x)
    combination_times : (u v x : Vector (residues p)) → Combines (residues p) (length es) n rows u v
        → times v x ≡ sum (residues p) (length es) (λ t. u t ⊗ apply (residues p) n rows x t)
    combination_times u v x c =
        sums.sum_same (residues p) n (λ j. v j ⊗ x j) (λ j. mixed (residues p) (length es) u rows j ⊗ x j)
        (λ j l. ap (λ a. a ⊗ x j) (c j l))
        ∙ applied.mixed_apply (residues p) L n (length es) u rows x

    -- a vector that the rows send to zero, and v does not, separates v from all combinations
    separated : (v x : Vector (residues p)) → InKernel (residues p) (length es) n rows x → (times v x ≡ reduce p 0 → ⊥)
        → IsCombination (residues p) (length es) n rows v → ⊥
    separated v x kernel other (u, c) =
        other
        (combination_times u v x c
        ∙ sums.sum_zeros (residues p) L (length es) (λ t. u t ⊗ apply (residues p) n rows x t)
        (λ t h. ap (λ a. u t ⊗ a) (kernel t h) ∙ rings.times_zero (residues p) L (u t)))

    -- where the unit row of j is the combination u, all assignments have u's sums of values at j
    settled_at : (u : Vector (residues p)) (j : ℕ) → j < n → Combines (residues p) (length es) n rows u (unit (residues p) j)
        → (x : Assignment p) → MeetsAll p n s es x → (w : ℕ) → w < s → x j w ≡ value_by u w
    unfolding apply multiplier_rows value_table
    settled_at u j l c x met w b =
        sym (sums.unit_sum (residues p) L n (λ i. x i w) j l)
        ∙ combination_times u (unit (residues p) j) (λ i. x i w) c
        ∙ sums.sum_same (residues p) (length es) (λ t. u t ⊗ apply (residues p) n rows (λ i. x i w) t) (λ t. u t ⊗ value_table p es t w)
        (λ t h. ap (λ a. u t ⊗ a) (met t h w b))

    module _ (proper : Proper p n s es) where
      -- where the rows send x to zero, and x is not zero at j, two assignments differ there, in every word and so in the first
      free_at : WordCount s → (x : Vector (residues p)) (j : ℕ) → InKernel (residues p) (length es) n rows x → (x j ≡ reduce p 0 → ⊥)
          → Settled p n s es j → ⊥
      unfolding apply multiplier_rows value_table
      free_at words x j kernel other settled =
          let (y, met) = standing_met p ok n s es proper in
          let z : Assignment p = λ t w. y t w ⊕ negated (x t) in
          let meets : MeetsAll p n s es z = λ i h w b.
          applied.apply_difference (residues p) L n rows (λ t. y t w) x i
          ∙ applied.less_zero (residues p) L (apply (residues p) n rows (λ t. y t w) i) (apply (residues p) n rows x i) (kernel i h)
          ∙ met i h w b in
          other
          (sym (rings.minus_minus (residues p) L (x j))
          ∙ ap negated (rings.plus_cancel (residues p) L (y j 0) (negated (x j)) (settled z y meets met 0 words.0))
          ∙ rings.minus_zero (residues p) L)

      -- the answer that passes is take's
      pub answer_taken : (xs vs x mix : List ℕ) (a : Answer) → is_answer xs vs x a ≡ true
          → take_accepted p ok n s (ledger es) xs vs mix ≡ outcome (told a) (ledger (es ++ kept a (entry xs vs)), mix_after a mix)
      unfolding is_answer is_mix
      answer_taken xs vs x mix (new count) t =
          let (t, other) = both _ _ t in
          let (many, kernel) = both _ _ t in
          take_new p ok n s es xs vs mix (separated (vector p xs) (vector p x) (sent _ kernel) (other_residue _ _ other))
          ∙ ap (λ k. outcome (new_told k) (ledger (es ++ (entry xs vs ∷ [])), mix)) (eqb-true _ _ many)
      answer_taken xs vs x mix (repeat count u) t =
          let (t, values) = both _ _ t in
          let (many, mixed) = both _ _ t in
          let (combination, words) = both _ _ mixed in
          take_repeat p ok n s es proper xs vs mix (vector p u, combined _ _ combination) (gives_values_lem _ _ values)
          ∙ ap (λ k. outcome (repeat_told k) (ledger es, mix_words p n es (vector p u))) (eqb-true _ _ many)
          ∙ ap₂ (λ ds ws. outcome (repeat_told count) (ledger ds, ws)) (sym (append-nil es)) (all_same _ _ words)
      answer_taken xs vs x mix (conflict u) t =
          let (mixed, others) = both _ _ t in
          let (combination, words) = both _ _ mixed in
          take_conflict p ok n s es proper xs vs mix (vector p u, combined _ _ combination) (gives_others _ _ others)
          ∙ ap₂ (λ ds ws. outcome (refused Conflict) (ledger ds, ws)) (sym (append-nil es)) (all_same _ _ words)

      -- the mark and the numbers that pass are show's
      pub record_shown : WordCount s → (j mark : ℕ) (number : ℕ → ℤ) (by : Witness) → j < n → is_shown j mark number by ≡ true
          → (mark ≡ shown_mark p ok n s es j) × ((w : ℕ) → w < s → number w ≡ shown_number p ok n s es (balanced_low p) j w)
      unfolding is_shown
      record_shown words j mark number (settled_by u) l t =
          let (t, combination) = both _ _ t in
          let (marked, read) = both _ _ t in
          let at = settled_at (vector p u) j l (combined _ _ combination) in
          let (x, met) = standing_met p ok n s es proper in
          let (one, read_off) = (shown_exactly p ok n s es proper (balanced_low p) j).0 (λ y z m k w b. at y m w b ∙ sym (at z k w b)) x met in (
            sym (eqb-true _ _ marked) ∙ sym one,
            λ w b.
                sym (same_number _ _ (every_below_lem s _ read w b))
                ∙ ap (λ (a : Residue p). reading p (balanced_low p) a.value) (sym (at x met w b))
                ∙ sym (read_off w b),
          )
      record_shown words j mark number (free_by x) l t =
          let (t, other) = both _ _ t in
          let (t, kernel) = both _ _ t in
          let (marked, read) = both _ _ t in
          let (none, nought) =
          (shown_exactly p ok n s es proper (balanced_low p) j).1 (free_at words (vector p x) j (sent _ kernel) (other_residue _ _ other)) in (
            sym (eqb-true _ _ marked) ∙ sym none,
            λ w b. sym (same_number _ _ (every_below_lem s _ read w b)) ∙ sym (nought w b),
          )
