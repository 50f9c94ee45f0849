-- A row is cleared at the pivots of the worked rows, one group of four after the other: at a group's pivots each multiplier
-- acts alone, as the rows of a group are zero at each other's pivots; and at earlier pivots the group's rows are zero.
use mathlib.Core.Path.{◌≡◌, refl, sym, ap, ap₂, ◌∙◌}
use Prim.Native.Nat.{ℕ, ◌+◌, ◌-◌, ◌*◌, ◌/◌, ◌≤◌, ◌<◌}
use native.Mathlib.Nat.{add_left_cancel}
use native.Mathlib.Decide.{dec_lt}
use native.Mathlib.Omega.{arith}
use lib.Dec.{ltb}
use borrow.Author.Tests.{le-ltb}
use Rattle.algebra.specs.Choice.{choose}
use Rattle.algebra.specs.Ring.{Ring, IsCommutativeRing}
use Rattle.algebra.specs.Matrix.{Vector, Matrix, unit, mixed}
use Rattle.algebra.specs.Echelon.{ClearedTo, Cleared, GroupAdded}
use Rattle.algebra.proofs.Rings as rings
use Rattle.algebra.proofs.Sums as sums
use Rattle.algebra.proofs.Applied as applied
use Rattle.algebra.proofs.Blocks.{Part, upper, lower, part, choose_upper, choose_lower}

module _ (R : Ring) (L : IsCommutativeRing R) (one_not_zero : R.one ≡ R.zero → ⊥) where
  open R use {zero as 𝟘, plus as ◌⊕◌, times as ◌⊗◌, minus}

  infixl 60 ◌⊕◌
  infixl 70 ◌⊗◌
  -- row i itself
  pub cleared_none : {i width : ℕ} {M : Matrix R} {r : ℕ} {E : Matrix R} {pivot : ℕ → ℕ} {x : Vector R}
      → ((j : ℕ) → j < width → x j ≡ M i j) → ClearedTo R 0 i width M r E pivot x
  unfolding mixed
  cleared_none {i} {M = M} {E = E} h =
      record {
        by = λ t. 𝟘;
        beyond = λ t l. refl;
        sums = λ j l. h j l ∙ sym (L.plus_zero (M i j)) ∙ ap (λ a. M i j ⊕ a) (sym (sums.sum_none R (λ t. 𝟘 ⊗ E t j)));
        zeros_at = λ s l k. absurd (omega arith);
      }

  -- once all worked rows are reached the row is cleared
  pub cleared_all : {g i width : ℕ} {M : Matrix R} {r : ℕ} {E : Matrix R} {pivot : ℕ → ℕ} {x : Vector R}
      → r ≤ g → ClearedTo R g i width M r E pivot x → Cleared R i width M r E pivot x
  cleared_all {g} {i} {M = M} {r = r} {E = E} l c =
      record {
        by = c.by;
        beyond = c.beyond;
        sums = λ j h. c.sums j h ∙ ap (λ a. M i j ⊕ a) (applied.mixed_ends R L r g c.by E j l c.beyond);
        zeros_at = λ s k h. c.zeros_at s k (omega arith);
      }

  -- the multipliers u of the first g rows, and behind them v of four more
  unfoldable joined : (g : ℕ) (u v : Vector R) → Vector R
  joined g u v t = choose (ltb t g) (u t) (choose (ltb (t - g) 4) (v (t - g)) 𝟘)

  joined_first : (g : ℕ) (u v : Vector R) (t : ℕ) → t < g → joined g u v t ≡ u t
  unfolding joined
  joined_first g u v t l = choose_upper g t (u t) (choose (ltb (t - g) 4) (v (t - g)) 𝟘) l

  joined_next : (g : ℕ) (u v : Vector R) (k : ℕ) → k < 4 → joined g u v (g + k) ≡ v k
  unfolding joined
  joined_next g u v k l =
      choose_lower g k (u (g + k)) (λ q. choose (ltb q 4) (v q) 𝟘) ∙ choose_upper 4 k (v k) 𝟘 l

  joined_end : (g : ℕ) (u v : Vector R) (k : ℕ) → 4 ≤ k → joined g u v (g + k) ≡ 𝟘
  unfolding joined
  joined_end g u v k l =
      choose_lower g k (u (g + k)) (λ q. choose (ltb q 4) (v q) 𝟘) ∙ ap (λ b. choose b (v k) 𝟘) (le-ltb k 4 l)

  mixed_joined : (g : ℕ) (u v : Vector R) (E : Matrix R) (j : ℕ)
      → mixed R (g + 4) (joined g u v) E j ≡ mixed R g u E j ⊕ mixed R 4 v (λ k. E (g + k)) j
  unfolding mixed
  mixed_joined g u v E j =
      sums.sum_split R L g 4 (λ t. joined g u v t ⊗ E t j)
      ∙ ap₂ (λ a b. a ⊕ b)
      (sums.sum_same R g (λ t. joined g u v t ⊗ E t j) (λ t. u t ⊗ E t j) (λ t l. ap (λ a. a ⊗ E t j) (joined_first g u v t l)))
      (sums.sum_same R 4 (λ k. joined g u v (g + k) ⊗ E (g + k) j) (λ k. v k ⊗ E (g + k) j)
      (λ k l. ap (λ a. a ⊗ E (g + k) j) (joined_next g u v k l)))

  module _ {i width : ℕ} {M : Matrix R} {r : ℕ} {E : Matrix R} {pivot : ℕ → ℕ} {x x' : Vector R} (q : ℕ)
      (cleared : (s t : ℕ) → s < r → t < r → s / 4 ≤ t / 4 → E t (pivot s) ≡ unit R s t) (below : (t : ℕ) → t < r → pivot t < width)
      (c : ClearedTo R (4 * q) i width M r E pivot x) (a : GroupAdded R (4 * q) width r E pivot x x')
    where
      -- what a row of the group adds at a pivot up to the group's, unless it is its own
      term_zero : (s : ℕ) → s < r → s < 4 * q + 4 → (k : ℕ) → k < 4 → (s ≡ 4 * q + k → ⊥) → a.by k ⊗ E (4 * q + k) (pivot s) ≡ 𝟘
      term_zero s l b k h d = go (dec_lt (4 * q + k) r)
        where
          go : Dec (4 * q + k < r) → a.by k ⊗ E (4 * q + k) (pivot s) ≡ 𝟘
          go (yes e) =
              ap (λ z. a.by k ⊗ z) (cleared s (4 * q + k) l e (omega arith) ∙ sums.unit_other R s (4 * q + k) d) ∙ rings.times_zero R L (a.by k)
          go (no e) = ap (λ z. z ⊗ E (4 * q + k) (pivot s)) (a.beyond k h (omega arith)) ∙ rings.zero_times R L (E (4 * q + k) (pivot s))

      -- at earlier pivots the group adds nothing
      earlier_zero : (s : ℕ) → s < r → s < 4 * q → x' (pivot s) ≡ 𝟘
      unfolding mixed
      earlier_zero s l b =
          a.sums (pivot s) (below s l)
          ∙ ap₂ (λ y z. y ⊕ z) (c.zeros_at s l b)
          (sums.sum_zeros R L 4 (λ k. a.by k ⊗ E (4 * q + k) (pivot s)) (λ k h. term_zero s l (omega arith) k h (omega arith)))
          ∙ L.plus_zero 𝟘

      -- at the pivot of its row k it adds what makes the number there zero
      group_zero : (k : ℕ) → k < 4 → 4 * q + k < r → x' (pivot (4 * q + k)) ≡ 𝟘
      unfolding mixed
      group_zero k h l =
          a.sums p (below (4 * q + k) l)
          ∙ ap (λ z. x p ⊕ z)
          (sums.sum_one R L 4 (λ t. a.by t ⊗ E (4 * q + t) p) k h
          (λ t b d. term_zero (4 * q + k) l (omega arith) t b (λ e. d (sym (add_left_cancel (4 * q) e))))
          ∙ ap₂ (λ y z. y ⊗ z) (a.at_pivot k h l) (cleared (4 * q + k) (4 * q + k) l l (omega arith) ∙ sums.unit_same R (4 * q + k))
          ∙ L.times_one (minus (x p)))
          ∙ L.plus_minus (x p)
        where
          p : ℕ
          p = pivot (4 * q + k)

      -- the next group is added
      pub cleared_group : ClearedTo R (4 * q + 4) i width M r E pivot x'
      cleared_group =
          record {
            by = joined (4 * q) c.by a.by;
            beyond = λ t l. beyond (part (4 * q) t) l;
            sums = λ j l.
                a.sums j l
                ∙ ap (λ y. y ⊕ mixed R 4 a.by (λ k. E (4 * q + k)) j) (c.sums j l)
                ∙ L.plus_assoc (M i j) (mixed R (4 * q) c.by E j) (mixed R 4 a.by (λ k. E (4 * q + k)) j)
                ∙ ap (λ y. M i j ⊕ y) (sym (mixed_joined (4 * q) c.by a.by E j));
            zeros_at = λ s l b. zero_at (part (4 * q) s) l b;
          }
        where
          beyond : {t : ℕ} → Part (4 * q) t → r ≤ t → joined (4 * q) c.by a.by t ≡ 𝟘
          beyond {t} (upper h) l = joined_first (4 * q) c.by a.by t h ∙ c.beyond t l
          beyond (lower k) l = go (dec_lt k 4)
            where
              go : Dec (k < 4) → joined (4 * q) c.by a.by (4 * q + k) ≡ 𝟘
              go (yes h) = joined_next (4 * q) c.by a.by k h ∙ a.beyond k h l
              go (no h) = joined_end (4 * q) c.by a.by k (omega arith)

          zero_at : {s : ℕ} → Part (4 * q) s → s < r → s < 4 * q + 4 → x' (pivot s) ≡ 𝟘
          zero_at {s} (upper h) l b = earlier_zero s l h
          zero_at (lower k) l b = group_zero k (omega arith) l
