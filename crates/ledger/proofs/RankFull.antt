-- When all solutions of a system agree: as many independent rows as columns make them agree; with fewer rows than columns the unit row
-- of a column outside I is no combination of them, so that there are as many rows as columns at least where all unit rows are.
use mathlib.Core.Path.{◌≡◌, sym, ap, ◌∙◌}
use mathlib.Core.Bool.{false}
use Prim.Native.Nat.{ℕ, suc, ◌+◌, ◌≤◌, ◌<◌}
use native.Mathlib.Nat.{not-suc-le-zero, lt-suc_self, le_step}
use native.Mathlib.Decide.{dec_lt}
use native.Mathlib.Omega.{arith}
use Rattle.algebra.specs.Choice.{choose}
use Rattle.algebra.specs.Ring.{Ring, IsCommutativeRing, IsField}
use Rattle.algebra.specs.Matrix.{Vector, Matrix, unit, apply, mixed, cut}
use Rattle.algebra.specs.Span.{IsCombination, Independent, Solves}
use Rattle.algebra.specs.Quasiinverse.{Marks, count}
use Rattle.algebra.specs.Kernel.{kernel_vector}
use Rattle.algebra.proofs.Rings as rings
use Rattle.algebra.proofs.Sums as sums
use Rattle.algebra.proofs.Applied as applied
use Rattle.algebra.proofs.Marks.{by_test}
use Rattle.algebra.proofs.Kernel.{kernel_vector_in, kernel_vector_own, kernel_vector_chosen}
use Rattle.algebra.proofs.Settled.{agree_if}
use Rattle.algebra.proofs.Exists.{PivotInverse, pivot_inverse}
use Rattle.algebra.proofs.Decide.{cut_inside, cut_sized}
use Rattle.algebra.proofs.Independent.{count_next, count_most, all_marked, all_counted}
use Rattle.algebra.proofs.Alike.{mixed_alike}
use Rattle.ledger.proofs.RankRows.{apply_alike, all_chosen}

-- a set with fewer than n members below n lacks one of them
pub unmarked : (n : ℕ) (I : Marks) → count n I < n → (c : ℕ) × (c < n) × (I c ≡ false)
unmarked ℕ.zero I h = absurd (not-suc-le-zero h)
unmarked (suc n) I h =
    by_test (I n)
    (λ e.
    let next : count (suc n) I ≡ count n I + 1 = count_next n I ∙ ap (λ b. count n I + choose b 1 0) e in
    let (c, l, f) = unmarked n I (omega arith) in
    (c, le_step l, f))
    (λ e. (n, lt-suc_self n, e))

module _ (R : Ring) (F : IsField R) (k n : ℕ) (X : Matrix R) where
  abbrev L : IsCommutativeRing R
  L = F.ring

  abbrev C : Matrix R
  C = cut R k n X

  -- the quasiinverse of the rows
  S : PivotInverse R k n C
  S = pivot_inverse R F k n C (cut_sized R k n X)

  to_cut : (x w : Vector R) → Solves R k n X x w → Solves R k n C x w
  to_cut x w s i h = apply_alike R C X (cut_inside R k n X) x i h ∙ s i h

  -- n independent rows: the solutions agree at every column
  pub full_agree : k ≡ n → Independent R k n X → (w x y : Vector R) → Solves R k n X x w → Solves R k n X y w
      → (j : ℕ) → j < n → x j ≡ y j
  full_agree full free w x y s t j l = at x s ∙ sym (at y t)
    where
      counted : count n S.I ≡ n
      counted = S.holds.equally_many ∙ all_counted k S.J (all_chosen R F k n X free S.holds) ∙ full

      at : (v : Vector R) → Solves R k n X v w → v j ≡ apply R k S.D w j
      at v h =
          agree_if R L S.holds.absorbs w j l (λ c b. kernel_vector_chosen R L S.holds c j (all_marked n S.I counted c b)) v (to_cut v w h)

  -- fewer rows than columns: the unit row of some column is no combination of them, as the kernel vector of a column outside I
  -- is 1 on it and 0 on the rows
  pub free_unit : k < n → (c : ℕ) × (c < n) × (IsCombination R k n X (unit R c) → ⊥)
  free_unit less =
      let (c, l, e) = unmarked n S.I (omega (arith, S.holds.equally_many, count_most k S.J)) in (c, l, outside c l e)
    where
      outside : (c : ℕ) → c < n → S.I c ≡ false → IsCombination R k n X (unit R c) → ⊥
      outside c l e (u, h) =
          F.one_not_zero
          (sym (kernel_vector_own R L S.holds c c e ∙ sums.unit_same R c)
          ∙ sym (sums.unit_sum R L n x c l)
          ∙ sums.sum_same R n (λ j. R.times (unit R c j) (x j)) (λ j. R.times (mixed R k u C j) (x j))
          (λ j b. ap (λ a. R.times a (x j)) (h j b ∙ sym (mixed_alike R k n C X (cut_inside R k n X) u j b)))
          ∙ applied.mixed_apply R L n k u C x
          ∙ sums.sum_zeros R L k (λ s. R.times (u s) (apply R n C x s))
          (λ s b. ap (R.times (u s)) (kernel_vector_in R L S.holds.absorbs c l s b) ∙ rings.times_zero R L (u s)))
        where
          x : Vector R
          x = kernel_vector R k S.D C c

  -- so where all unit rows are combinations of the rows, there are n rows at least
  pub unit_rows : ((c : ℕ) → c < n → IsCombination R k n X (unit R c)) → n ≤ k
  unit_rows all = go (dec_lt k n)
    where
      go : Dec (k < n) → n ≤ k
      go (no h) = omega arith
      go (yes h) = let (c, l, free) = free_unit h in absurd (free (all c l))
