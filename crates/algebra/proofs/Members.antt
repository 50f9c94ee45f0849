-- The members of a set of positions in rising order: the place of a member is the number of members before it. Each place below the
-- number of members has its member, and only one, so that a sum over places is a sum over the members.
use mathlib.Core.Path.{◌≡◌, refl, sym, ap, ap₂, ◌∙◌}
use mathlib.Core.Bool.{Bool, true, false, not}
use mathlib.Core.Logic.{⊎_elim}
use Prim.Native.Nat.{ℕ, suc, ◌+◌, ◌≤◌, ◌<◌}
use native.Mathlib.Nat.{le_of_suc-le-suc, eq-or-lt_of_le}
use native.Mathlib.Decide.{dec_le}
use native.Mathlib.Omega.{arith}
use lib.Dec.{eqb}
use borrow.Author.Tests.{eqb-true, eqb-false}
use Rattle.algebra.specs.Choice.{choose}
use Rattle.algebra.specs.Ring.{Ring, IsCommutativeRing}
use Rattle.algebra.specs.Matrix.{Vector, sum}
use Rattle.algebra.specs.Quasiinverse.{Marks, count}
use Rattle.algebra.proofs.Marks.{by_test}
use Rattle.algebra.proofs.Sums.{sum_next}
use Rattle.algebra.proofs.Independent.{count_next}

-- a set and its complement have all positions
pub count_complement : (n : ℕ) (I : Marks) → count n (λ c. not (I c)) + count n I ≡ n
unfolding count
count_complement ℕ.zero I = refl
count_complement (suc n) I = let e = count_complement n I in let f = one (I n) in omega arith
  where
    one : (b : Bool) → choose (not b) 1 0 + choose b 1 0 ≡ 1
    one true = refl
    one false = refl

module _ (K : Marks) where
  -- the places of the next position
  pub count_member : (c : ℕ) → K c ≡ true → count (suc c) K ≡ suc (count c K)
  count_member c e = omega (arith, count_next c K ∙ ap (λ b. count c K + choose b 1 0) e)

  pub count_other : (c : ℕ) → K c ≡ false → count (suc c) K ≡ count c K
  count_other c e = omega (arith, count_next c K ∙ ap (λ b. count c K + choose b 1 0) e)

  -- the place of a member is below the number of members
  pub member_before : (c n : ℕ) → c < n → K c ≡ true → count c K < count n K
  member_before c ℕ.zero l e = absurd (omega arith)
  member_before c (suc n) l e =
      ⊎_elim
      (λ d. omega (arith, count_member c e, ap (λ q. count (suc q) K) d))
      (λ d. omega (arith, member_before c n d e, count_next n K))
      (eq-or-lt_of_le (le_of_suc-le-suc l))

  -- two members do not share a place
  pub member_once : (c d : ℕ) → K c ≡ true → K d ≡ true → count c K ≡ count d K → c ≡ d
  member_once c d h l e = go (dec_le c d)
    where
      go : Dec (c ≤ d) → c ≡ d
      go (yes b) = ⊎_elim (λ q. q) (λ q. absurd (omega (arith, member_before c d q h))) (eq-or-lt_of_le b)
      go (no b) = absurd (omega (arith, member_before d c (omega arith) l))

  -- c is the member below n with t members before it
  abbrev IsMemberAt : (n t c : ℕ) → Type 0
  IsMemberAt n t c = (c < n) × (K c ≡ true) × (count c K ≡ t)

  -- it, where there is one
  unfoldable pub member_at : (n t : ℕ) → ℕ
  member_at ℕ.zero t = 0
  member_at (suc n) t = choose (K n) (choose (eqb t (count n K)) n (member_at n t)) (member_at n t)

  pub member_at_lem : (n t : ℕ) → t < count n K → IsMemberAt n t (member_at n t)
  unfolding member_at count
  member_at_lem ℕ.zero t h = absurd (omega arith)
  member_at_lem (suc n) t h = go (K n) refl (member_at_lem n t)
    where
      wider : (c : ℕ) → IsMemberAt n t c → IsMemberAt (suc n) t c
      wider c (l, k, e) = (omega arith, k, e)

      go : (b : Bool) → K n ≡ b → (t < count n K → IsMemberAt n t (member_at n t))
          → IsMemberAt (suc n) t (choose b (choose (eqb t (count n K)) n (member_at n t)) (member_at n t))
      go false e ih = wider _ (ih (omega (arith, count_other n e)))
      go true e ih = last (eqb t (count n K)) refl
        where
          last : (b : Bool) → eqb t (count n K) ≡ b → IsMemberAt (suc n) t (choose b n (member_at n t))
          last true q = (omega arith, e, sym (eqb-true _ _ q))
          last false q = wider _ (ih (let d : t ≡ count n K → ⊥ = eqb-false _ _ q in omega (arith, count_member n e)))

  -- the member at a member's place is that member
  pub member_at_place : (n c : ℕ) → c < n → K c ≡ true → member_at n (count c K) ≡ c
  member_at_place n c l e =
      let (_, k, p) = member_at_lem n (count c K) (member_before c n l e) in
      member_once _ c k e p

  -- a sum over the places is a sum over the members
  pub sum_members : (R : Ring) → IsCommutativeRing R → (n : ℕ) (f : Vector R)
      → sum R (count n K) f ≡ sum R n (λ c. choose (K c) (f (count c K)) R.zero)
  unfolding sum count
  sum_members R L ℕ.zero f = refl
  sum_members R L (suc n) f =
      let ih = sum_members R L n f in
      by_test (K n)
      (λ e.
      ap (λ k. sum R k f) (count_member n e)
      ∙ sum_next R (count n K) f
      ∙ ap₂ R.plus ih (sym (ap (λ b. choose b (f (count n K)) R.zero) e)))
      (λ e.
      ap (λ k. sum R k f) (count_other n e)
      ∙ sym (L.plus_zero _)
      ∙ ap₂ R.plus ih (sym (ap (λ b. choose b (f (count n K)) R.zero) e)))
