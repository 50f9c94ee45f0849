-- The width of a modulus is the fewest bytes that hold p - 1: by its four cases. Then what the frames need of it: that it is from 1 to 4,
-- what that makes of 64 numbers, and that numbers below p fit it.
use mathlib.Core.Path.{◌≡◌, ◌∙◌}
use Prim.Native.Nat.{ℕ, suc, ◌*◌, ◌-◌, ◌^◌, ◌≤◌, ◌<◌}
use native.Mathlib.Nat.{mul-le-mul, pow-le-pow_right}
use native.Mathlib.Decide.{dec_le}
use native.Mathlib.Omega.{arith}
use lib.Dec.{leb}
use borrow.Author.Tests.{le-leb, lt-leb}
use Rattle.algebra.specs.Choice.{choose}
use Rattle.checks.specs.Prime.{IsModulus}
use Rattle.frame.specs.Width.{width, Holds, Fewest}

-- ---- the four cases

at_most : (a b p k : ℕ) → p ≤ k → choose (leb p k) a b ≡ a
at_most a b p k h = rw (le-leb p k h)

above : (a b p k : ℕ) → k < p → choose (leb p k) a b ≡ b
above a b p k h = rw (lt-leb p k h)

pub width_one : (p : ℕ) → p ≤ 256 → width p ≡ 1
unfolding width
width_one p h = at_most _ _ p _ (omega arith)

pub width_two : (p : ℕ) → 256 < p → p ≤ 65536 → width p ≡ 2
unfolding width
width_two p l h = above _ _ p _ (omega arith) ∙ at_most _ _ p _ (omega arith)

pub width_three : (p : ℕ) → 65536 < p → p ≤ 16777216 → width p ≡ 3
unfolding width
width_three p l h = above _ _ p _ (omega arith) ∙ above _ _ p _ (omega arith) ∙ at_most _ _ p _ (omega arith)

pub width_four : (p : ℕ) → 16777216 < p → width p ≡ 4
unfolding width
width_four p l = above _ _ p _ (omega arith) ∙ above _ _ p _ (omega arith) ∙ above _ _ p _ (omega arith)

-- what holds in each of them holds
by_width : (Q : ℕ → Type 0) (p : ℕ) → (p ≤ 256 → Q 1) → (256 < p → p ≤ 65536 → Q 2) → (65536 < p → p ≤ 16777216 → Q 3) → (16777216 < p → Q 4)
    → Q (width p)
by_width Q p one two three four = go (dec_le p 256) (dec_le p 65536) (dec_le p 16777216)
  where
    go : Dec (p ≤ 256) → Dec (p ≤ 65536) → Dec (p ≤ 16777216) → Q (width p)
    go (yes a) _ _ = rw (width_one p a) (one a)
    go (no a) (yes b) _ = rw (width_two p (omega arith) b) (two (omega arith) b)
    go (no a) (no b) (yes c) = rw (width_three p (omega arith) c) (three (omega arith) c)
    go (no a) (no b) (no c) = rw (width_four p (omega arith)) (four (omega arith))

-- ---- the fewest

-- where k bytes do not hold x, fewer do not
more_bytes : (k x i : ℕ) → 256 ^ k ≤ x → Holds i x → suc k ≤ i
more_bytes k x i h l = go (dec_le i k)
  where
    go : Dec (i ≤ k) → suc k ≤ i
    go (yes few) = absurd (omega (arith, pow-le-pow_right {n = 256} (omega arith) {i = i} {j = k} few))
    go (no many) = omega arith

pub width_fewest : (p : ℕ) → IsModulus p → Fewest p (width p)
width_fewest p ok =
    let low = ok.prime.two_or_more in
    let high = ok.in_range in
    by_width (Fewest p) p
    (λ h. record { holds = omega arith; fewest = λ i. more_bytes 0 (p - 1) i (omega arith); from = omega arith; to = omega arith })
    (λ l h. record { holds = omega arith; fewest = λ i. more_bytes 1 (p - 1) i (omega arith); from = omega arith; to = omega arith })
    (λ l h. record { holds = omega arith; fewest = λ i. more_bytes 2 (p - 1) i (omega arith); from = omega arith; to = omega arith })
    (λ l. record { holds = omega arith; fewest = λ i. more_bytes 3 (p - 1) i (omega arith); from = omega arith; to = omega arith })

-- there is one such number only
pub fewest_unique : (p j k : ℕ) → Fewest p j → Fewest p k → j ≡ k
fewest_unique p j k a b = omega (arith, a.fewest k b.holds, b.fewest j a.holds)

-- ---- what the frames need of it

pub width_small : (p : ℕ) → width p ≤ 4
width_small p = by_width (λ k. k ≤ 4) p (λ _. omega arith) (λ _ _. omega arith) (λ _ _. omega arith) (λ _. omega arith)

pub width_some : (p : ℕ) → 1 ≤ width p
width_some p = by_width (λ k. 1 ≤ k) p (λ _. omega arith) (λ _ _. omega arith) (λ _ _. omega arith) (λ _. omega arith)

-- no more than 64 numbers of at most four bytes have at most 256
pub few_bytes : (w k : ℕ) → w ≤ 4 → k ≤ 64 → w * k ≤ 256
few_bytes w k narrow few = mul-le-mul {n₁ = w} {m₁ = k} {n₂ = 4} {m₂ = 64} narrow few

-- all numbers below p fit
pub width_fits : (p : ℕ) → p ≤ 2147483647 → p ≤ 256 ^ width p
width_fits p high =
    by_width (λ k. p ≤ 256 ^ k) p (λ h. omega arith) (λ l h. omega arith) (λ l h. omega arith) (λ l. omega arith)
