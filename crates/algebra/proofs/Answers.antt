-- What tests tell: the two answers, an answer carried to another question, and what a guard `if !test(..)` tells on either side.
use mathlib.Core.Path.{◌≡◌}
use mathlib.Core.Bool.{Bool, true, false, not, true≢false, false≢true}
use Prim.Native.Nat.{ℕ, ◌≤◌}
use native.Mathlib.Omega.{arith}
use lib.Dec.{leb}
use borrow.Author.Tests.{not-true, not-false, leb-true, leb-false}
use Rattle.algebra.specs.Answers.{Tells}

-- the answer true where P holds, and false where it does not
pub tells_yes : {P : Type 0} → P → Tells true P
tells_yes h = (λ _. h, λ e. absurd (true≢false e))

pub tells_no : {P : Type 0} → (P → ⊥) → Tells false P
tells_no f = (λ e. absurd (false≢true e), λ _. f)

-- a test that tells one of two statements that follow from each other tells the other
pub tells_same : {b : Bool} {P Q : Type 0} → (P → Q) → (Q → P) → Tells b P → Tells b Q
tells_same f g (yes-p, no-p) = (λ e. f (yes-p e), λ e q. no-p e (g q))

-- a comparison
pub tells_leb : {P : Type 0} (a b : ℕ) → (a ≤ b → P) → (P → a ≤ b) → Tells (leb a b) P
tells_leb a b f g = (λ e. f (leb-true a b e), λ e h. omega (arith, leb-false a b e, g h))

-- past the guard what is asked holds, and where the guard returns it does not
pub guard_left : {P : Type 0} {t : Bool} → Tells t P → not t ≡ false → P
guard_left {t = t} told e = told.0 (not-false t e)

pub guard_taken : {P : Type 0} {t : Bool} → Tells t P → not t ≡ true → P → ⊥
guard_taken {t = t} told e = told.1 (not-true t e)
