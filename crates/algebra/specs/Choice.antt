-- Choosing by a test or by a decision. A definition picks with these, and proofs go by the laws of `proofs/Choice.antt`,
-- so that nothing computes a decision.
use Rattle.std.specs.Prelude.{Bool, true, false, ℕ, zero, suc}

-- the first of two where the test is true, else the second
abbrev pub choose : {A : Type 0} → Bool → A → A → A
choose true a b = a
choose false a b = b

-- the first of two where the decision is yes, else the second
unfoldable pub pick : {P A : Type 0} → Dec P → A → A → A
pick (yes h) a b = a
pick (no h) a b = b

-- what a yes gives by its proof, else the second
unfoldable pub pick_by : {P A : Type 0} → Dec P → (P → A) → A → A
pick_by (yes h) f b = f h
pick_by (no h) f b = b

-- the same of types
unfoldable pub pick_type : {P : Type 0} → Dec P → (P → Type 0) → Type 0 → Type 0
pick_type (yes h) T B = T h
pick_type (no h) T B = B

-- the first of k places, from t on, where the test is true, or t + k
unfoldable pub first_from : (ℕ → Bool) → (t k : ℕ) → ℕ
first_from f t zero = t
first_from f t (suc k) = choose (f t) t (first_from f (suc t) k)
