-- 01, "The field and the tables": the modulus is a prime from 2 to 2,147,483,647.
use Rattle.std.specs.Prelude.{ℕ, ◌≤◌, ◌<◌}
use Rattle.std.specs.Int.{◌∣◌}

-- the largest modulus, 2^31 - 1
abbrev pub largest_modulus : ℕ
largest_modulus = 2147483647

-- at least 2, with no divisor strictly between 1 and itself
pub record Prime (p : ℕ) : Type 0 where
  pub two_or_more : 2 ≤ p
  pub no_divisor : (d : ℕ) → 1 < d → d < p → d ∣ p → ⊥

-- what every call takes for a modulus
pub record IsModulus (p : ℕ) : Type 0 where
  pub prime : Prime p
  pub in_range : p ≤ largest_modulus

-- no number strictly between 1 and d divides p: how far the test of p has come
abbrev pub NoneBelow : ℕ → ℕ → Type 0
NoneBelow d p = (e : ℕ) → 1 < e → e < d → e ∣ p → ⊥

-- what the test by the table takes: p in range, with no divisor below d
pub record Sieved (d p : ℕ) : Type 0 where
  pub two_or_more : 2 ≤ p
  pub in_range : p ≤ largest_modulus
  pub none : NoneBelow d p
