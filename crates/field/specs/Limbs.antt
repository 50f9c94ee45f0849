-- Numbers below 2^64 as a low and a high limb of 32 bits, and two sums kept apart for the limbs: what the loop of `sums` and those
-- of the sums of rows say of their sums.
use Rattle.std.specs.Prelude.{ℕ, ◌+◌, ◌*◌, ◌/◌, ◌%◌, ◌^◌, ◌≤◌}

-- the base of the limbs, 2^32
abbrev pub limb_base : ℕ
limb_base = 4294967296

-- the limbs of a number
unfoldable pub low : ℕ → ℕ
low x = x % limb_base

unfoldable pub high : ℕ → ℕ
high x = x / limb_base

-- the number that two sums of limbs stand for
unfoldable pub whole : ℕ → ℕ → ℕ
whole lo hi = lo + limb_base * hi

-- one more limb can be added to n within 64 bits
unfoldable pub LimbFits : ℕ → Type 0
LimbFits n = n + limb_base ≤ 2 ^ 64
