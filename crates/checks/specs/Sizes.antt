-- 01: "A table A has m rows and n columns, each from 0 to 64"; a heat has 1 to 64 records; a lent slice has the length named.
-- What several calls check alike, as the front of their lists of checks: the modulus, then the size, then the words of a record.
use Rattle.std.specs.Prelude.{ℕ, Result, Ok, Err}
use Rattle.checks.specs.declared.Refusal.{Refusal}
use Rattle.checks.specs.declared.Refusal.TheVariants.{Modulus, Size, Words}
use Rattle.checks.specs.InOrder.{Checks, passed, ◌else◌, ◌⨾◌, AllHold, FirstFailing}
use Rattle.checks.specs.Decide.{modulus?, sizes?, frame_size?, word_count?}

-- 1, 2 of the calls on tables
abbrev pub table_sizes : (p m n : ℕ) → Checks Refusal
table_sizes p m n = modulus? p else Modulus ⨾ sizes? m n else Size ⨾ passed

-- 1, 2, 12 of the calls on frames, and of open: "12, s outside 1 to 16, checked after 2 at open and in the three frame calls" (02, #103)
abbrev pub frame_sizes : (p n s : ℕ) → Checks Refusal
frame_sizes p n s = modulus? p else Modulus ⨾ frame_size? n else Size ⨾ word_count? s else Words ⨾ passed

-- what a function that goes through a list answers: all hold, or the kind of the first that fails
abbrev pub Judges : Checks Refusal → Result Unit Refusal → Type 0
Judges cs (Ok _) = AllHold cs
Judges cs (Err k) = FirstFailing cs k
