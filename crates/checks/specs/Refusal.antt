-- 01, "What is handed back on refusal": the number returned for each kind, the one place where it stands.
use Rattle.std.specs.Prelude.{ℕ, ◌≤◌, ◌<◌}
use Rattle.checks.specs.declared.Refusal.{Refusal}
use Rattle.checks.specs.declared.Refusal.TheVariants.{Modulus, Size, Length, Number, Insoluble, FrameLength, Padding, ZeroMultiplier, Conflict}
use Rattle.checks.specs.declared.Refusal.TheVariants.{Withdrawal, NotBoard, Words, NotInSpan, NotInner, NotOuter}

abbrev pub refusal_number : Refusal → ℕ
refusal_number Modulus = 1
refusal_number Size = 2
refusal_number Length = 3
refusal_number Number = 4
refusal_number Insoluble = 5
refusal_number FrameLength = 6
refusal_number Padding = 7
refusal_number ZeroMultiplier = 8
refusal_number Conflict = 9
refusal_number Withdrawal = 10
refusal_number NotBoard = 11
-- 02, #103: "New numbers: 12, s outside 1 to 16"
refusal_number Words = 12
-- 02, #107: "New numbers: 15, the wanted row is no combination; nothing is written." All combinations of rows are their span.
refusal_number NotInSpan = 15
-- 02, #113: "New numbers: 17, ADA differs from A; 18, DAD differs from D." The field calls a D with ADA = A an inner inverse of A, and
-- one with DAD = D an outer inverse.
refusal_number NotInner = 17
refusal_number NotOuter = 18

-- a number that is told for a refusal: from 1, and below 100, where the numbers of other answers begin
abbrev pub IsRefusal : ℕ → Type 0
IsRefusal k = (1 ≤ k) × (k < 100)
