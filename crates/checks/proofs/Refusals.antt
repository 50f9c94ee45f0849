-- The numbers of refusals: from 1, and below 100, where the numbers of other answers begin. A new kind adds its line here. So a
-- refusal is never taken for an answer with a value.
use mathlib.Core.Path.{◌≡◌, refl, ap}
use native.Mathlib.Omega.{arith}
use lib.IntN.{ℤ}
use Rattle.checks.specs.declared.Refusal.{Refusal}
use Rattle.checks.specs.declared.Refusal.TheVariants.{Modulus, Size, Length, Number, Insoluble, FrameLength, Padding, ZeroMultiplier, Conflict}
use Rattle.checks.specs.declared.Refusal.TheVariants.{Withdrawal, NotBoard, Words, NotInSpan, NotInner, NotOuter}
use Rattle.checks.specs.Refusal.{refusal_number, IsRefusal}
use Rattle.checks.specs.Told.{Told, gives, refused}

pub refusal_number_lem : (k : Refusal) → IsRefusal (refusal_number k)
refusal_number_lem Modulus = omega arith
refusal_number_lem Size = omega arith
refusal_number_lem Length = omega arith
refusal_number_lem Number = omega arith
refusal_number_lem Insoluble = omega arith
refusal_number_lem FrameLength = omega arith
refusal_number_lem Padding = omega arith
refusal_number_lem ZeroMultiplier = omega arith
refusal_number_lem Conflict = omega arith
refusal_number_lem Withdrawal = omega arith
refusal_number_lem NotBoard = omega arith
refusal_number_lem Words = omega arith
refusal_number_lem NotInSpan = omega arith
refusal_number_lem NotInner = omega arith
refusal_number_lem NotOuter = omega arith

-- a conflict is the only kind with the number 9
pub conflict_number_only : (k : Refusal) → refusal_number k ≡ 9 → k ≡ Conflict
conflict_number_only Conflict e = refl
conflict_number_only Modulus e = absurd (omega (arith, e))
conflict_number_only Size e = absurd (omega (arith, e))
conflict_number_only Length e = absurd (omega (arith, e))
conflict_number_only Number e = absurd (omega (arith, e))
conflict_number_only Insoluble e = absurd (omega (arith, e))
conflict_number_only FrameLength e = absurd (omega (arith, e))
conflict_number_only Padding e = absurd (omega (arith, e))
conflict_number_only ZeroMultiplier e = absurd (omega (arith, e))
conflict_number_only Withdrawal e = absurd (omega (arith, e))
conflict_number_only NotBoard e = absurd (omega (arith, e))
conflict_number_only Words e = absurd (omega (arith, e))
conflict_number_only NotInSpan e = absurd (omega (arith, e))
conflict_number_only NotInner e = absurd (omega (arith, e))
conflict_number_only NotOuter e = absurd (omega (arith, e))

-- a value that is told is the one that was given, and a refusal tells none
pub given_value : {y z : ℤ} → gives y ≡ gives z → y ≡ z
given_value e = let values = ap (λ (t : Told). t.values) e in cc

pub refused_gives_none : (k : Refusal) (z : ℤ) → refused k ≡ gives z → ⊥
refused_gives_none k z e = omega (arith, refusal_number_lem k, ap (λ (t : Told). t.number) e)
