-- The line of each of take's answers, case by case: new, repeat, and a refusal with the number 9, which is a conflict, have the
-- count afterwards, and any other is refused with its number.
use Rattle.std.specs.Prelude.{Ok}
use mathlib.Core.Path.{◌≡◌, refl}
use Prim.Native.Nat.{ℕ}
use native.Mathlib.Omega.{arith}
use borrow.Author.Tests.{eq-eqb, ne_eqb}
use Rattle.checks.specs.declared.Refusal.{Refusal}
use Rattle.checks.specs.Refusal.{refusal_number}
use Rattle.checks.specs.Told.{refused}
use Rattle.checks.proofs.Refusals.{refusal_number_lem}
use Rattle.board_solve.specs.Told.{take_told}
use Rattle.board_solve.specs.declared.Taken.TheVariants.{New, Repeat}
use Rattle.sheet_text.specs.Lines.{frame_line, new_line, repeat_line, conflict_line, refused_line}

pub new_answer : (k count : ℕ) → frame_line (take_told (Ok (New k))) count ≡ new_line count
unfolding frame_line
new_answer k count = refl

pub repeat_answer : (k count : ℕ) → frame_line (take_told (Ok (Repeat k))) count ≡ repeat_line count
unfolding frame_line
repeat_answer k count = refl

-- a refusal's number is neither that of new nor that of repeat
module _ (k : Refusal) (count : ℕ) where
  refusal_not_new : refusal_number k ≡ 0 → ⊥
  refusal_not_new e = omega (arith, (refusal_number_lem k).0)

  refusal_not_repeat : refusal_number k ≡ 100 → ⊥
  refusal_not_repeat e = omega (arith, (refusal_number_lem k).1)

  pub conflict_answer : refusal_number k ≡ 9 → frame_line (refused k) count ≡ conflict_line count
  unfolding frame_line
  conflict_answer e = rw (ne_eqb (refusal_number k) 0 refusal_not_new, ne_eqb (refusal_number k) 100 refusal_not_repeat, eq-eqb (refusal_number k) 9 e)

  pub refused_answer : (refusal_number k ≡ 9 → ⊥) → frame_line (refused k) count ≡ refused_line (refusal_number k)
  unfolding frame_line
  refused_answer f = rw (ne_eqb (refusal_number k) 0 refusal_not_new, ne_eqb (refusal_number k) 100 refusal_not_repeat, ne_eqb (refusal_number k) 9 f)
