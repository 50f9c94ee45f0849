-- The stages of reading a frame, by places in its bytes, as the code of `src/reading.rt` goes. They are parts of `read_frame`
-- (frame/specs/Reading.antt), which says what is read.
use Rattle.std.specs.Prelude.{List, ℕ, ◌+◌, ◌*◌, drop}
use Rattle.checks.specs.declared.Refusal.{Refusal}
use Rattle.checks.specs.InOrder.{Checks}
use Rattle.frame.specs.Bitmap.{bits_from, standing}
use Rattle.frame.specs.Reading.{numbers_in, spread, number_checks}

-- the s values that stand behind k numbers of w bytes from a place on
unfoldable pub values_after : (w s : ℕ) → List ℕ → (at k : ℕ) → List ℕ
values_after w s bytes at k = numbers_in w s (drop (at + w * k) bytes)

-- the checks of k such numbers from a place on and of the s values after them
abbrev pub checks_from : (p w s : ℕ) → List ℕ → (at k : ℕ) → Checks Refusal
checks_from p w s bytes at k = number_checks p (numbers_in w k (drop at bytes)) (values_after w s bytes at k)

-- the multipliers of k records from record j on, whose numbers of w bytes stand from a place on
unfoldable pub multipliers_from : (w : ℕ) (map bytes : List ℕ) → (at j k : ℕ) → List ℕ
multipliers_from w map bytes at j k = spread (bits_from map j k) (numbers_in w (standing (bits_from map j k)) (drop at bytes))
