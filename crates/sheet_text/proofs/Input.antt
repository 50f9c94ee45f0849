-- When the header, a frame's length and a frame are cut, and what they tell where they are not.
use mathlib.Core.Path.{◌≡◌, refl}
use mathlib.Core.List.{List, [], ◌∷◌}
use Prim.Native.Nat.{ℕ, ◌<◌, ◌≤◌}
use borrow.Author.Tests.{lt-ltb, le-ltb}
use native.Mathlib.Omega.{arith}
use lib.IntN.{pos}
use lib.ListN.{length, get_or}
use Rattle.checks.specs.declared.Refusal.TheVariants.{FrameLength}
use Rattle.checks.specs.Told.{refused, done, gives}
use Rattle.codec.specs.BigEndian.{number_at}
use Rattle.sheet_text.specs.Input.{header_call, frame_start, frame_body}

-- the header's answers
pub header_cut : (bs : List ℕ) → length bs < 5 → header_call bs ≡ refused FrameLength
unfolding header_call
header_cut bs h = rw (lt-ltb (length bs) 5 h)

pub header_open :
    (bs : List ℕ) → 5 ≤ length bs
    → header_call bs ≡ record { number = 0; values = pos (number_at 4 bs 0) ∷ pos (get_or bs 4 0) ∷ [] }
unfolding header_call
header_open bs h = rw (le-ltb (length bs) 5 h)

-- what a frame's length bytes answer
pub start_end : (bs : List ℕ) → length bs ≡ 0 → frame_start bs ≡ done
unfolding frame_start
start_end [] h = refl
start_end (b ∷ bs) h = absurd (omega arith)

pub start_cut : (bs : List ℕ) → (length bs ≡ 0 → ⊥) → length bs < 2 → frame_start bs ≡ refused FrameLength
unfolding frame_start
start_cut [] some h = absurd (some refl)
start_cut (b ∷ []) some h = refl
start_cut (b ∷ c ∷ bs) some h = absurd (omega arith)

pub start_frame : (bs : List ℕ) → 2 ≤ length bs → frame_start bs ≡ gives (pos (number_at 2 bs 0))
unfolding frame_start number_at
start_frame [] h = absurd (omega arith)
start_frame (b ∷ []) h = absurd (omega arith)
start_frame (b ∷ c ∷ bs) h = refl

-- and what the number of its bytes answers
pub body_cut : (size came : ℕ) → came < size → frame_body size came ≡ refused FrameLength
unfolding frame_body
body_cut size came h = rw (lt-ltb came size h)

pub body_whole : (size came : ℕ) → size ≤ came → frame_body size came ≡ gives (pos size)
unfolding frame_body
body_whole size came h = rw (le-ltb came size h)
