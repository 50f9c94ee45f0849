-- 01, "Examples": the starred frame, with n = 3 and p = 7, recut to its width: 02, #111, "251 needs one byte, 257 needs two", "and the
-- cases with p = 7 are recut to this width". Then a frame with each of these two, one with three words a record (02, #103), and the widths
-- on both sides of each width's end.
use Rattle.std.specs.Prelude.{◌≡◌, List, [], ◌∷◌, ℕ, length}
use Rattle.checks.specs.Told.{results}
use Rattle.checks.specs.Outcome.{outcome}
use Rattle.frame.specs.Width.{width}
use Rattle.frame.specs.Calls.{read_call}

-- a frame's bytes, and the multipliers and the values that they read as
pub record FrameExample : Type 0 where
  pub modulus : ℕ
  pub size : ℕ
  pub bytes : List ℕ
  pub multipliers : List ℕ
  pub values : List ℕ

-- `03 00000001 00000002 00000005` reads as (1 2 0), value 5; recut, `03 01 02 05` does
unfoldable pub starred_frame : FrameExample
starred_frame = record { modulus = 7; size = 3; bytes = 0x03 ∷ 0x01 ∷ 0x02 ∷ 0x05 ∷ []; multipliers = 1 ∷ 2 ∷ 0 ∷ []; values = 5 ∷ [] }

unfoldable pub frame_examples : List FrameExample
frame_examples = starred_frame ∷ []

-- modulo 251 `06 FA 01 05` reads as (0 250 1), value 5
unfoldable pub one_byte_frame : FrameExample
one_byte_frame = record { modulus = 251; size = 3; bytes = 0x06 ∷ 0xFA ∷ 0x01 ∷ 0x05 ∷ []; multipliers = 0 ∷ 250 ∷ 1 ∷ []; values = 5 ∷ [] }

-- modulo 257 `06 0100 0001 0005` reads as (0 256 1), value 5
unfoldable pub two_byte_frame : FrameExample
two_byte_frame =
    record {
      modulus = 257;
      size = 3;
      bytes = 0x06 ∷ 0x01 ∷ 0x00 ∷ 0x00 ∷ 0x01 ∷ 0x00 ∷ 0x05 ∷ [];
      multipliers = 0 ∷ 256 ∷ 1 ∷ [];
      values = 5 ∷ [];
    }

-- with three words a record, finish, split and reaction, `03 01 02 05 06 04` modulo 7 reads as (1 2 0), values 5, 6 and 4
unfoldable pub three_word_frame : FrameExample
three_word_frame =
    record {
      modulus = 7;
      size = 3;
      bytes = 0x03 ∷ 0x01 ∷ 0x02 ∷ 0x05 ∷ 0x06 ∷ 0x04 ∷ [];
      multipliers = 1 ∷ 2 ∷ 0 ∷ [];
      values = 5 ∷ 6 ∷ 4 ∷ [];
    }

-- the frames of 02's requests
unfoldable pub request_frames : List FrameExample
request_frames = one_byte_frame ∷ two_byte_frame ∷ three_word_frame ∷ []

-- read writes the multipliers and the values and answers how many values there are, whatever the memory lent to it holds
abbrev pub FrameHolds : FrameExample → Type 0
FrameHolds e =
    (multipliers values : List ℕ) → length multipliers ≡ e.size → length values ≡ length e.values
    → read_call e.modulus e.size (length e.values) e.bytes multipliers values
    ≡ outcome (results (length e.values)) (e.multipliers, e.values)

-- the last prime of each width but the last, and the first of the next
abbrev pub WidthsHold : Type 0
WidthsHold =
    (width 251 ≡ 1) × (width 257 ≡ 2)
    × (width 65521 ≡ 2) × (width 65537 ≡ 3)
    × (width 16777213 ≡ 3) × (width 16777259 ≡ 4)
