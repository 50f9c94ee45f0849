-- 01, "The sheet program and the C side": what the sheet reads. "p in four bytes, n in one, then frames, each after its length
-- in two bytes; p and lengths have the most significant byte first." "A cut header prints the line `refused 6` alone", and "a
-- last frame cut in its length or its bytes is one `refused 6` line".
use Rattle.std.specs.Prelude.{List, [], ◌∷◌, ℕ, ltb, pos, length, get_or, Result, Ok, Err, Option, Some, None}
use Rattle.algebra.specs.Choice.{choose}
use Rattle.checks.specs.declared.Refusal.{Refusal}
use Rattle.checks.specs.declared.Refusal.TheVariants.{FrameLength}
use Rattle.checks.specs.Told.{Told, refused, done, gives}
use Rattle.codec.specs.BigEndian.{number_from, number_at}

-- ---- the header

-- what the answer tells: 0 with p and n, or the refusal
abbrev pub header_told : Result (ℕ × ℕ) Refusal → Told
header_told (Ok (p, n)) = record { number = 0; values = pos p ∷ pos n ∷ [] }
header_told (Err k) = refused k

-- of the bytes that came: fewer than five are a cut header
unfoldable pub header_call : List ℕ → Told
header_call bytes =
    choose (ltb (length bytes) 5)
    (refused FrameLength)
    (record { number = 0; values = pos (number_at 4 bytes 0) ∷ pos (get_or bytes 4 0) ∷ [] })

-- ---- frames

-- what there is to tell: 0 and no length at the end of the input, 0 and the length of a frame, or the refusal
abbrev pub frame_told : Result (Option ℕ) Refusal → Told
frame_told (Ok None) = done
frame_told (Ok (Some size)) = gives (pos size)
frame_told (Err k) = refused k

-- of the bytes that came of a frame's length: none are the end of the input, and one is a cut length
unfoldable pub frame_start : List ℕ → Told
frame_start [] = done
frame_start (high ∷ []) = refused FrameLength
frame_start (high ∷ low ∷ rest) = gives (pos (number_from 0 (high ∷ low ∷ [])))

-- of a frame of that size, of whose bytes so many came: fewer are a cut frame
unfoldable pub frame_body : (size came : ℕ) → Told
frame_body size came = choose (ltb came size) (refused FrameLength) (gives (pos size))

-- the length in an answer, where there is one
abbrev pub length_in : Result (Option ℕ) Refusal → ℕ
length_in (Ok None) = 0
length_in (Ok (Some size)) = size
length_in (Err _) = 0
