-- 01 with requests 101, 103 and 111: reading checks in this order: shorter than the map, 6; length other than map + width × standing
-- bits + width × s, 6; a standing bit at n or above, 7; then the numbers in byte order, a multiplier of 0 giving 8, a number of p or
-- more giving 4. 103: "a frame ends in s values (the length check's last 4 becomes 4 × s)".
-- 101: "From now on standing bits are counted over the whole map, padding included, and the length check comes before the padding
-- check." Which answers that moved is said in EarlierOrder.antt. 111: "Frame lengths use that width in place of 4".
use Rattle.std.specs.Prelude.{◌≡◌, Bool, true, false, List, [], ◌∷◌, ℕ, zero, suc, ◌+◌, ◌*◌, ◌≤◌, length, take, drop}
use Rattle.std.proofs.Math.Decide.{dec_le, dec_lt}
use Rattle.checks.specs.declared.Refusal.{Refusal}
use Rattle.checks.specs.declared.Refusal.TheVariants.{Number, FrameLength, Padding, ZeroMultiplier}
use Rattle.checks.specs.Refusal.{refusal_number}
use Rattle.checks.specs.InOrder.{Checks, passed, ◌else◌, ◌⨾◌, in_order}
use Rattle.checks.specs.Decide.{long?}
use Rattle.words.specs.Decide.{below?}
use Rattle.codec.specs.BigEndian.{number_from}
use Rattle.frame.specs.Width.{width}
use Rattle.frame.specs.Format.{map_length}
use Rattle.frame.specs.Bitmap.{record_bits, whole_map, standing}
use Rattle.frame.specs.Decide.{unpadded?}

-- the numbers of w bytes that stand one after the other in the bytes, k of them
unfoldable pub numbers_in : (w k : ℕ) → List ℕ → List ℕ
numbers_in w zero bytes = []
numbers_in w (suc k) bytes = number_from 0 (take w bytes) ∷ numbers_in w k (drop w bytes)

-- the multipliers: the next number where the bit stands, and 0 where it does not
unfoldable pub spread : List Bool → List ℕ → List ℕ
spread [] xs = []
spread (true ∷ bs) [] = 0 ∷ spread bs []
spread (true ∷ bs) (x ∷ xs) = x ∷ spread bs xs
spread (false ∷ bs) xs = 0 ∷ spread bs xs

-- the length that a frame modulo p with this map and s values has: map + width × standing bits + width × s, the bits counted over the
-- whole map
unfoldable pub frame_length : (p n s : ℕ) → List ℕ → ℕ
frame_length p n s bytes = map_length n + width p * standing (whole_map n bytes) + width p * s

-- the numbers under its standing bits, its multipliers and its values
unfoldable pub frame_numbers : (p n : ℕ) → List ℕ → List ℕ
frame_numbers p n bytes = numbers_in (width p) (standing (record_bits n bytes)) (drop (map_length n) bytes)

unfoldable pub frame_multipliers : (p n : ℕ) → List ℕ → List ℕ
frame_multipliers p n bytes = spread (record_bits n bytes) (frame_numbers p n bytes)

unfoldable pub frame_values : (p n s : ℕ) → List ℕ → List ℕ
frame_values p n s bytes = numbers_in (width p) s (drop (map_length n + width p * standing (record_bits n bytes)) bytes)

-- ---- the checks of reading

-- the numbers in byte order: multipliers that are not 0 and below p, then values below p
abbrev pub number_checks : (p : ℕ) (numbers values : List ℕ) → Checks Refusal
number_checks p [] vs = below? p vs else Number ⨾ passed
number_checks p (x ∷ xs) vs = dec_lt 0 x else ZeroMultiplier ⨾ dec_lt x p else Number ⨾ number_checks p xs vs

-- all of them: the one place where their order stands
abbrev pub frame_checks : (p n s : ℕ) (bytes : List ℕ) → Checks Refusal
frame_checks p n s bytes =
    dec_le (map_length n) (length bytes) else FrameLength
    ⨾ long? bytes (frame_length p n s bytes) else FrameLength
    ⨾ unpadded? n bytes else Padding
    ⨾ number_checks p (frame_numbers p n bytes) (frame_values p n s bytes)

-- the kinds that reading refuses a frame by: 4, 6, 7 and 8
abbrev pub ReadingKind : Refusal → Type 0
ReadingKind k = (4 ≤ refusal_number k) × (refusal_number k ≤ 8) × (refusal_number k ≡ 5 → ⊥)

-- what reading finds: multipliers and values, or why it refuses
pub data Found : Type 0 where
  accepted : (multipliers values : List ℕ) → Found
  rejected : Refusal → Found

unfoldable pub read_frame : (p n s : ℕ) → List ℕ → Found
read_frame p n s bytes = in_order (frame_checks p n s bytes) (λ _. accepted (frame_multipliers p n bytes) (frame_values p n s bytes)) rejected
