-- Request 101: "Answers that change: a frame with a standing bit at n or above, at least as long as its map and not of that counted
-- length, gave 7 and now gives 6. No other answer moves." Reading in the order of 01, as it was before that request, is defined here
-- for this sentence and for nothing else. Its numbers have the width of p and there are s values, as in the reading that it is compared with.
use Rattle.std.specs.Prelude.{◌≡◌, List, ℕ, ◌+◌, ◌*◌, ◌≤◌, length}
use Rattle.std.proofs.Math.Decide.{dec_le}
use Rattle.checks.specs.declared.Refusal.{Refusal}
use Rattle.checks.specs.declared.Refusal.TheVariants.{Length, FrameLength, Padding}
use Rattle.checks.specs.Prime.{IsModulus}
use Rattle.checks.specs.Largest.{FrameSize, WordCount}
use Rattle.checks.specs.InOrder.{Checks, ◌else◌, ◌⨾◌, then_checks, in_order}
use Rattle.checks.specs.Told.{results}
use Rattle.checks.specs.Outcome.{Outcome, outcome, untouched}
use Rattle.checks.specs.Decide.{long?}
use Rattle.checks.specs.Sizes.{frame_sizes}
use Rattle.frame.specs.Width.{width}
use Rattle.frame.specs.Format.{map_length}
use Rattle.frame.specs.Bitmap.{record_bits, whole_map, standing, StandsFrom}
use Rattle.frame.specs.Reading.{frame_numbers, frame_multipliers, frame_values, number_checks}
use Rattle.frame.specs.Decide.{unpadded?}
use Rattle.frame.specs.Calls.{read_call}

-- the order of 01: "shorter than the map, 6; a standing bit at n or above, 7; length other than map + 4 × standing bits + 4, 6", with the
-- width for 4 and s values, where no bits but the records' were left to be counted; then the numbers
abbrev pub earlier_checks : (p n s : ℕ) (bytes : List ℕ) → Checks Refusal
earlier_checks p n s bytes =
    dec_le (map_length n) (length bytes) else FrameLength
    ⨾ unpadded? n bytes else Padding
    ⨾ long? bytes (map_length n + width p * standing (record_bits n bytes) + width p * s) else FrameLength
    ⨾ number_checks p (frame_numbers p n bytes) (frame_values p n s bytes)

-- the call `read` in that order
unfoldable pub earlier_read : (p n s : ℕ) (bytes multipliers values : List ℕ) → Outcome (List ℕ × List ℕ)
earlier_read p n s bytes xs vs =
    in_order (then_checks (frame_sizes p n s) (λ _. long? xs n else Length ⨾ long? vs s else Length ⨾ earlier_checks p n s bytes))
    (λ _. outcome (results s) (frame_multipliers p n bytes, frame_values p n s bytes)) (untouched (xs, vs))

-- the frames of which the request speaks. The length is written out as the request counts it, so that the theorem tells a reader's
-- definition that counts otherwise
pub record Moved (p n s : ℕ) (bytes : List ℕ) : Type 0 where
  pub padded : StandsFrom n (8 * map_length n) bytes
  pub map_fits : map_length n ≤ length bytes
  pub other_length : length bytes ≡ map_length n + width p * standing (whole_map n bytes) + width p * s → ⊥

-- "gave 7 and now gives 6. No other answer moves.": what was and what is differ exactly where M holds, and there by these two
pub data MovesExactly {X : Type 0} (M : Type 0) (seven six was is : X) : Type 0 where
  moved : M → was ≡ seven → is ≡ six → MovesExactly M seven six was is
  kept : (M → ⊥) → is ≡ was → MovesExactly M seven six was is

-- where the answer of read moved: 1, 2, 12 and 3 are passed, and the frame is such a one
abbrev pub ReadMoved : (p n s : ℕ) (bytes multipliers values : List ℕ) → Type 0
ReadMoved p n s bytes xs vs = (IsModulus p × FrameSize n × WordCount s × (length xs ≡ n) × (length vs ≡ s)) × Moved p n s bytes

-- there read gave 7 and gives 6, with the lent memory as it was either way
abbrev pub ReadMoves : (p n s : ℕ) (bytes multipliers values : List ℕ) → Type 0
ReadMoves p n s bytes xs vs =
    MovesExactly (ReadMoved p n s bytes xs vs) (untouched (xs, vs) Padding) (untouched (xs, vs) FrameLength)
    (earlier_read p n s bytes xs vs) (read_call p n s bytes xs vs)
