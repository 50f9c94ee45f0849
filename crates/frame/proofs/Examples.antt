-- The examples of frames, 01's starred one among them, hold of the call `read`, lent memory included, where the modulus is one. No
-- decision is opened: the bytes of each are those that are written for its multipliers and its values, which computes, and what is
-- written reads back (Round). The examples of widths are computed.
use mathlib.Core.Path.{◌≡◌, refl, sym, subst}
use mathlib.Core.Logic.{⊎_elim}
use mathlib.Core.List.Memᴰ
use mathlib.Core.List.{List, [], ◌∷◌, Memᴰ}
use Prim.Native.Nat.{ℕ, ◌<◌}
use native.Mathlib.Omega.{arith}
use lib.ListN.{length}
use Rattle.checks.specs.Prime.{IsModulus}
use Rattle.checks.specs.Largest.{FrameSize, WordCount}
use Rattle.words.specs.Words.{Below}
use Rattle.codec.specs.BigEndian.{bytes_of}
use Rattle.codec.proofs.BigEndian.{below_cons}
use Rattle.field.specs.Written.{tabulate}
use Rattle.frame.specs.Width.{width}
use Rattle.frame.specs.Format.{map_length, stands, map_byte, map_bytes, packed, value_bytes, frame_in, frame_of}
use Rattle.frame.specs.Examples.{FrameExample, starred_frame, frame_examples, one_byte_frame, two_byte_frame, three_word_frame, request_frames}
use Rattle.frame.specs.Examples.{FrameHolds, WidthsHold}
use Rattle.frame.proofs.Round.{written_reads_back, Writes}
use Rattle.frame.proofs.Calls.{sizes_hold, read_as_told}

-- the bytes of an example are what its multipliers and its values write
abbrev IsWritten : FrameExample → Type 0
IsWritten e = Writes e.modulus e.size (length e.values) e.multipliers e.values e.bytes

-- the records and the words of an example are as many as there can be
abbrev IsSized : FrameExample → Type 0
IsSized e = FrameSize e.size × WordCount (length e.values)

-- where they are, the example holds
written_reads : (e : FrameExample) → IsModulus e.modulus → IsSized e → IsWritten e → FrameHolds e
written_reads e ok (size, words) w multipliers values room values_room =
    let s = length e.values in
    read_as_told e.modulus e.size s e.bytes multipliers values e.multipliers e.values (sizes_hold e.modulus e.size s ok size words)
    room values_room
    (rw (← w.bytes_are) (written_reads_back e.modulus e.size s e.multipliers e.values ok.in_range w.numbers))

same_reads : {e x : FrameExample} → IsSized x → IsWritten x → e ≡ x → IsModulus e.modulus → FrameHolds e
same_reads {x = x} size w same = subst (λ y. IsModulus y.modulus → FrameHolds y) (sym same) (λ ok. written_reads x ok size w)

below_none : (p : ℕ) → Below p []
below_none p i h = absurd (omega arith)

below_three : (p a b c : ℕ) → a < p → b < p → c < p → Below p (a ∷ b ∷ c ∷ [])
below_three p a b c la lb lc = below_cons p a (b ∷ c ∷ []) la (below_cons p b (c ∷ []) lb (below_cons p c [] lc (below_none p)))

below_one : (p v : ℕ) → v < p → Below p (v ∷ [])
below_one p v l = below_cons p v [] l (below_none p)

-- three multipliers and values below p, and what they write
writes_three : (p a b c : ℕ) (vs bytes : List ℕ) → a < p → b < p → c < p → Below p vs → frame_of p 3 (a ∷ b ∷ c ∷ []) vs ≡ bytes
    → Writes p 3 (length vs) (a ∷ b ∷ c ∷ []) vs bytes
writes_three p a b c vs bytes la lb lc lv same =
    record {
      numbers = record { long = refl; below = below_three p a b c la lb lc; values_long = refl; values_below = lv };
      bytes_are = same;
    }

-- ---- each computed

starred_written : IsWritten starred_frame
unfolding starred_frame width frame_in map_bytes map_byte map_length stands packed value_bytes bytes_of tabulate
starred_written = writes_three _ _ _ _ _ _ (omega arith) (omega arith) (omega arith) (below_one _ _ (omega arith)) refl

one_byte_written : IsWritten one_byte_frame
unfolding one_byte_frame width frame_in map_bytes map_byte map_length stands packed value_bytes bytes_of tabulate
one_byte_written = writes_three _ _ _ _ _ _ (omega arith) (omega arith) (omega arith) (below_one _ _ (omega arith)) refl

two_byte_written : IsWritten two_byte_frame
unfolding two_byte_frame width frame_in map_bytes map_byte map_length stands packed value_bytes bytes_of tabulate
two_byte_written = writes_three _ _ _ _ _ _ (omega arith) (omega arith) (omega arith) (below_one _ _ (omega arith)) refl

three_word_written : IsWritten three_word_frame
unfolding three_word_frame width frame_in map_bytes map_byte map_length stands packed value_bytes bytes_of tabulate
three_word_written =
    writes_three _ _ _ _ _ _ (omega arith) (omega arith) (omega arith)
    (below_three _ _ _ _ (omega arith) (omega arith) (omega arith)) refl

-- the starred example holds
pub starred_frames_read : (e : FrameExample) → Memᴰ e frame_examples → IsModulus e.modulus → FrameHolds e
unfolding frame_examples starred_frame
starred_frames_read e m = same_reads (omega arith, omega arith) starred_written (Memᴰ.eq_of_singleton m)

-- and so do those of both sides of a width's end, and the one of three words a record
pub request_frames_read : (e : FrameExample) → Memᴰ e request_frames → IsModulus e.modulus → FrameHolds e
unfolding request_frames one_byte_frame two_byte_frame three_word_frame
request_frames_read e m =
    ⊎_elim (same_reads {x = one_byte_frame} (omega arith, omega arith) one_byte_written)
    (λ r. ⊎_elim (same_reads {x = two_byte_frame} (omega arith, omega arith) two_byte_written)
    (λ q. same_reads {x = three_word_frame} (omega arith, omega arith) three_word_written (Memᴰ.eq_of_singleton q)) (Memᴰ.cases_cons r))
    (Memᴰ.cases_cons m)

-- and the widths on both sides of each end are computed
pub widths_hold : WidthsHold
unfolding width
widths_hold = (refl, refl, refl, refl, refl, refl)
