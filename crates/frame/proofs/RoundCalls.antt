-- Frames go round through the calls: what a write that is not refused leaves at the front of the lent bytes reads back, and a frame
-- that read accepts is written again from what read gave and left. By the laws of the frame itself (Round) and of the checks.
use mathlib.Core.Path.{◌≡◌, refl, sym, ap, ◌∙◌, subst}
use mathlib.Core.List.{List}
use Prim.Native.Nat.{ℕ}
use native.Mathlib.Omega.{arith}
use lib.ListN.{length, take, drop}
use lib.Seq.{take_at, drop_at}
use Rattle.checks.specs.Refusal.{IsRefusal}
use Rattle.checks.specs.Prime.{IsModulus}
use Rattle.checks.specs.Outcome.{Outcome}
use Rattle.checks.specs.Largest.{FrameSize, WordCount}
use Rattle.checks.proofs.InOrder.{in_order_elim, none_left, ◌and_then◌}
use Rattle.checks.proofs.Refusals.{refusal_number_lem}
use Rattle.words.specs.Words.{Below}
use Rattle.codec.specs.Placed.{placed}
use Rattle.codec.proofs.Placed.{placed_front}
use Rattle.frame.specs.Format.{longest, frame_of}
use Rattle.frame.specs.Reading.{Found, accepted, rejected, read_frame}
use Rattle.frame.specs.Calls.{read_outcome, read_call, written, write_call}
use Rattle.frame.specs.Promises.{ReadsBack, WritesAgain}
use Rattle.frame.proofs.Round.{Numbers, written_reads_back, accepted_rewrites}
use Rattle.frame.proofs.Calls.{sizes_hold, read_done, write_done, read_as_told}
use Rattle.frame.proofs.Lengths.{frame_most, accepted_most, longest_frame}

-- what stands at the front, and behind it
pub front_taken : (new old : List ℕ) → take (length new) (placed 0 new old) ≡ new
front_taken new old = ap (take (length new)) (placed_front new old) ∙ take_at new _ (length new) refl

pub front_dropped : (new old : List ℕ) → drop (length new) (placed 0 new old) ≡ drop (length new) old
front_dropped new old = ap (drop (length new)) (placed_front new old) ∙ drop_at new _ (length new) refl

-- ---- write, then read

-- what is written, past the checks
frame_done : (p n s : ℕ) (xs vs lent : List ℕ) → IsModulus p → FrameSize n → WordCount s → Numbers p n s xs vs
    → ReadsBack p n s xs vs lent (written (frame_of p n xs vs) lent)
frame_done p n s xs vs lent ok size words g =
    let frame = frame_of p n xs vs in
    record {
      k = length frame;
      told = refl;
      short = longest_frame p n s xs vs g.long g.values_long size.1;
      most = frame_most p n s xs vs g.long g.values_long;
      behind = front_dropped frame lent;
      reads = λ multipliers values room values_room.
          ap (λ bytes. read_call p n s bytes multipliers values) (front_taken frame lent)
          ∙ read_as_told p n s frame multipliers values xs vs (sizes_hold p n s ok size words) room values_room
          (written_reads_back p n s xs vs ok.in_range g);
    }

-- what a write that is not refused leaves reads back
pub write_then_read : (p n s : ℕ) (xs vs lent : List ℕ) → (IsRefusal (write_call p n s xs vs lent).told.number → ⊥)
    → ReadsBack p n s xs vs lent (write_call p n s xs vs lent)
unfolding write_call
write_then_read p n s xs vs lent =
    in_order_elim _ _ (λ o. (IsRefusal o.told.number → ⊥) → ReadsBack p n s xs vs lent o)
    (λ (ok, (size, (words, (long, (values_long, (_, (below, (values_below, _)))))))) _.
    frame_done p n s xs vs lent ok size words
    (record { long = long; below = below; values_long = values_long; values_below = values_below }))
    (λ kind _ done. absurd (done (refusal_number_lem kind)))

-- ---- read, then write

-- what an accepted frame's multipliers and values write
frame_again : (p n s : ℕ) (bytes xs vs : List ℕ) → IsModulus p → FrameSize n → WordCount s → Below 256 bytes → read_frame p n s bytes ≡ accepted xs vs
    → (lent : List ℕ) → length lent ≡ longest s → write_call p n s xs vs lent ≡ written bytes lent
frame_again p n s bytes xs vs ok size words small e lent room =
    let w = accepted_rewrites p n s bytes xs vs (omega (arith, ok.prime.two_or_more)) small e in
    let g = w.numbers in
    sym
    (write_done p n s xs vs lent (sizes_hold p n s ok size words)
    (g.long and_then g.values_long and_then room and_then g.below and_then g.values_below and_then none_left))
    ∙ ap (λ frame. written frame lent) w.bytes_are

-- what a read that is not refused has passed: the sizes and the lengths
record Sized (p n s : ℕ) (multipliers values : List ℕ) : Type 0 where
  ok : IsModulus p
  size : FrameSize n
  words : WordCount s
  long : length multipliers ≡ n
  values_long : length values ≡ s

module _ (p n s : ℕ) (bytes multipliers values : List ℕ) where
  read_sizes : (IsRefusal (read_call p n s bytes multipliers values).told.number → ⊥) → Sized p n s multipliers values
  unfolding read_call
  read_sizes =
      in_order_elim _ _ (λ (o : Outcome (List ℕ × List ℕ)). (IsRefusal o.told.number → ⊥) → Sized p n s multipliers values)
      (λ (ok, (size, (words, (long, (values_long, _))))) _.
      record { ok = ok; size = size; words = words; long = long; values_long = values_long })
      (λ kind _ done. absurd (done (refusal_number_lem kind)))

  -- what is found in the bytes, by cases
  found_again : IsModulus p → FrameSize n → WordCount s → Below 256 bytes → (f : Found) → read_frame p n s bytes ≡ f
      → (IsRefusal (read_outcome s (multipliers, values) f).told.number → ⊥) → WritesAgain p n s bytes (read_outcome s (multipliers, values) f)
  unfolding read_outcome
  found_again ok size words small (rejected kind) e done = absurd (done (refusal_number_lem kind))
  found_again ok size words small (accepted xs vs) e done =
      let again = frame_again p n s bytes xs vs ok size words small e in
      record {
        told = refl;
        writes = again;
        front = λ lent room. ap (λ o. take (length bytes) o.lent) (again lent room) ∙ front_taken bytes lent;
        most = accepted_most p n s bytes xs vs small e;
      }

  -- what a read that is not refused gives and leaves is written again as the bytes that were read
  pub read_then_write : Below 256 bytes → (IsRefusal (read_call p n s bytes multipliers values).told.number → ⊥)
      → WritesAgain p n s bytes (read_call p n s bytes multipliers values)
  read_then_write small done =
      let z = read_sizes done in
      let sizes = sizes_hold p n s z.ok z.size z.words in
      subst (λ o. (IsRefusal o.told.number → ⊥) → WritesAgain p n s bytes o)
      (read_done p n s bytes multipliers values sizes z.long z.values_long)
      (found_again z.ok z.size z.words small (read_frame p n s bytes) refl) done
