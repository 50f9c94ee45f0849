-- How long a frame is: at most its map, a number for each record and the values; 264 + 4 × s bytes at the very most, and these only where
-- numbers have four bytes. Then what the length shuts out: a frame whose numbers have another width than p's, or that ends in another
-- number of values than s, is refused by 6. Last, the numbers that a width holds beside those below p: each is refused by 4.
use mathlib.Core.Path.{◌≡◌, sym, ap, ◌∙◌}
use mathlib.Core.List.{List, [], ◌∷◌}
use Prim.Native.Nat.{ℕ, suc, ◌+◌, ◌*◌, ◌^◌, ◌<◌, ◌≤◌}
use native.Mathlib.Nat.{mul-le-mul_left, mul-le-mul_right, eq_of_mul-eq-mul_left, eq_of_mul-eq-mul_right}
use native.Mathlib.Decide.{dec_lt}
use native.Mathlib.Omega.{arith}
use lib.ListN.{length}
use Rattle.checks.specs.declared.Refusal.TheVariants.{Number, FrameLength}
use Rattle.checks.specs.Largest.{FrameSize, WordCount}
use Rattle.checks.specs.Prime.{IsModulus}
use Rattle.checks.specs.InOrder.{FirstFailing}
use Rattle.checks.specs.Outcome.{untouched}
use Rattle.checks.proofs.InOrder.{fails_here, ◌then◌}
use Rattle.words.specs.Words.{Below}
use Rattle.codec.proofs.BigEndian.{below_cons}
use Rattle.frame.specs.Width.{width}
use Rattle.frame.specs.Format.{map_length, longest, most_bytes, frame_in, frame_of}
use Rattle.frame.specs.Reading.{frame_numbers, frame_values, number_checks, frame_checks, accepted, read_frame}
use Rattle.frame.specs.Calls.{read_call}
use Rattle.frame.proofs.Widths.{width_small, width_some}
use Rattle.frame.proofs.RoundNumbers.{kept, Positive, kept_length, kept_all, kept_positive, below_of_kept}
use Rattle.frame.proofs.Round.{frame_length_lem, told_length, written_length, written_unpadded, written_numbers, written_values}
use Rattle.frame.proofs.Round.{accepted_lengths, accepted_bytes}
use Rattle.frame.proofs.Calls.{sizes_hold, read_refused}

-- ---- the most bytes

module _ (p n s : ℕ) where
  pub frame_most : (xs vs : List ℕ) → length xs ≡ n → length vs ≡ s → length (frame_of p n xs vs) ≤ most_bytes p n s
  unfolding most_bytes
  frame_most xs vs long values_long =
      let few : length (kept xs) ≤ n = omega (arith, kept_length xs) in
      omega (arith, frame_length_lem (width p) n xs vs, mul-le-mul_left (width p) few, ap (λ (k : ℕ). width p * k) values_long)

  -- n multipliers that are not 0 reach it
  pub most_reached : (xs vs : List ℕ) → length xs ≡ n → length vs ≡ s → Positive xs → length (frame_of p n xs vs) ≡ most_bytes p n s
  unfolding most_bytes
  most_reached xs vs long values_long h = frame_length_lem (width p) n xs vs ∙ rw (kept_all xs h, long, values_long)

  -- no frame that is longer is accepted
  pub accepted_most : (bytes xs vs : List ℕ) → Below 256 bytes → read_frame p n s bytes ≡ accepted xs vs → length bytes ≤ most_bytes p n s
  accepted_most bytes xs vs small e =
      let l = accepted_lengths p n s bytes xs vs e in
      rw (← (accepted_bytes p n s bytes xs vs small e)) (frame_most xs vs l.0 l.1)

  -- the longest frame has 264 + 4 × s bytes
  pub most_longest : n ≤ 64 → most_bytes p n s ≤ longest s
  unfolding most_bytes longest map_length
  most_longest h = omega (arith, mul-le-mul_right n (width_small p), mul-le-mul_right s (width_small p))

  pub longest_frame : (xs vs : List ℕ) → length xs ≡ n → length vs ≡ s → n ≤ 64 → length (frame_of p n xs vs) ≤ longest s
  longest_frame xs vs long values_long h = omega (arith, frame_most xs vs long values_long, most_longest h)

  -- it is reached only where numbers have four bytes
  pub longest_only : (xs vs : List ℕ) → length xs ≡ n → length vs ≡ s → n ≤ 64 → length (frame_of p n xs vs) ≡ longest s → width p ≡ 4
  unfolding longest most_bytes map_length
  longest_only xs vs long values_long h e = go (dec_lt (width p) 4)
    where
      go : Dec (width p < 4) → width p ≡ 4
      go (no four) = omega (arith, width_small p)
      go (yes less) =
          let few : width p ≤ 3 = omega arith in
          absurd (omega (arith, frame_most xs vs long values_long, mul-le-mul_right n few, mul-le-mul_right s few))

-- and there by 64 multipliers that are not 0
pub longest_reached : (p s : ℕ) (xs vs : List ℕ) → width p ≡ 4 → length xs ≡ 64 → length vs ≡ s → Positive xs
    → length (frame_of p 64 xs vs) ≡ longest s
unfolding longest most_bytes map_length
longest_reached p s xs vs four long values_long h = most_reached p 64 s xs vs long values_long h ∙ rw four (omega arith)

-- ---- numbers of another width

-- the same count of numbers, not 0, has the same bytes only in the same width
same_width : (a b m k s : ℕ) → 1 ≤ s → m + a * k + a * s ≡ m + b * k + b * s → a ≡ b
same_width a b m k s some e = eq_of_mul-eq-mul_right (k + s) (omega arith) a b (omega arith)

module _ (p w n s : ℕ) (xs vs : List ℕ) (long : length xs ≡ n) (values_long : length vs ≡ s) (some : 1 ≤ s) (other : w ≡ width p → ⊥) where
  pub other_width_fails : FirstFailing (frame_checks p n s (frame_in w n xs vs)) FrameLength
  other_width_fails =
      let has = frame_length_lem w n xs vs ∙ ap (λ (k : ℕ). map_length n + w * length (kept xs) + w * k) values_long in
      omega (arith, frame_length_lem w n xs vs)
      then fails_here
      (λ e. other (same_width w (width p) (map_length n) (length (kept xs)) s some (sym has ∙ e ∙ told_length p w n s xs vs long)))

  -- reading refuses it by 6, with the lent memory as it was: frames of before request 111, whose numbers have four bytes, among them
  pub other_width_refused : (multipliers values : List ℕ) → IsModulus p → FrameSize n → WordCount s → length multipliers ≡ n → length values ≡ s
      → read_call p n s (frame_in w n xs vs) multipliers values ≡ untouched (multipliers, values) FrameLength
  other_width_refused multipliers values ok size words room values_room =
      sym (read_refused p n s (frame_in w n xs vs) multipliers values (sizes_hold p n s ok size words) (room then values_room then other_width_fails))

-- ---- another number of values

-- "a frame ends in s values": one that ends in another number of them is not of the length that its map tells
module _ (p n s : ℕ) (xs vs : List ℕ) (long : length xs ≡ n) (other : length vs ≡ s → ⊥) where
  pub other_words_fails : FirstFailing (frame_checks p n s (frame_of p n xs vs)) FrameLength
  other_words_fails =
      let has = frame_length_lem (width p) n xs vs in
      omega (arith, has)
      then fails_here
      (λ e.
      let told = told_length p (width p) n s xs vs long in
      other (eq_of_mul-eq-mul_left (width p) (omega (arith, width_some p)) (length vs) s (omega (arith, sym has ∙ e ∙ told))))

  -- reading refuses it by 6, with the lent memory as it was: frames with fewer words a record than the board has, or with more
  pub other_words_refused : (multipliers values : List ℕ) → IsModulus p → FrameSize n → WordCount s → length multipliers ≡ n → length values ≡ s
      → read_call p n s (frame_of p n xs vs) multipliers values ≡ untouched (multipliers, values) FrameLength
  other_words_refused multipliers values ok size words room values_room =
      sym (read_refused p n s (frame_of p n xs vs) multipliers values (sizes_hold p n s ok size words) (room then values_room then other_words_fails))

-- ---- numbers that the width holds, not all below p

-- "a number of p or more giving 4", in multipliers of which none is 0 and values
number_large : (p : ℕ) (ns vs : List ℕ) → Positive ns → (Below p ns → Below p vs → ⊥) → FirstFailing (number_checks p ns vs) Number
number_large p [] vs pos bad = fails_here (λ l. bad (λ i h. absurd (omega arith)) l)
number_large p (x ∷ ns) vs pos bad =
    go (dec_lt x p) (λ l. number_large p ns vs (λ i h. pos (suc i) (omega arith)) (λ below. bad (below_cons p x ns l below)))
  where
    go : Dec (x < p) → (x < p → FirstFailing (number_checks p ns vs) Number) → FirstFailing (number_checks p (x ∷ ns) vs) Number
    go (no large) rest = pos 0 (omega arith) then fails_here large
    go (yes l) rest = pos 0 (omega arith) then l then rest l

-- what is written for numbers that fit the width, but are not all below p, is refused by 4
pub large_numbers_refused : (p n s : ℕ) (xs vs multipliers values : List ℕ) → IsModulus p → FrameSize n → WordCount s
    → length multipliers ≡ n → length values ≡ s → length xs ≡ n → length vs ≡ s
    → Below (256 ^ width p) xs → Below (256 ^ width p) vs → (Below p xs → Below p vs → ⊥)
    → read_call p n s (frame_of p n xs vs) multipliers values ≡ untouched (multipliers, values) Number
large_numbers_refused p n s xs vs multipliers values ok size words room values_room long values_long fit values-fit bad =
    sym
    (read_refused p n s (frame_of p n xs vs) multipliers values (sizes_hold p n s ok size words)
    (room then values_room then omega (arith, frame_length_lem (width p) n xs vs) then written_length p n s xs vs long values_long
    then written_unpadded (width p) n xs vs long then last))
  where
    large : FirstFailing (number_checks p (kept xs) vs) Number
    large = number_large p (kept xs) vs (kept_positive xs) (λ below. bad (below_of_kept p xs (omega (arith, ok.prime.two_or_more)) below))

    last : FirstFailing (number_checks p (frame_numbers p n (frame_of p n xs vs)) (frame_values p n s (frame_of p n xs vs))) Number
    last = rw (written_numbers p n xs vs long fit, written_values p n s xs vs long values_long values-fit) large
