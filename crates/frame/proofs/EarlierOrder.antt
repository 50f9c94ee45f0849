-- Request 101 moves what it says and nothing else: in its order and in that of 01 reading comes to the same, but for a frame with a
-- standing bit at n or above that is at least as long as its map and not of the length counted over it, which 01 refuses by 7 and
-- the request by 6. By cases of the three checks; without padding both count the same bits. Then of the call, behind the checks that
-- come before these.
use mathlib.Core.Path.{◌≡◌, refl, sym, ap, ◌∙◌}
use mathlib.Core.Logic.{◌↔◌}
use mathlib.Core.Bool.{Bool, true, false, true≢false}
use mathlib.Core.List.{List}
use Prim.Native.Nat.{ℕ, zero, suc, ◌+◌, ◌*◌, ◌≤◌, ◌<◌}
use native.Mathlib.Decide.{dec_le, dec_lt}
use native.Mathlib.Omega.{arith}
use lib.ListN.{length}
use Rattle.checks.specs.declared.Refusal.{Refusal}
use Rattle.checks.specs.declared.Refusal.TheVariants.{Length, FrameLength, Padding}
use Rattle.checks.specs.InOrder.{Check, Checks, passed, ◌else◌, ◌⨾◌, Given, then_checks, in_order, AllHold, FirstFailing}
use Rattle.checks.specs.Told.{results}
use Rattle.checks.specs.Outcome.{Outcome, outcome, untouched}
use Rattle.checks.specs.Decide.{long?}
use Rattle.checks.specs.Sizes.{frame_sizes}
use Rattle.checks.proofs.InOrder.{none_left, fails_here, in_order_done, in_order_refused, in_order_elim, in_order_map, in_order_then, not_both}
use Rattle.checks.proofs.InOrder.{◌and_then◌, ◌then◌}
use Rattle.frame.specs.Width.{width}
use Rattle.frame.specs.Format.{map_length}
use Rattle.frame.specs.Bitmap.{bit_at, standing, whole_map, ClearFrom, StandsFrom, Unpadded}
use Rattle.frame.specs.Reading.{frame_length, frame_multipliers, frame_values, frame_checks}
use Rattle.frame.specs.Decide.{unpadded?}
use Rattle.frame.specs.Calls.{read_call}
use Rattle.frame.specs.EarlierOrder.{earlier_checks, earlier_read, Moved, MovesExactly, moved, kept, ReadMoved, ReadMoves}
use Rattle.frame.proofs.BitMaps.{unpadded_length}

-- ---- what was and what is

module _ {X M : Type 0} {seven six was is : X} where
  -- they differ exactly where M holds, since 7 and 6 do
  pub differ_exactly : (six ≡ seven → ⊥) → MovesExactly M seven six was is → (is ≡ was → ⊥) ↔ M
  differ_exactly apart (moved m a b) = (λ _. m, λ _ e. apart (sym b ∙ e ∙ a))
  differ_exactly apart (kept k e) = (λ h. absurd (h e), λ m. absurd (k m))

  -- whatever is made of them
  pub moves_map : {Y : Type 0} (f : X → Y) → MovesExactly M seven six was is → MovesExactly M (f seven) (f six) (f was) (f is)
  moves_map f (moved m a b) = moved m (ap f a) (ap f b)
  moves_map f (kept k e) = kept k (ap f e)

-- refused by 6 is not refused by 7
pub six_not_seven : {L : Type 0} (lent : L) → untouched lent FrameLength ≡ untouched lent Padding → ⊥
six_not_seven {L} lent e = omega (arith, ap (λ (o : Outcome L). o.told.number) e)

-- behind checks that both have, all of which hold exactly if F does
module _ {X F M : Type 0} {seven six : X} (front : Checks Refusal) (refuse : Refusal → X) (given : Given front → F) (holds : F → AllHold front) where
  pub behind : (was is : Given front → X) → ((hs : Given front) → MovesExactly M seven six (was hs) (is hs))
      → MovesExactly (F × M) seven six (in_order front was refuse) (in_order front is refuse)
  behind was is each =
      rw (in_order_map (λ z. z.0) front both twice, in_order_map (λ z. z.1) front both twice) at
      (in_order_elim both twice (λ z. MovesExactly (F × M) seven six z.0 z.1) (λ hs. past hs (each hs)) before)
    where
      both : Given front → X × X
      both hs = (was hs, is hs)

      twice : Refusal → X × X
      twice k = (refuse k, refuse k)

      past : {a b : X} → Given front → MovesExactly M seven six a b → MovesExactly (F × M) seven six a b
      past hs (moved m e f) = moved (given hs, m) e f
      past hs (kept k e) = kept (λ m. k m.1) e

      before : (k : Refusal) → FirstFailing front k → MovesExactly (F × M) seven six (refuse k) (refuse k)
      before k f = kept (λ m. not_both f (holds m.0)) refl

-- ---- the two orders

-- where not all of the first k bits are clear from n on, one of them stands
one_stands : (n k : ℕ) (bytes : List ℕ) → (ClearFrom n k bytes → ⊥) → StandsFrom n k bytes
one_stands n zero bytes f = absurd (f (λ j h. absurd (omega arith)))
one_stands n (suc k) bytes f = last (dec_le n k) (bit_at bytes k) refl (one_stands n k bytes)
  where
    up : StandsFrom n k bytes → StandsFrom n (suc k) bytes
    up (j, a, b, c) = (j, a, omega arith, c)

    one_more : (n ≤ k → bit_at bytes k ≡ false) → ClearFrom n k bytes → ClearFrom n (suc k) bytes
    one_more clear g i h l = go (dec_lt i k)
      where
        go : Dec (i < k) → bit_at bytes i ≡ false
        go (yes b) = g i b l
        go (no b) = let e : i ≡ k = omega arith in rw e (clear (omega arith))

    last : Dec (n ≤ k) → (b : Bool) → bit_at bytes k ≡ b → ((ClearFrom n k bytes → ⊥) → StandsFrom n k bytes) → StandsFrom n (suc k) bytes
    last (yes h) true e below = (k, h, omega arith, e)
    last (yes h) false e below = up (below (λ g. f (one_more (λ _. e) g)))
    last (no h) b e below = up (below (λ g. f (one_more (λ l. absurd (h l)) g)))

-- the reader's length is the one that the request counts
counted_length : (p n s : ℕ) (bytes : List ℕ) → frame_length p n s bytes ≡ map_length n + width p * standing (whole_map n bytes) + width p * s
unfolding frame_length
counted_length p n s bytes = omega arith

module _ {X : Type 0} (p n s : ℕ) (bytes : List ℕ) (done : X) (refuse : Refusal → X) where
  abbrev was : X
  was = in_order (earlier_checks p n s bytes) (λ _. done) refuse

  abbrev is : X
  is = in_order (frame_checks p n s bytes) (λ _. done) refuse

  -- past a check that holds the others decide
  past_check : (c : Check Refusal) (cs : Checks Refusal) → c.Holds → in_order (c ⨾ cs) (λ _. done) refuse ≡ in_order cs (λ _. done) refuse
  past_check c cs h = in_order_then (c ⨾ passed) cs done refuse ∙ in_order_done _ _ _ (h and_then none_left) (λ _. refl)

  -- whatever is done where all checks hold, and however it is refused
  pub reading_moves : MovesExactly (Moved p n s bytes) (refuse Padding) (refuse FrameLength) was is
  reading_moves = by_checks (dec_le (map_length n) (length bytes)) (long? bytes (frame_length p n s bytes)) (unpadded? n bytes)
    where
      stands : Moved p n s bytes → Unpadded n bytes → ⊥
      stands m clear = let (j, a, b, c) = m.padded in true≢false (sym c ∙ clear j b (omega arith))

      by_checks : Dec (map_length n ≤ length bytes) → Dec (length bytes ≡ frame_length p n s bytes) → Dec (Unpadded n bytes)
          → MovesExactly (Moved p n s bytes) (refuse Padding) (refuse FrameLength) was is
      by_checks (no short) _ _ =
          kept (λ m. short m.map_fits) (in_order_refused _ _ (fails_here short) ∙ sym (in_order_refused _ _ (fails_here short)))
      by_checks (yes fits) (no other) (no padded) =
          let (j, a, b, c) = one_stands n (8 * map_length n) bytes padded in
          moved (record { padded = (j, omega arith, b, c); map_fits = fits; other_length = λ e. other (e ∙ sym (counted_length p n s bytes)) })
          (in_order_refused _ _ (fits then fails_here padded)) (in_order_refused _ _ (fits then fails_here other))
      by_checks (yes fits) (yes long) (no padded) =
          kept (λ m. m.other_length (long ∙ counted_length p n s bytes))
          (in_order_refused _ _ (fits then long then fails_here padded) ∙ sym (in_order_refused _ _ (fits then fails_here padded)))
      by_checks (yes fits) (no other) (yes clear) =
          kept (λ m. stands m clear)
          (in_order_refused _ _ (fits then fails_here other)
          ∙ sym (in_order_refused _ _ (fits then clear then fails_here (λ e. other (e ∙ sym (unpadded_length p n s bytes clear))))))
      by_checks (yes fits) (yes long) (yes clear) =
          kept (λ m. stands m clear)
          (past_check _ _ fits ∙ past_check _ _ long ∙ past_check _ _ clear
          ∙ sym (past_check _ _ fits ∙ past_check _ _ clear ∙ past_check _ _ (long ∙ unpadded_length p n s bytes clear)))

-- ---- the call

module _ (p n s : ℕ) (bytes xs vs : List ℕ) where
  abbrev front : Checks Refusal
  front = then_checks (frame_sizes p n s) (λ _. long? xs n else Length ⨾ long? vs s else Length ⨾ passed)

  -- what read comes to has moved where the request says, and nowhere else
  pub read_moves : ReadMoves p n s bytes xs vs
  unfolding read_call earlier_read
  read_moves =
      let o = outcome {M = List ℕ × List ℕ} (results s) (frame_multipliers p n bytes, frame_values p n s bytes) in
      let refuse = untouched {M = List ℕ × List ℕ} (xs, vs) in
      rw (in_order_then front (frame_checks p n s bytes) o refuse, in_order_then front (earlier_checks p n s bytes) o refuse)
      (behind front refuse (λ hs. (hs.0, hs.1.0, hs.1.1.0, hs.1.1.1.0, hs.1.1.1.1.0))
      (λ h. h.0 and_then h.1 and_then h.2 and_then h.3 and_then h.4 and_then none_left) _ _
      (λ _. reading_moves p n s bytes o refuse))

  pub read_differs : (read_call p n s bytes xs vs ≡ earlier_read p n s bytes xs vs → ⊥) ↔ ReadMoved p n s bytes xs vs
  read_differs = differ_exactly (six_not_seven (xs, vs)) read_moves
