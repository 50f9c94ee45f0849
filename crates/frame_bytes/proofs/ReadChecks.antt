-- Reading a frame by its checks in order: which one fails first, or that all hold, as the map that was built from the frame's
-- front tells; and what reading then comes to.
use mathlib.Core.Path.{◌≡◌, sym, ap, ap₂, refl, ◌∙◌}
use mathlib.Core.List.{List}
use Prim.Native.Nat.{ℕ, ◌+◌, ◌*◌, ◌≤◌, ◌<◌}
use native.Mathlib.Omega.{arith}
use lib.ListN.{length, drop}
use Rattle.checks.specs.declared.Refusal.{Refusal}
use Rattle.checks.specs.declared.Refusal.TheVariants.{FrameLength, Padding}
use Rattle.checks.specs.Told.{results}
use Rattle.checks.specs.Outcome.{outcome, untouched}
use Rattle.checks.specs.InOrder.{AllHold, FirstFailing}
use Rattle.checks.specs.Largest.{largest}
use Rattle.checks.proofs.InOrder.{fails_here, in_order_done, in_order_refused, ◌then◌, ◌and_then◌}
use Rattle.frame.specs.Width.{width}
use Rattle.frame.specs.Format.{map_length}
use Rattle.frame.specs.Bitmap.{standing, record_bits, whole_map, ClearFrom, Unpadded, map_from, map_bits}
use Rattle.frame.specs.Reading.{numbers_in, spread, frame_length, frame_numbers, frame_multipliers, frame_values, frame_checks}
use Rattle.frame.specs.Reading.{accepted, read_frame}
use Rattle.frame.specs.Calls.{read_outcome}
use Rattle.frame.proofs.BitMaps.{map_record_bits, clear_unpadded, unpadded_clear, standing_first, standing_whole}
use Rattle.frame_bytes.specs.Stages.{values_after, checks_from, multipliers_from}

-- ---- the checks of a frame

-- the map of eight bytes that was built from the front of the bytes
pub record Mapped (n : ℕ) (bytes map : List ℕ) : Type 0 where
  pub fits : map_length n ≤ length bytes
  pub built : map ≡ map_from (map_length n) bytes

-- and its standing bits are counted
pub record Counted (n : ℕ) (bytes map : List ℕ) (count : ℕ) : Type 0 where
  pub mapped : Mapped n bytes map
  pub small : n ≤ largest
  pub counted : count ≡ standing (map_bits map)

module _ (p n s : ℕ) (bytes : List ℕ) where
  -- shorter than the map
  pub frame_short : length bytes < map_length n → FirstFailing (frame_checks p n s bytes) FrameLength
  frame_short h = fails_here (λ l. omega arith)

  module _ (map : List ℕ) (count : ℕ) (c : Counted n bytes map count) where
    bits : record_bits n map ≡ record_bits n bytes
    bits = rw c.mapped.built (map_record_bits n bytes c.mapped.fits)

    pub multipliers_read : multipliers_from (width p) map bytes (map_length n) 0 n ≡ frame_multipliers p n bytes
    unfolding multipliers_from frame_multipliers frame_numbers record_bits
    multipliers_read = ap (λ bs. spread bs (numbers_in (width p) (standing bs) (drop (map_length n) bytes))) bits

    count_whole : count ≡ standing (whole_map n bytes)
    count_whole = c.counted ∙ rw c.mapped.built (standing_whole n bytes c.mapped.fits c.small)

    length_told : map_length n + width p * count + width p * s ≡ frame_length p n s bytes
    unfolding frame_length
    length_told = ap (λ (k : ℕ). map_length n + width p * k + width p * s) count_whole

    -- another length than the map tells
    pub frame_other_length :
        (length bytes ≡ map_length n + width p * count + width p * s → ⊥) → FirstFailing (frame_checks p n s bytes) FrameLength
    frame_other_length h = c.mapped.fits then fails_here (λ e. h (e ∙ sym length_told))

    -- a bit stands at n or above in a frame of that length
    pub frame_padded :
        length bytes ≡ map_length n + width p * count + width p * s → (ClearFrom n largest map → ⊥) → FirstFailing (frame_checks p n s bytes) Padding
    frame_padded long h =
        let m = c.mapped in
        m.fits then (long ∙ length_told) then fails_here (λ u. h (rw m.built (unpadded_clear n bytes m.fits u)))

    -- none does: the numbers are the records', and decide
    module _ (clear : ClearFrom n largest map) where
      unpadded : Unpadded n bytes
      unpadded = clear_unpadded n bytes c.mapped.fits c.small (rw c.mapped.built at clear)

      pub count_records : count ≡ standing (record_bits n map)
      count_records = c.counted ∙ standing_first n map c.small clear

      count_bytes : count ≡ standing (record_bits n bytes)
      count_bytes = count_records ∙ ap standing bits

      module _ (long : length bytes ≡ map_length n + width p * count + width p * s) where
        pub frame_number :
            {k : Refusal} → FirstFailing (checks_from p (width p) s bytes (map_length n) count) k → FirstFailing (frame_checks p n s bytes) k
        unfolding frame_numbers frame_values values_after
        frame_number f = c.mapped.fits then (long ∙ length_told) then unpadded then rw count_bytes at f

        pub frame_good : AllHold (checks_from p (width p) s bytes (map_length n) count) → AllHold (frame_checks p n s bytes)
        unfolding frame_numbers frame_values values_after
        frame_good a = c.mapped.fits and_then (long ∙ length_told) and_then unpadded and_then rw count_bytes at a

      -- the values stand behind them
      pub values_read : numbers_in (width p) s (drop (map_length n + width p * count) bytes) ≡ frame_values p n s bytes
      unfolding frame_values
      values_read = ap (λ (k : ℕ). numbers_in (width p) s (drop (map_length n + width p * k) bytes)) count_bytes

-- ---- what reading comes to

module _ (p n s : ℕ) (bytes : List ℕ) (lent : List ℕ × List ℕ) where
  pub frame_refused : {k : Refusal} → FirstFailing (frame_checks p n s bytes) k → untouched lent k ≡ read_outcome s lent (read_frame p n s bytes)
  unfolding read_frame read_outcome
  frame_refused f = ap (read_outcome s lent) (sym (in_order_refused _ _ f))

  pub frame_accepted :
      {xs vs : List ℕ} → AllHold (frame_checks p n s bytes) → xs ≡ frame_multipliers p n bytes → vs ≡ frame_values p n s bytes
      → outcome (results s) (xs, vs) ≡ read_outcome s lent (read_frame p n s bytes)
  unfolding read_frame read_outcome
  frame_accepted a e w = ap (read_outcome s lent) (ap₂ accepted e w ∙ sym (in_order_done _ _ _ a (λ _. refl)))
