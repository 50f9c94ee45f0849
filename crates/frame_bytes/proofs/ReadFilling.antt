-- Filling in the multipliers record by record: a standing bit takes the next number, any other gives 0, and what is written
-- together with what is left is what the frame has.
use mathlib.Core.Path.{◌≡◌, refl, sym, ◌∙◌}
use mathlib.Core.Bool.{Bool, true, false}
use mathlib.Core.List.{List, [], ◌∷◌, ◌++◌, append-nil}
use Prim.Native.Nat.{ℕ, suc, ◌+◌, ◌*◌, ◌-◌, ◌≤◌, ◌<◌}
use native.Mathlib.Nat.{zero-add}
use native.Mathlib.Numerals.{add-one}
use native.Mathlib.Omega.{arith}
use lib.ListN.{length, set, take, length-set}
use lib.Seq.{take-suc-set, take_all, append_snoc}
use Rattle.algebra.specs.Choice.{choose}
use Rattle.codec.specs.BigEndian.{number_at}
use Rattle.frame.specs.Bitmap.{bit_at, bits_from, standing, record_bits}
use Rattle.frame.specs.Reading.{spread}
use Rattle.frame.proofs.Bits.{bits_more, count, count_more, count_record_bits}
use Rattle.frame.proofs.Bytes.{numbers_more}
use Rattle.frame_bytes.specs.Stages.{multipliers_from}

-- the standing bits and the multipliers, by the first bit
standing_true : (bs : List Bool) → standing (true ∷ bs) ≡ suc (standing bs)
unfolding standing
standing_true bs = omega arith

standing_false : (bs : List Bool) → standing (false ∷ bs) ≡ standing bs
unfolding standing
standing_false bs = zero-add (standing bs)

spread_stands : (bs : List Bool) (x : ℕ) (xs : List ℕ) → spread (true ∷ bs) (x ∷ xs) ≡ x ∷ spread bs xs
unfolding spread
spread_stands bs x xs = refl

spread_absent : (bs : List Bool) (xs : List ℕ) → spread (false ∷ bs) xs ≡ 0 ∷ spread bs xs
unfolding spread
spread_absent bs xs = refl

-- the multipliers from record j on, by the bit of record j
module _ (w : ℕ) (map bytes : List ℕ) (at j : ℕ) where
  multipliers_none : multipliers_from w map bytes at j 0 ≡ []
  unfolding multipliers_from bits_from spread
  multipliers_none = refl

  multipliers_stands : (k : ℕ) → bit_at map j ≡ true
      → multipliers_from w map bytes at j (suc k) ≡ number_at w bytes at ∷ multipliers_from w map bytes (at + w) (suc j) k
  unfolding multipliers_from
  multipliers_stands k e = rw (bits_more, e, standing_true, numbers_more, spread_stands)

  multipliers_absent : (k : ℕ) → bit_at map j ≡ false → multipliers_from w map bytes at j (suc k) ≡ 0 ∷ multipliers_from w map bytes at (suc j) k
  unfolding multipliers_from
  multipliers_absent k e = rw (bits_more, e, standing_false, spread_absent)

-- the first j of n multipliers are written, and those that are left are to be read from the place on
pub record Filling (w : ℕ) (map bytes : List ℕ) (start n at j : ℕ) (xs : List ℕ) : Type 0 where
  pub reached : j ≤ n
  pub long : length xs ≡ n
  pub room : at + w * count map j (n - j) ≤ length bytes
  pub filled : take j xs ++ multipliers_from w map bytes at j (n - j) ≡ multipliers_from w map bytes start 0 n

pub filling_none :
    (w : ℕ) (map bytes : List ℕ) (start : ℕ) (xs : List ℕ) → start + w * standing (record_bits (length xs) map) ≤ length bytes
    → Filling w map bytes start (length xs) start 0 xs
filling_none w map bytes start xs h =
    let all : length xs - 0 ≡ length xs = omega arith in
    record {
      reached = omega arith;
      long = refl;
      room = rw (all, ← count_record_bits) h;
      filled = rw all;
    }

module _ (w : ℕ) (map bytes : List ℕ) (start n at j : ℕ) (xs : List ℕ) (f : Filling w map bytes start n at j xs) (more : j < n) where
  left : n - j ≡ suc (n - suc j)
  left = omega arith

  -- the bytes reach for the number of this record, if its bit stands, and for those after it
  reach : (b : Bool) → bit_at map j ≡ b → at + w * (choose b 1 0 + count map (suc j) (n - suc j)) ≤ length bytes
  reach b e = rw (← e, ← count_more map j (n - suc j), ← left) f.room

  -- a number stands at the place of a standing bit
  pub filling_room : bit_at map j ≡ true → at + w ≤ length bytes
  filling_room e = omega (arith, reach true e)

  -- one multiplier more
  next :
      (v place : ℕ) →
      place + w * count map (suc j) (n - suc j) ≤ length bytes →
      multipliers_from w map bytes at j (suc (n - suc j)) ≡ v ∷ multipliers_from w map bytes place (suc j) (n - suc j) →
      Filling w map bytes start n place (j + 1) (set xs j v)
  next v place room step =
      let fits : j < length xs = rw f.long more in
      record {
        reached = omega arith;
        long = length-set xs j v ∙ f.long;
        room = rw add-one room;
        filled = rw (add-one, take-suc-set xs j v fits, append_snoc, ← step, ← left) f.filled;
      }

  pub filling_stands : bit_at map j ≡ true → Filling w map bytes start n (at + w) (j + 1) (set xs j (number_at w bytes at))
  filling_stands e =
      next (number_at w bytes at) (at + w) (omega (arith, reach true e)) (multipliers_stands w map bytes at j (n - suc j) e)

  pub filling_absent : bit_at map j ≡ false → Filling w map bytes start n at (j + 1) (set xs j 0)
  filling_absent e = next 0 at (omega (arith, reach false e)) (multipliers_absent w map bytes at j (n - suc j) e)

-- past the last record all are written
pub filling_all :
    (w : ℕ) (map bytes : List ℕ) (start n at j : ℕ) (xs : List ℕ) → Filling w map bytes start n at j xs → n ≤ j
    → xs ≡ multipliers_from w map bytes start 0 n
filling_all w map bytes start n at j xs f h =
    let none : n - j ≡ 0 = omega arith in
    let whole : take j xs ≡ xs = take_all j xs (omega (arith, f.long)) in
    sym (append-nil xs) ∙ (rw (none, whole, multipliers_none) at f.filled)
