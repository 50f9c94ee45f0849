-- The multipliers as the writer puts them, one after the other: what stands in the bytes after j of them, and where the next
-- one goes. Then the values, of which none is left out.
use mathlib.Core.Path.{◌≡◌, refl, sym, ap, ◌∙◌}
use mathlib.Core.List.{List, [], ◌∷◌, ◌++◌, append_assoc, append-nil}
use Prim.Native.Nat.{ℕ, suc, ◌+◌, ◌*◌, ◌<◌, ◌≤◌}
use native.Mathlib.Nat.{mul-le-mul_left, mul-suc}
use native.Mathlib.Numerals.{add-one}
use native.Mathlib.Omega.{arith}
use borrow.Author.Tests.{eq-eqb, ne_eqb}
use lib.Dec.{eqb}
use lib.ListN.{length, get_or, take, length-append, length-take}
use lib.Seq.{take-suc, length-take-le}
use Rattle.algebra.specs.Choice.{choose}
use Rattle.codec.specs.BigEndian.{bytes_of}
use Rattle.codec.specs.Placed.{placed}
use Rattle.codec.proofs.BigEndian.{bytes_length}
use Rattle.codec.proofs.Placed.{placed_length, placed_none, placed_next}
use Rattle.frame.specs.Format.{packed, value_bytes}
use Rattle.frame.proofs.Bytes.{values_none, values_more, value_bytes_length}
use Rattle.frame.proofs.RoundNumbers.{kept, packed_kept, kept_length}

module _ (w : ℕ) where
  packed_append : (xs ys : List ℕ) → packed w (xs ++ ys) ≡ packed w xs ++ packed w ys
  unfolding packed
  packed_append [] ys = refl
  packed_append (x ∷ xs) ys = rw (packed_append xs ys) (sym (append_assoc (choose (eqb x 0) [] (bytes_of w x)) (packed w xs) (packed w ys)))

  packed_one : (x : ℕ) → packed w (x ∷ []) ≡ choose (eqb x 0) [] (bytes_of w x)
  unfolding packed
  packed_one x = append-nil (choose (eqb x 0) [] (bytes_of w x))

  packed_none : packed w [] ≡ []
  unfolding packed
  packed_none = refl

  -- each multiplier that is not 0 takes its bytes
  pub packed_length : (xs : List ℕ) → length (packed w xs) ≡ w * length (kept xs)
  packed_length xs = rw packed_kept (value_bytes_length w (kept xs))

  pub packed_short : (xs : List ℕ) → length (packed w xs) ≤ w * length xs
  packed_short xs = rw packed_length (mul-le-mul_left w (kept_length xs))

  module _ (xs : List ℕ) (j : ℕ) (h : j < length xs) where
    packed_more : packed w (take (j + 1) xs) ≡ packed w (take j xs) ++ choose (eqb (get_or xs j 0) 0) [] (bytes_of w (get_or xs j 0))
    packed_more = rw (add-one, take-suc xs j 0 h, packed_append, packed_one)

    packed_skips : get_or xs j 0 ≡ 0 → packed w (take (j + 1) xs) ≡ packed w (take j xs)
    packed_skips e = packed_more ∙ rw (eq-eqb (get_or xs j 0) 0 e) (append-nil (packed w (take j xs)))

    packed_adds : (get_or xs j 0 ≡ 0 → ⊥) → packed w (take (j + 1) xs) ≡ packed w (take j xs) ++ bytes_of w (get_or xs j 0)
    packed_adds n = packed_more ∙ rw (ne_eqb (get_or xs j 0) 0 n)

-- after j multipliers: the place behind them, and the bytes
pub record Packing (w from : ℕ) (xs : List ℕ) (j at : ℕ) (old new : List ℕ) : Type 0 where
  pub place : at ≡ from + length (packed w (take j xs))
  pub bytes : new ≡ placed from (packed w (take j xs)) old

module _ (w from : ℕ) (xs : List ℕ) (old : List ℕ) (room : from + w * length xs ≤ length old) where
  part_short : (j : ℕ) → j ≤ length xs → length (packed w (take j xs)) ≤ w * j
  part_short j h = omega (arith, packed_short w (take j xs), mul-le-mul_left w (length_take_at_most j xs))
    where
      length_take_at_most : (j : ℕ) (xs : List ℕ) → length (take j xs) ≤ j
      length_take_at_most j xs = omega (arith, length-take j xs)

  -- there is room for j numbers, and for one more where one is left
  part_room : (j : ℕ) → j ≤ length xs → from + w * j ≤ length old
  part_room j h = omega (arith, mul-le-mul_left w h)

  next_room : (j : ℕ) → j < length xs → from + w * j + w ≤ length old
  next_room j h = omega (arith, part_room (suc j) h, mul-suc w j)

  pub packing_none : Packing w from xs 0 from old old
  packing_none = record { place = rw packed_none (omega arith); bytes = rw packed_none (sym (placed_none from old)) }

  packing_length : (j at : ℕ) (new : List ℕ) → j ≤ length xs → Packing w from xs j at old new → length new ≡ length old
  packing_length j at new h g =
      ap length g.bytes ∙ placed_length from (packed w (take j xs)) old (omega (arith, part_short j h, part_room j h))

  -- there is room for the next number
  pub packing_room : (j at : ℕ) (new : List ℕ) → j < length xs → Packing w from xs j at old new → at + w ≤ length new
  packing_room j at new h g =
      rw (packing_length j at new (omega arith) g, g.place) (omega (arith, part_short j (omega arith), next_room j h))

  pub packing_skip : (j at : ℕ) (new : List ℕ) → j < length xs → get_or xs j 0 ≡ 0 → Packing w from xs j at old new → Packing w from xs (j + 1) at old new
  packing_skip j at new h e g = record { place = rw (packed_skips w xs j h e) g.place; bytes = rw (packed_skips w xs j h e) g.bytes }

  pub packing_more :
      (j at : ℕ) (new : List ℕ) → j < length xs → (get_or xs j 0 ≡ 0 → ⊥) → Packing w from xs j at old new
      → Packing w from xs (j + 1) (at + w) old (placed at (bytes_of w (get_or xs j 0)) new)
  packing_more j at new h n g =
      record {
        place = rw (packed_adds w xs j h n, g.place, length-append, bytes_length w (get_or xs j 0)) (omega arith);
        bytes =
            rw (g.place, g.bytes, packed_adds w xs j h n)
            (placed_next from (packed w (take j xs)) (bytes_of w (get_or xs j 0)) old (omega (arith, part_room j (omega arith))));
      }

-- ---- the values

module _ (w : ℕ) where
  values_append : (xs ys : List ℕ) → value_bytes w (xs ++ ys) ≡ value_bytes w xs ++ value_bytes w ys
  values_append [] ys = rw values_none
  values_append (x ∷ xs) ys =
      rw (values_more w x (xs ++ ys), values_more w x xs, values_append xs ys) (sym (append_assoc (bytes_of w x) (value_bytes w xs) (value_bytes w ys)))

  values_one : (v : ℕ) → value_bytes w (v ∷ []) ≡ bytes_of w v
  values_one v = rw (values_more, values_none) (append-nil (bytes_of w v))

  -- the bytes of one value more
  values_next : (vs : List ℕ) (u : ℕ) → u < length vs → value_bytes w (take (u + 1) vs) ≡ value_bytes w (take u vs) ++ bytes_of w (get_or vs u 0)
  values_next vs u h = rw (add-one, take-suc vs u 0 h, values_append, values_one)

  values_part : (vs : List ℕ) (u : ℕ) → u ≤ length vs → length (value_bytes w (take u vs)) ≡ w * u
  values_part vs u h = rw (value_bytes_length, length-take-le u vs h)

module _ (w from : ℕ) (vs old : List ℕ) (room : from + w * length vs ≤ length old) where
  -- before the first value
  pub laying_none : old ≡ placed from (value_bytes w (take 0 vs)) old
  laying_none = rw values_none (sym (placed_none from old))

  -- one value more
  pub laying_more :
      (u : ℕ) (new : List ℕ) → u < length vs → new ≡ placed from (value_bytes w (take u vs)) old
      → placed (from + w * u) (bytes_of w (get_or vs u 0)) new ≡ placed from (value_bytes w (take (u + 1) vs)) old
  laying_more u new more g =
      let behind : from + w * u ≡ from + length (value_bytes w (take u vs)) = omega (arith, values_part w vs u (omega arith)) in
      let inside : from ≤ length old = omega arith in
      rw (behind, g, values_next w vs u more) (placed_next from (value_bytes w (take u vs)) (bytes_of w (get_or vs u 0)) old inside)
