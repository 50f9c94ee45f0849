-- The bit map of multipliers as the code makes it, one record after the other: a multiplier that is not 0 adds 2^(j mod 8) to
-- byte j/8, and 0 adds nothing. A byte is packed from eight bits (frame/proofs/RoundMap.antt), so both are said of packed numbers
-- first. Last, which of its bits stand, and how many.
use mathlib.Core.Path.{◌≡◌, refl, sym, ap, ◌∙◌}
use mathlib.Core.Bool.{Bool, true, false, not, true≢false}
use mathlib.Core.List.{List, [], ◌∷◌, append-nil}
use Prim.Native.Nat.{ℕ, zero, suc, ◌+◌, ◌*◌, ◌/◌, ◌%◌, ◌^◌, ◌<◌, ◌≤◌}
use native.Mathlib.Nat.{pow-zero, pow-suc, one-mul, mod-eq_of_lt, not-suc-le-zero}
use native.Mathlib.Numerals.{add-one}
use native.Mathlib.Decide.{ℕ_discrete}
use native.Mathlib.Omega.{arith}
use borrow.Author.Tests.{eq-eqb, ne_eqb, eqb-true, not-false}
use lib.Dec.{eqb}
use lib.Pow.{pow-lt}
use lib.ListN.{length, get_or, set, take, length-set, length-take, get_or-eq_default}
use lib.Seq.{ext_get_or, get_or-set_same, get_or-set_other}
use mir.Val.{Fits}
use mir.Syntax.{w8}
use Rattle.checks.specs.Largest.{largest}
use Rattle.field.specs.Written.{tabulate}
use Rattle.field.proofs.Written.{length_tabulate, get_d_tabulate, is_tabulate}
use Rattle.frame.specs.Format.{stands, map_byte, map_bytes, map_length}
use Rattle.frame.specs.Bitmap.{bit_at, standing, record_bits, ClearFrom, map_of, map_bits}
use Rattle.frame.proofs.RoundMap.{pack, pack_more, pack_same, pack_below, map_byte_lem, map_bit, record_bits_length, record_bit}
use Rattle.frame.proofs.RoundNumbers.{kept, stands_length, standing_kept}
use Rattle.frame.proofs.BitMaps.{standing_first}

-- ---- one bit more

-- a bit that is made to stand adds its power of 2
pack_mark :
    (f g : ℕ → Bool) (k i : ℕ) → i < k → f i ≡ false → g i ≡ true → ((t : ℕ) → (t ≡ i → ⊥) → g t ≡ f t) → pack g k ≡ pack f k + 2 ^ i
pack_mark f g zero i h no-bit bit same = absurd (not-suc-le-zero h)
pack_mark f g (suc k) zero h no-bit bit same =
    let rest = pack_same (λ t. g (suc t)) (λ t. f (suc t)) k (λ t l. same (suc t) (λ e. omega arith)) in
    simp pack_more (rw (no-bit, bit, rest, pow-zero) (omega arith))
pack_mark f g (suc k) (suc i) h no-bit bit same =
    let rest = pack_mark (λ t. f (suc t)) (λ t. g (suc t)) k i (omega arith) no-bit bit (λ t n. same (suc t) (λ e. n (omega arith))) in
    simp pack_more (rw (same 0 (λ e. omega arith), rest, pow-suc) (omega arith))

-- the bits of the first j + 1 records: those of the first j, and that of record j
prefix_other :
    (xs : List ℕ) (j k : ℕ) → j < length xs → (k ≡ j → ⊥) → get_or (stands (take (suc j) xs)) k false ≡ get_or (stands (take j xs)) k false
unfolding stands
prefix_other [] j k h n = absurd (not-suc-le-zero h)
prefix_other (x ∷ xs) zero zero h n = absurd (n refl)
prefix_other (x ∷ xs) zero (suc k) h n = refl
prefix_other (x ∷ xs) (suc j) zero h n = refl
prefix_other (x ∷ xs) (suc j) (suc k) h n = prefix_other xs j k (omega arith) (λ e. n (ap suc e))

prefix_last : (xs : List ℕ) (j : ℕ) → j < length xs → get_or (stands (take (suc j) xs)) j false ≡ not (eqb (get_or xs j 0) 0)
unfolding stands
prefix_last [] j h = absurd (not-suc-le-zero h)
prefix_last (x ∷ xs) zero h = refl
prefix_last (x ∷ xs) (suc j) h = prefix_last xs j (omega arith)

prefix_past : (xs : List ℕ) (j : ℕ) → get_or (stands (take j xs)) j false ≡ false
prefix_past xs j = get_or-eq_default (stands (take j xs)) false (omega (arith, stands_length (take j xs), length-take j xs))

-- ---- one record more

module _ (xs : List ℕ) (j : ℕ) (h : j < length xs) where
  -- the map of the first j records, and of one more
  byte_same :
      (b : ℕ) → ((i : ℕ) → i < 8 → 8 * b + i ≡ j → get_or xs j 0 ≡ 0) → map_byte (stands (take (suc j) xs)) b ≡ map_byte (stands (take j xs)) b
  byte_same b off =
      map_byte_lem _ b ∙ pack_same _ _ 8 (λ i l. by_place i l (ℕ_discrete (8 * b + i) j)) ∙ sym (map_byte_lem _ b)
    where
      by_place : (i : ℕ) → i < 8 → Dec (8 * b + i ≡ j) → get_or (stands (take (suc j) xs)) (8 * b + i) false ≡ get_or (stands (take j xs)) (8 * b + i) false
      by_place i l (no n) = prefix_other xs j (8 * b + i) h n
      by_place i l (yes e) =
          rw e (prefix_last xs j h ∙ ap not (eq-eqb (get_or xs j 0) 0 (off i l e)) ∙ sym (prefix_past xs j))

  byte_marked :
      (get_or xs j 0 ≡ 0 → ⊥) → map_byte (stands (take (suc j) xs)) (j / 8) ≡ map_byte (stands (take j xs)) (j / 8) + 2 ^ (j % 8)
  byte_marked n =
      let place : 8 * (j / 8) + j % 8 ≡ j = omega arith in
      simp map_byte_lem
      (pack_mark _ _ 8 (j % 8) (omega arith) (rw place (prefix_past xs j)) (rw place (prefix_last xs j h ∙ ap not (ne_eqb (get_or xs j 0) 0 n)))
      (λ t d. prefix_other xs j (8 * (j / 8) + t) h (λ e. d (omega arith))))

  -- 0 adds nothing
  pub map_skips : get_or xs j 0 ≡ 0 → map_of (take j xs) ≡ map_of (take (j + 1) xs)
  unfolding map_of
  map_skips e =
      let f = map_byte (stands (take j xs)) in
      rw add-one
      (is_tabulate 8 (map_byte (stands (take (suc j) xs))) (tabulate 8 f) (length_tabulate 8 f)
      (λ b l. get_d_tabulate 8 f b l ∙ sym (byte_same b (λ i k p. e))))

  module _ (l : j < 64) (n : get_or xs j 0 ≡ 0 → ⊥) where
    one_bit : 1 * 2 ^ (j % 8) % 256 ≡ 2 ^ (j % 8)
    one_bit = rw one-mul (mod-eq_of_lt (pow-lt {i = j % 8} {j = 8} (omega arith)))

    -- byte j/8 with its bit
    marked_byte : get_or (map_of (take j xs)) (j / 8) 0 + 1 * 2 ^ (j % 8) % 256 ≡ map_byte (stands (take (suc j) xs)) (j / 8)
    unfolding map_of
    marked_byte = rw (get_d_tabulate 8 (map_byte (stands (take j xs))) (j / 8) (omega arith), one_bit) (sym (byte_marked n))

    pub marked_fits : Fits w8 (get_or (map_of (take j xs)) (j / 8) 0 + 1 * 2 ^ (j % 8) % 256)
    marked_fits = record { fits = rw (marked_byte, map_byte_lem) (pack_below _ 8) }

    -- any other multiplier makes bit j mod 8 of byte j/8 stand
    pub map_marks :
        set (map_of (take j xs)) (j / 8) (get_or (map_of (take j xs)) (j / 8) 0 + 1 * 2 ^ (j % 8) % 256) ≡ map_of (take (j + 1) xs)
    unfolding map_of
    map_marks =
        rw (add-one, marked_byte)
        (is_tabulate 8 (map_byte (stands (take (suc j) xs))) _ (length-set (tabulate 8 f) (j / 8) _ ∙ length_tabulate 8 f)
        (λ b k. by_place b k (ℕ_discrete b (j / 8))))
      where
        f : ℕ → ℕ
        f = map_byte (stands (take j xs))

        by_place :
            (b : ℕ) → b < 8 → Dec (b ≡ j / 8)
            → get_or (set (tabulate 8 f) (j / 8) (map_byte (stands (take (suc j) xs)) (j / 8))) b 0 ≡ map_byte (stands (take (suc j) xs)) b
        by_place b k (yes e) = rw (sym e) (get_or-set_same (tabulate 8 f) b _ 0 (omega (arith, length_tabulate 8 f)))
        by_place b k (no d) =
            get_or-set_other (tabulate 8 f) (j / 8) b _ 0 d ∙ get_d_tabulate 8 f b k ∙ sym (byte_same b (λ i q e. absurd (d (omega arith))))

-- no record, no bit
pub map_none : 0 ∷ 0 ∷ 0 ∷ 0 ∷ 0 ∷ 0 ∷ 0 ∷ 0 ∷ [] ≡ map_of []
unfolding map_of tabulate map_byte stands
map_none = refl

-- ---- its bits

stands_at : (xs : List ℕ) (j : ℕ) → j < length xs → get_or (stands xs) j false ≡ not (eqb (get_or xs j 0) 0)
unfolding stands
stands_at [] j h = absurd (not-suc-le-zero h)
stands_at (x ∷ xs) zero h = refl
stands_at (x ∷ xs) (suc j) h = stands_at xs j (omega arith)

module _ (xs : List ℕ) where
  -- bit j is record j's, and does not stand where there is no record
  bit_of : (j : ℕ) → j < largest → bit_at (map_of xs) j ≡ get_or (stands xs) j false
  unfolding map_of map_bytes map_length
  bit_of j h = rw append-nil at (map_bit largest (stands xs) [] j (omega arith))

  -- it stands where the multiplier is not 0
  pub stands_of : (j : ℕ) → j < largest → j < length xs → bit_at (map_of xs) j ≡ true → get_or xs j 0 ≡ 0 → ⊥
  stands_of j h l e z = true≢false (sym e ∙ bit_of j h ∙ stands_at xs j l ∙ ap not (eq-eqb (get_or xs j 0) 0 z))

  pub absent_of : (j : ℕ) → j < largest → j < length xs → bit_at (map_of xs) j ≡ false → get_or xs j 0 ≡ 0
  absent_of j h l e = eqb-true _ _ (not-false _ (sym (stands_at xs j l) ∙ sym (bit_of j h) ∙ e))

  -- so the standing bits are as many as the multipliers that are not 0
  pub standing_of : length xs ≤ largest → standing (map_bits (map_of xs)) ≡ length (kept xs)
  standing_of h =
      let n = length xs in
      let bits : record_bits n (map_of xs) ≡ stands xs =
      ext_get_or false (record_bits n (map_of xs)) (stands xs) (record_bits_length n (map_of xs) ∙ sym (stands_length xs))
      (λ j l.
      let k : j < n = omega (arith, record_bits_length n (map_of xs)) in
      record_bit n (map_of xs) j k ∙ bit_of j (omega arith)) in
      let clear : ClearFrom n largest (map_of xs) = λ j l k. bit_of j l ∙ get_or-eq_default (stands xs) false (omega (arith, stands_length xs)) in
      standing_first n (map_of xs) h clear ∙ ap standing bits ∙ standing_kept xs
