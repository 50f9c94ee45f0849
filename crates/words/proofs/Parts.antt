-- Parts of a list: one that is replaced by a list of the same length, as a call that was lent it leaves it, the front alike, and
-- what stands in a part.
use mathlib.Core.Path.{◌≡◌, sym, ap, ◌∙◌}
use mathlib.Core.List.{List, ◌++◌}
use Prim.Native.Nat.{ℕ, ◌+◌, ◌-◌, ◌≤◌, ◌<◌, min}
use native.Mathlib.Decide.{dec_lt}
use native.Mathlib.Omega.{arith}
use lib.ListN.{length, get_or, take, drop, length-append, length-take, length-drop, get_or-append}
use lib.Seq.{length-take-le, take_all, get_or-append-add, get_or-take, get_or-drop}
use Rattle.words.specs.Words.{Below}

-- xs with the k numbers from place a on replaced by ys: what a call that was lent `&mut xs[a..a + k]` leaves
abbrev pub replaced : List ℕ → (a k : ℕ) → List ℕ → List ℕ
replaced xs a k ys = take a xs ++ (ys ++ drop k (drop a xs))

module _ (xs : List ℕ) (a k : ℕ) (ys : List ℕ) (fits : a + k ≤ length xs) (long : length ys ≡ k) where
  before_long : length (take a xs) ≡ a
  before_long = length-take-le a xs (omega arith)

  pub replaced_length : length (replaced xs a k ys) ≡ length xs
  replaced_length = simp (length-append, length-drop, before_long, long) (omega arith)

  -- inside the part stand the numbers of ys
  pub replaced_inside : (j : ℕ) → j < k → get_or (replaced xs a k ys) (a + j) 0 ≡ get_or ys j 0
  replaced_inside j h =
      ap (λ n. get_or (replaced xs a k ys) (n + j) 0) (sym before_long)
      ∙ get_or-append-add (take a xs) (ys ++ drop k (drop a xs)) j 0
      ∙ get_or-append ys (drop k (drop a xs)) 0 j (omega arith)

  -- elsewhere nothing has changed
  pub replaced_elsewhere : (q : ℕ) → ((j : ℕ) → j < k → q ≡ a + j → ⊥) → get_or (replaced xs a k ys) q 0 ≡ get_or xs q 0
  replaced_elsewhere q out = by_place (dec_lt q a) (dec_lt q (a + k))
    where
      after : (r : ℕ) → q ≡ a + (k + r) → get_or (replaced xs a k ys) q 0 ≡ get_or xs q 0
      after r e =
          ap (λ n. get_or (replaced xs a k ys) n 0) e
          ∙ ap (λ n. get_or (replaced xs a k ys) (n + (k + r)) 0) (sym before_long)
          ∙ get_or-append-add (take a xs) (ys ++ drop k (drop a xs)) (k + r) 0
          ∙ ap (λ n. get_or (ys ++ drop k (drop a xs)) (n + r) 0) (sym long)
          ∙ get_or-append-add ys (drop k (drop a xs)) r 0
          ∙ get_or-drop k (drop a xs) r 0
          ∙ get_or-drop a xs (k + r) 0
          ∙ ap (λ n. get_or xs n 0) (sym e)

      by_place : Dec (q < a) → Dec (q < a + k) → get_or (replaced xs a k ys) q 0 ≡ get_or xs q 0
      by_place (yes h) d =
          get_or-append (take a xs) (ys ++ drop k (drop a xs)) 0 q (omega (arith, before_long)) ∙ get_or-take a xs q 0 h
      by_place (no h) (yes l) = absurd (out (q - a) (omega arith) (omega arith))
      by_place (no h) (no l) = after (q - (a + k)) (omega arith)

  -- residues stay residues
  pub replaced_below : (p : ℕ) → Below p xs → Below p ys → Below p (replaced xs a k ys)
  replaced_below p b c q h = by_place (dec_lt q a) (dec_lt q (a + k))
    where
      old : ((j : ℕ) → j < k → q ≡ a + j → ⊥) → get_or (replaced xs a k ys) q 0 < p
      old out = rw (replaced_elsewhere q out) (b q (omega (arith, replaced_length)))

      by_place : Dec (q < a) → Dec (q < a + k) → get_or (replaced xs a k ys) q 0 < p
      by_place (yes l) d = old (λ j g e. omega arith)
      by_place (no l) (no d) = old (λ j g e. omega arith)
      by_place (no l) (yes d) =
          let e : q ≡ a + (q - a) = omega arith in
          rw (ap (λ r. get_or (replaced xs a k ys) r 0) e ∙ replaced_inside (q - a) (omega arith)) (c (q - a) (omega arith))

-- the same of a part from the front, `&mut xs[..k]`
module _ (xs : List ℕ) (k : ℕ) (ys : List ℕ) (long : length ys ≡ k) where
  pub front_inside : (j : ℕ) → j < k → get_or (ys ++ drop k xs) j 0 ≡ get_or ys j 0
  front_inside j h = get_or-append ys (drop k xs) 0 j (omega arith)

  pub front_past : (j : ℕ) → k ≤ j → get_or (ys ++ drop k xs) j 0 ≡ get_or xs j 0
  front_past j h =
      let e : j ≡ k + (j - k) = omega arith in
      ap (λ n. get_or (ys ++ drop k xs) n 0) (e ∙ ap (λ n. n + (j - k)) (sym long))
      ∙ get_or-append-add ys (drop k xs) (j - k) 0
      ∙ get_or-drop k xs (j - k) 0
      ∙ ap (λ n. get_or xs n 0) (sym e)

  pub front_below : (p : ℕ) → Below p xs → Below p ys → k ≤ length xs → Below p (ys ++ drop k xs)
  front_below p b c fits q h = by_place (dec_lt q k)
    where
      by_place : Dec (q < k) → get_or (ys ++ drop k xs) q 0 < p
      by_place (yes l) = rw (front_inside q l) (c q (omega arith))
      by_place (no l) = rw (front_past q (omega arith)) (b q (omega (arith, length-append ys (drop k xs), length-drop k xs)))

-- what stands in a part, and how long it is
pub part_length : (xs : List ℕ) (a k : ℕ) → a + k ≤ length xs → length (take k (drop a xs)) ≡ k
part_length xs a k h = length-take-le k (drop a xs) (simp length-drop (omega arith))

pub part_at : (xs : List ℕ) (a k j : ℕ) → j < k → get_or (take k (drop a xs)) j 0 ≡ get_or xs (a + j) 0
part_at xs a k j h = get_or-take k (drop a xs) j 0 h ∙ get_or-drop a xs j 0

-- `&xs[a..]` comes as the part up to the end
pub part_rest : (xs : List ℕ) (a : ℕ) → take (length xs - a) (drop a xs) ≡ drop a xs
part_rest xs a = take_all (length xs - a) (drop a xs) (simp length-drop (omega arith))

-- the front and the rest of a list whose numbers are below p
pub taken_below : (p : ℕ) (xs : List ℕ) (k : ℕ) → Below p xs → Below p (take k xs)
taken_below p xs k below i h =
    let l : i < min k (length xs) = rw (length-take k xs) at h in
    rw (get_or-take k xs i 0 (omega arith)) (below i (omega arith))

pub dropped_below : (p : ℕ) (xs : List ℕ) (k : ℕ) → Below p xs → Below p (drop k xs)
dropped_below p xs k below i h =
    let l : i < length xs - k = rw (length-drop k xs) at h in
    rw (get_or-drop k xs i 0) (below (k + i) (omega arith))
