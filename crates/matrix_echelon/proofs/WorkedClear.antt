-- Clearing the rows of a group at one place, one after the other: a row lies in the room, rows in front of it and behind it stay as
-- they are while a multiple is added to it, and numbers below p stay below p.
use mathlib.Core.Path.{◌≡◌, ap, ◌∙◌}
use mathlib.Core.List.{List}
use Prim.Native.Nat.{ℕ, ◌+◌, ◌*◌, ◌-◌, ◌≤◌, ◌<◌}
use native.Mathlib.Nat.{mul-le-mul, le_refl}
use native.Mathlib.Decide.{dec_lt}
use native.Mathlib.Omega.{arith}
use lib.ListN.{length, get_or}
use borrow.Author.Count.{below_more}
use Rattle.algebra.proofs.Rings.{zero_plus}
use Rattle.words.specs.Lengths.{longest_row, widest_row, widest_table}
use Rattle.words.specs.Words.{Below, PutAt}
use Rattle.field.specs.Residue.{reduce, residues, ◌⊕◌, ◌⊗◌, negated}
use Rattle.field.proofs.Residues.{reduce_of_value, below_of_value}
use Rattle.field.proofs.Field.{residues_ring}
use Rattle.matrix_echelon.specs.Group.{worked_rows, WorkedRoom}
use Rattle.matrix_echelon.specs.Worked.{MultipleAdded}

-- a worked row lies in the room for all
pub row_inside : (t width : ℕ) → t < longest_row → width ≤ widest_row → t * width + width ≤ widest_table
row_inside t width h l = let s : t + 1 ≤ longest_row = omega arith in omega (arith, mul-le-mul s l)

-- an earlier row ends before a later one begins
pub row_before : (s t width j : ℕ) → s < t → j < width → s * width + j < t * width
row_before s t width j h l = let m : s + 1 ≤ t = omega arith in omega (arith, mul-le-mul m (le_refl width))

-- the difference from 0 has the negative as its residue, and is below p
pub negative_residue : (p y c : ℕ) → 0 < p → c ≡ (reduce p 0 ⊕ negated (reduce p y)).value → reduce p c ≡ negated (reduce p y)
negative_residue p y c positive e = reduce_of_value _ e ∙ zero_plus (residues p) (residues_ring p positive) (negated (reduce p y))

pub negative_below : (p y c : ℕ) → 0 < p → c ≡ (reduce p 0 ⊕ negated (reduce p y)).value → c < p
negative_below p y c positive e = below_of_value positive (reduce p 0 ⊕ negated (reduce p y)) e

-- where k numbers from a place on are below p, and the others are as they were
below_spanned : (p at k : ℕ) (e e' : List ℕ) → length e' ≡ length e → Below p e → ((j : ℕ) → j < k → get_or e' (at + j) 0 < p)
    → ((q : ℕ) → q < at → get_or e' q 0 ≡ get_or e q 0) → ((q : ℕ) → at + k ≤ q → get_or e' q 0 ≡ get_or e q 0) → Below p e'
below_spanned p at k e e' long below inside before behind q h = by_place (dec_lt q at) (dec_lt q (at + k))
  where
    by_place : Dec (q < at) → Dec (q < at + k) → get_or e' q 0 < p
    by_place (yes l) d = rw (before q l) (below q (omega arith))
    by_place (no l) (no d) = rw (behind q (omega arith)) (below q (omega arith))
    by_place (no l) (yes d) = let place : q ≡ at + (q - at) = omega arith in rw place (inside (q - at) (omega arith))

-- adding a multiple, and putting numbers, leaves numbers below p
added_below : {p c : ℕ} {x : List ℕ} {at : ℕ} {e e' : List ℕ} → 0 < p → Below p e → MultipleAdded p c x at e e' → Below p e'
added_below {p} {c} {x} {at} {e} {e'} positive below a =
    below_spanned p at (length x) e e' a.same_length below
    (λ j h. below_of_value positive (reduce p (get_or e (at + j) 0) ⊕ reduce p c ⊗ reduce p (get_or x j 0)) (a.each j h)) a.before a.behind

pub put_below : (p : ℕ) (xs : List ℕ) (at : ℕ) (e e' : List ℕ) → Below p xs → Below p e → PutAt xs at e e' → Below p e'
put_below p xs at e e' new below put =
    below_spanned p at (length xs) e e' put.0 below (λ j h. rw (put.1 j h) (new j h)) put.2 put.3

-- the rows from `from` up to t are cleared at the place v by multiples of x, the others are as they were
pub record RowsCleared (p : ℕ) (x : List ℕ) (v from t : ℕ) (e e' : List ℕ) : Type 0 where
  pub room : WorkedRoom p e'
  pub group :
      (s : ℕ) → s < t → from ≤ s → (j : ℕ) → j < length x
      → worked_rows p e' (length x) s j
      ≡ worked_rows p e (length x) s j ⊕ negated (worked_rows p e (length x) s v) ⊗ reduce p (get_or x j 0)
  pub before : (q : ℕ) → q < from * length x → get_or e' q 0 ≡ get_or e q 0
  pub behind : (q : ℕ) → t * length x ≤ q → get_or e' q 0 ≡ get_or e q 0

-- one row more
module _ {p : ℕ} {x : List ℕ} {v from t : ℕ} {e e' e'' : List ℕ} {c : ℕ} (positive : 0 < p) (later : from ≤ t)
    (w : RowsCleared p x v from t e e') (c-is : c ≡ (reduce p 0 ⊕ negated (reduce p (get_or e' (t * length x + v) 0))).value)
    (a : MultipleAdded p c x (t * length x) e' e'') where
  -- the row is as it was before the multiple is added
  untouched : (j : ℕ) → worked_rows p e' (length x) t j ≡ worked_rows p e (length x) t j
  untouched j = ap (reduce p) (w.behind (t * length x + j) (omega arith))

  this_row : (j : ℕ) → j < length x
      → worked_rows p e'' (length x) t j
      ≡ worked_rows p e (length x) t j ⊕ negated (worked_rows p e (length x) t v) ⊗ reduce p (get_or x j 0)
  this_row j h =
      reduce_of_value _ (a.each j h)
      ∙ ap (λ r. r ⊕ reduce p c ⊗ reduce p (get_or x j 0)) (untouched j)
      ∙ ap (λ r. worked_rows p e (length x) t j ⊕ r ⊗ reduce p (get_or x j 0))
      (negative_residue p _ c positive c-is ∙ ap negated (untouched v))

  pub cleared_more : RowsCleared p x v from (t + 1) e e''
  cleared_more =
      record {
        room =
            record {
              long = a.same_length ∙ w.room.long;
              below = added_below positive w.room.below a;
            };
        group =
            below_more _ t
            (λ s h l j g. ap (reduce p) (a.before (s * length x + j) (row_before s t (length x) j h g)) ∙ w.group s h l j g)
            (λ l j g. this_row j g);
        before = λ q h. a.before q (omega (arith, mul-le-mul later (le_refl (length x)))) ∙ w.before q h;
        behind = λ q h. a.behind q (omega arith) ∙ w.behind q (omega arith);
      }
