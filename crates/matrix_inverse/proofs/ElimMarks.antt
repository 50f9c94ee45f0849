-- How marks are added to lists of numbers: no mark, one mark, the marks of two sets one after the other, fresh marks beside
-- others, and the marks of two sets in the first part and the rest of a list.
use mathlib.Core.Path.{◌≡◌, refl, sym, ap, ◌∙◌}
use mathlib.Core.Bool.{Bool, true, false}
use mathlib.Core.List.{List, ◌++◌}
use Prim.Native.Nat.{ℕ, ◌+◌, ◌-◌, ◌≤◌, ◌<◌}
use native.Mathlib.Decide.{ℕ_discrete}
use native.Mathlib.Omega.{arith}
use lib.ListN.{length, get_or, set, take, drop, length-set}
use lib.Seq.{get_or-set_same, get_or-set_other, get_or-take, length-take-le, length_front, ext_get_or}
use borrow.Author.Tests.{eq-eqb, ne_eqb}
use Rattle.words.specs.Lengths.{longest_row}
use Rattle.algebra.specs.Choice.{choose, pick}
use Rattle.algebra.specs.Quasiinverse.{Marks, none, only, either, follow}
use Rattle.algebra.proofs.Choice.{pick_yes, pick_no}
use Rattle.algebra.proofs.Blocks.{Part, upper, lower, part}
use Rattle.algebra.proofs.Counts.{follow_upper, follow_lower}
use Rattle.words.specs.Words.{Zeros}
use Rattle.words.proofs.Zeros.{zeros_at}
use Rattle.matrix_inverse.specs.Eliminated.{no_marks, Marked, BothMarked}
use Rattle.words.proofs.Parts.{replaced, replaced_length, replaced_inside, replaced_elsewhere, front_inside, front_past, part_length, part_at}

pub marked_none : (n : ℕ) (xs : List ℕ) → Marked n none xs xs
unfolding none
marked_none n xs = record { same_length = refl; each = λ c h. refl }

pub marked_one : (n v : ℕ) (xs : List ℕ) → v < length xs → Marked n (only v) xs (set xs v 1)
unfolding only
marked_one n v xs l = record { same_length = length-set xs v 1; each = λ c h. by_place c (ℕ_discrete c v) }
  where
    by_place : (c : ℕ) → Dec (c ≡ v) → get_or (set xs v 1) c 0 ≡ choose (only v c) 1 (get_or xs c 0)
    by_place c (yes e) = rw (eq-eqb c v e, e) (get_or-set_same xs v 1 0 l)
    by_place c (no d) = rw (ne_eqb c v d) (get_or-set_other xs v c 1 0 d)

-- marked by one set and then by another: by the union
pub marked_either : (n : ℕ) (I K : Marks) (xs ys zs : List ℕ) → Marked n I xs ys → Marked n K ys zs → Marked n (either I K) xs zs
unfolding either
marked_either n I K xs ys zs a b =
    record {
      same_length = b.same_length ∙ a.same_length;
      each = λ c h. b.each c h ∙ ap (choose (K c) 1) (a.each c h) ∙ both (I c) (K c) (get_or xs c 0);
    }
  where
    both : (s t : Bool) (x : ℕ) → choose t 1 (choose s 1 x) ≡ choose (choose s true t) 1 x
    both true true x = refl
    both true false x = refl
    both false t x = refl

-- 64 marks of which none is set
pub fresh_long : length no_marks ≡ longest_row
unfolding no_marks
fresh_long = refl

fresh_zero : (j : ℕ) → get_or no_marks j 0 ≡ 0
unfolding no_marks
fresh_zero = zeros_at longest_row

pub room_fresh : (xs : List ℕ) → Zeros longest_row xs → xs ≡ no_marks
room_fresh xs z = ext_get_or 0 xs no_marks (z.0 ∙ sym fresh_long) (λ j h. z.1 j ∙ sym (fresh_zero j))

-- what is marked in such marks
pub fresh_mark : {n : ℕ} {I : Marks} {xs : List ℕ} → Marked n I no_marks xs → (c : ℕ) → c < n → get_or xs c 0 ≡ choose (I c) 1 0
fresh_mark {I = I} m c h = m.each c h ∙ ap (choose (I c) 1) (fresh_zero c)

-- is added to other marks
module _ {n : ℕ} {I : Marks} {xs ys zs : List ℕ} (m : Marked n I no_marks xs) (b : BothMarked n xs ys zs) where
  pub marked_too : Marked n I ys zs
  marked_too = record { same_length = b.same_length; each = λ c h. b.each c h ∙ by_mark (get_or ys c 0) (I c) (fresh_mark m c h) }
    where
      by_mark : {x : ℕ} (y : ℕ) (s : Bool) → x ≡ choose s 1 0 → pick (ℕ_discrete x 0) y 1 ≡ choose s 1 y
      by_mark y true e = pick_no (ℕ_discrete _ 0) y 1 (λ z. omega arith)
      by_mark y false e = pick_yes (ℕ_discrete _ 0) y 1 e

  -- where those are marks of the same kind, in the other order
  pub marked_over : {K : Marks} → length ys ≡ length xs → Marked n K no_marks ys → Marked n K xs zs
  marked_over {K} same k =
      record {
        same_length = b.same_length ∙ same;
        each = λ c h.
            marked_too.each c h
            ∙ ap (choose (I c) 1) (fresh_mark k c h)
            ∙ swapped (I c) (K c)
            ∙ ap (choose (K c) 1) (sym (fresh_mark m c h));
      }
    where
      swapped : (s t : Bool) → ◌≡◌ {A = ℕ} (choose s 1 (choose t 1 0)) (choose t 1 (choose s 1 0))
      swapped true true = refl
      swapped true false = refl
      swapped false true = refl
      swapped false false = refl

-- where neither is marked, none is
pub both_zero : {n : ℕ} {xs ys zs : List ℕ} → BothMarked n xs ys zs → (c : ℕ) → c < n → get_or zs c 0 ≡ 0 → (get_or xs c 0 ≡ 0) × (get_or ys c 0 ≡ 0)
both_zero {xs = xs} {ys = ys} {zs = zs} b c h e = by_place (ℕ_discrete (get_or xs c 0) 0)
  where
    by_place : Dec (get_or xs c 0 ≡ 0) → (get_or xs c 0 ≡ 0) × (get_or ys c 0 ≡ 0)
    by_place (yes z) = (z, sym (pick_yes (ℕ_discrete (get_or xs c 0) 0) (get_or ys c 0) 1 z) ∙ sym (b.each c h) ∙ e)
    by_place (no d) = absurd (omega (arith, pick_no (ℕ_discrete (get_or xs c 0) 0) (get_or ys c 0) 1 d, b.each c h))

-- the first m numbers marked by one set and the k numbers behind them by another
pub marked_follow :
    (m k : ℕ) (J K : Marks) (xs ys : List ℕ) →
    length ys ≡ length xs →
    ((c : ℕ) → c < m → get_or ys c 0 ≡ choose (J c) 1 (get_or xs c 0)) →
    ((c : ℕ) → c < k → get_or ys (m + c) 0 ≡ choose (K c) 1 (get_or xs (m + c) 0)) →
    Marked (m + k) (follow m J K) xs ys
marked_follow m k J K xs ys long first second = record { same_length = long; each = λ c h. go (part m c) h }
  where
    go : {c : ℕ} → Part m c → c < m + k → get_or ys c 0 ≡ choose (follow m J K c) 1 (get_or xs c 0)
    go {c} (upper h) l = rw (follow_upper m J K c h) (first c h)
    go (lower c) l = rw (follow_lower m J K c) (second c (omega arith))

-- `&xs[m..]`, as the code has it, and a list after a call that was lent `&mut xs[..m]` and left ys there
abbrev pub behind : ℕ → List ℕ → List ℕ
behind m xs = take (length xs - m) (drop m xs)

abbrev pub with_front : List ℕ → ℕ → List ℕ → List ℕ
with_front ys m xs = ys ++ drop m xs

-- the m + k rows of a table, marked first in the part of the upper m rows and then in that of the lower k
module _ (m k : ℕ) (J : Marks) (rows upper : List ℕ) (long : length rows ≡ m + k) (first : Marked m J (take m rows) upper) where
  upper_long : length upper ≡ m
  upper_long = first.same_length ∙ length-take-le m rows (omega arith)

  pub rows_length : length (with_front upper m rows) ≡ length rows
  rows_length = length_front rows upper m first.same_length

  pub behind_length : length (behind m (with_front upper m rows)) ≡ k
  behind_length =
      let e : length (with_front upper m rows) - m ≡ k = omega (arith, rows_length) in
      part_length (with_front upper m rows) m (length (with_front upper m rows) - m) (omega (arith, rows_length)) ∙ e

  module _ (K : Marks) (lower : List ℕ) (second : Marked k K (behind m (with_front upper m rows)) lower) where
    left : ℕ
    left = length (with_front upper m rows) - m

    left_is : left ≡ k
    unfolding left
    left_is = omega (arith, rows_length)

    lower_long : length lower ≡ left
    lower_long = second.same_length ∙ behind_length ∙ sym left_is

    inside : m + left ≤ length (with_front upper m rows)
    inside = omega (arith, rows_length, left_is)

    pub marked_rows : Marked (m + k) (follow m J K) rows (replaced (with_front upper m rows) m (length (with_front upper m rows) - m) lower)
    unfolding left
    marked_rows =
        marked_follow m k J K rows (replaced (with_front upper m rows) m left lower)
        (replaced_length (with_front upper m rows) m left lower inside lower_long ∙ rows_length)
        (λ c h.
        replaced_elsewhere (with_front upper m rows) m left lower inside lower_long c (λ j l e. omega arith)
        ∙ front_inside rows m upper upper_long c h
        ∙ first.each c h
        ∙ ap (choose (J c) 1) (get_or-take m rows c 0 h))
        (λ c h.
        replaced_inside (with_front upper m rows) m left lower inside lower_long c (omega (arith, left_is))
        ∙ second.each c h
        ∙ ap (choose (K c) 1) (part_at (with_front upper m rows) m left c (omega (arith, left_is)) ∙ front_past rows m upper upper_long (m + c) (omega arith)))
