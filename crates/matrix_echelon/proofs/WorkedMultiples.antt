-- Multiples of a row modulo p: what a product and a sum with a product are as residues, and what a loop that adds a multiple from a
-- place on has written.
use mathlib.Core.Path.{◌≡◌, refl, sym, ap, ◌∙◌}
use mathlib.Core.List.{List}
use Prim.Native.Nat.{ℕ, ◌+◌, ◌*◌, ◌-◌, ◌%◌, ◌≤◌, ◌<◌}
use native.Mathlib.Nat.{mul-zero}
use native.Mathlib.Decide.{dec_lt}
use native.Mathlib.Omega.{arith}
use lib.ListN.{length, get_or, set, length-set}
use lib.Seq.{get_or-set_same, get_or-set_other}
use borrow.Author.Count.{below_more}
use Rattle.field.specs.Residue.{reduce, ◌⊕◌, ◌⊗◌}
use Rattle.field.proofs.Residues.{reduce_plus, reduce_times, reduce_small}
use Rattle.words.proofs.Parts.{replaced, replaced_length, replaced_inside, replaced_elsewhere}
use Rattle.matrix_echelon.specs.Worked.{Scalable, Scaled, Addable}

-- the sum as a residue
sum_residue : (p c x y : ℕ) → reduce p (c * x + y) ≡ reduce p y ⊕ reduce p c ⊗ reduce p x
sum_residue p c x y =
    let turned : c * x + y ≡ y + c * x = omega arith in
    ap (reduce p) turned ∙ reduce_plus p y (c * x) ∙ ap (λ r. reduce p y ⊕ r) (reduce_times p c x)

-- where x is 0, the multiple is 0, and adding it changes nothing
pub scaled_zero : (p s x : ℕ) → 0 < p → x ≡ 0 → x ≡ (reduce p s ⊗ reduce p x).value
scaled_zero p s x positive e =
    e
    ∙ sym (reduce_small p 0 positive)
    ∙ ap (λ n. (reduce p n).value) (sym (mul-zero s))
    ∙ ap (λ r. r.value) (reduce_times p s 0)
    ∙ ap (λ n. (reduce p s ⊗ reduce p n).value) (sym e)

added_zero : (p c x y : ℕ) → y < p → x ≡ 0 → y ≡ (reduce p y ⊕ reduce p c ⊗ reduce p x).value
added_zero p c x y h e =
    let nothing : y ≡ c * 0 + y = omega arith in
    sym (reduce_small p y h)
    ∙ ap (λ n. (reduce p n).value) nothing
    ∙ ap (λ r. r.value) (sum_residue p c 0 y)
    ∙ ap (λ n. (reduce p y ⊕ reduce p c ⊗ reduce p n).value) (sym e)

-- what scaling leaves at a place, and adding a multiple
unfoldable pub scaled_at : (p s : ℕ) (x : List ℕ) → ℕ → ℕ
scaled_at p s x j = (reduce p s ⊗ reduce p (get_or x j 0)).value

unfoldable pub added_at : (p c : ℕ) (x : List ℕ) (at : ℕ) (e : List ℕ) → ℕ → ℕ
added_at p c x at e j = (reduce p (get_or e (at + j) 0) ⊕ reduce p c ⊗ reduce p (get_or x j 0)).value

-- what the loop writes, from a number that is as it was
pub sum_at_lem : (p c : ℕ) (x : List ℕ) (at : ℕ) (e : List ℕ) (j y : ℕ) → y ≡ get_or e (at + j) 0
    → (c * get_or x j 0 + y) % p ≡ added_at p c x at e j
unfolding added_at reduce
sum_at_lem p c x at e j y same =
    ap (λ n. (c * get_or x j 0 + n) % p) same ∙ ap (λ r. r.value) (sum_residue p c (get_or x j 0) (get_or e (at + j) 0))

-- where the numbers from `from` on are scaled, all are, since those in front of it are 0
pub scaled_all : {p s from : ℕ} {x : List ℕ} (ys : List ℕ) → Scalable p s from x → length ys ≡ length x - from
    → ((j : ℕ) → j < length ys → get_or ys j 0 ≡ scaled_at p s x (from + j)) → Scaled p s x (replaced x from (length x - from) ys)
unfolding scaled_at
scaled_all {p} {s} {from} {x} ys can long scaled =
    record { same_length = replaced_length x from k ys fits long; each = λ j h. by_place j h (dec_lt j from) }
  where
    k : ℕ
    k = length x - from

    fits : from + k ≤ length x
    fits = omega (arith, can.leading.within)

    by_place : (j : ℕ) → j < length x → Dec (j < from)
        → get_or (replaced x from k ys) j 0 ≡ (reduce p s ⊗ reduce p (get_or x j 0)).value
    by_place j h (yes l) =
        replaced_elsewhere x from k ys fits long j (λ t g e. omega arith)
        ∙ scaled_zero p s _ can.leading.positive (can.leading.zeros j l)
    by_place j h (no l) =
        let here : j ≡ from + (j - from) = omega arith in
        ap (λ q. get_or (replaced x from k ys) q 0) here
        ∙ replaced_inside x from k ys fits long (j - from) (omega arith)
        ∙ scaled (j - from) (omega (arith, long))
        ∙ ap (λ q. (reduce p s ⊗ reduce p (get_or x q 0)).value) (sym here)

-- after has g's numbers at n places from `at` on, and the numbers of before at the others
pub record Spanned (at n : ℕ) (g : ℕ → ℕ) (before after : List ℕ) : Type 0 where
  pub long : length after ≡ length before
  pub passed : (j : ℕ) → j < n → get_or after (at + j) 0 ≡ g j
  pub front : (q : ℕ) → q < at → get_or after q 0 ≡ get_or before q 0
  pub behind : (q : ℕ) → at + n ≤ q → get_or after q 0 ≡ get_or before q 0

-- the multiple has been added at the places in front of `from`, since it is 0 there
pub added_front : {p c : ℕ} {x : List ℕ} {from : ℕ} {e : List ℕ} {at : ℕ} → Addable p c x from e at
    → Spanned at from (added_at p c x at e) e e
unfolding added_at
added_front {p} {c} {at = at} can =
    record {
      long = refl;
      passed =
          λ j h. added_zero p c _ _ (can.e_below (at + j) (omega (arith, can.inside, can.leading.within))) (can.leading.zeros j h);
      front = λ q h. refl;
      behind = λ q h. refl;
    }

-- one place more
pub spanned_more : {at n : ℕ} {g : ℕ → ℕ} {before after : List ℕ} {v : ℕ} → Spanned at n g before after → at + n < length before
    → v ≡ g n → Spanned at (n + 1) g before (set after (at + n) v)
spanned_more {at} {n} {g} {before} {after} {v} w h e =
    record {
      long = length-set after (at + n) v ∙ w.long;
      passed =
          below_more (λ j. get_or (set after (at + n) v) (at + j) 0 ≡ g j) n
          (λ j l. get_or-set_other after (at + n) (at + j) v 0 (omega arith) ∙ w.passed j l)
          (get_or-set_same after (at + n) v 0 (omega (arith, w.long)) ∙ e);
      front = λ q l. get_or-set_other after (at + n) q v 0 (omega arith) ∙ w.front q l;
      behind = λ q l. get_or-set_other after (at + n) q v 0 (omega arith) ∙ w.behind q (omega arith);
    }
