-- What the loops over a log's rows and words give: the number that a worked row carries, the sum along a row, and the first frame that is
-- not met, word after word.
use mathlib.Core.Path.{◌≡◌, refl, sym, ap, ap₂, ◌∙◌, subst}
use mathlib.Core.Bool.{true, false}
use mathlib.Core.List.{List}
use mathlib.Core.Logic.{⊎_elim}
use Prim.Native.Nat.{ℕ, zero, suc, ◌+◌, ◌*◌, ◌-◌, ◌≤◌, ◌<◌}
use native.Mathlib.Nat.{zero-add, add-zero, mul-one, mul-le-mul, mul-le-mul_right, eq-or-lt_of_le}
use native.Mathlib.Omega.{arith}
use lib.ListN.{length, get_or, take, drop, set}
use lib.Seq.{ext_get_or}
use Rattle.algebra.specs.Choice.{choose}
use Rattle.algebra.specs.Matrix.{sum}
use Rattle.algebra.specs.Quasiinverse.{count}
use Rattle.algebra.proofs.Sums.{sum_same}
use Rattle.algebra.proofs.Independent.{count_next, count_most}
use Rattle.checks.specs.Largest.{largest, most_words}
use Rattle.words.specs.Lengths.{longest_row, widest_table}
use Rattle.words.specs.Words.{PutAt}
use Rattle.words.proofs.Walk.{Walked, walked_none, walked_more, walked_same}
use Rattle.field.specs.Residue.{Residue, reduce, residues, ◌⊗◌}
use Rattle.field.specs.View.{line}
use Rattle.field.specs.Products.{sum_of_products}
use Rattle.field.specs.Written.{marked}
use Rattle.field.proofs.Lines.{part_long, part_line}
use Rattle.field.proofs.Written.{marked_yes, marked_no}
use Rattle.clash.specs.Parts.{carried_number, frame_sum, IsMet, WordLooked, FirstOther, FirstByWords}

-- ---- a number that is carried

-- it lies in the worked rows
pub carried_inside : (n s w row : ℕ) → n ≤ largest → s ≤ most_words → w < s → row ≤ longest_row → (row ≡ 0 → ⊥)
    → (row - 1) * (n + s) + (n + w) < widest_table
carried_inside n s w row small few word most some =
    omega (arith, mul-le-mul {n₁ = row - 1 + 1} {m₁ = n + s} {n₂ = 64} {m₂ = 80} (omega arith) (omega arith))

pub carried_there : (n s w row : ℕ) (e : List ℕ) → (row ≡ 0 → ⊥) → get_or e ((row - 1) * (n + s) + (n + w)) 0 ≡ carried_number n s w row e
carried_there n s w zero e some = absurd (some refl)
carried_there n s w (suc t) e some = ap (λ q. get_or e (q * (n + s) + (n + w)) 0) (let q : suc t - 1 ≡ t = omega arith in q)

-- ---- a row

-- how far k rows reach
pub rows_most : (k n s : ℕ) → k ≤ largest → n ≤ largest → s ≤ most_words → k * (n + s) ≤ widest_table
rows_most k n s most small few = mul-le-mul {n₁ = k} {m₁ = n + s} {n₂ = 64} {m₂ = 80} most (omega arith)

-- row i lies in the log
pub row_within : {p k n s w : ℕ} {log : List ℕ} → WordLooked p k n s w log → (i : ℕ) → i < k → i * (n + s) + (n + s) ≤ length log
row_within {k = k} {n = n} {s = s} h i l = omega (arith, mul-le-mul_right (n + s) l, h.inside)

-- the sum along it, as the code lends it
pub row_sum : (p n s : ℕ) (log x : List ℕ) (i : ℕ) → i * (n + s) + n ≤ length log
    → sum_of_products p (take (i * (n + s) + n - i * (n + s)) (drop (i * (n + s)) log)) x 0 1 ≡ frame_sum p n s log (λ j. get_or x j 0) i
unfolding line
row_sum p n s log x i inside =
    let from = i * (n + s) in
    ap (λ k. sum (residues p) k (λ t. line p (take (from + n - from) (drop from log)) 0 1 t ⊗ line p x 0 1 t)) (part_long log from n inside)
    ∙ sum_same (residues p) n _ _
    (λ t l.
    ap₂ ◌⊗◌ (part_line p log from n t l ∙ ap (λ q. reduce p (get_or log (from + q) 0)) (mul-one t))
    (ap (λ q. reduce p (get_or x q 0)) (zero-add (t * 1) ∙ mul-one t)))

-- only the first n numbers count
pub met_same : (p n s w : ℕ) (log : List ℕ) (f g : ℕ → ℕ) → ((j : ℕ) → j < n → f j ≡ g j) → (i : ℕ)
    → IsMet p n s w log f i → IsMet p n s w log g i
met_same p n s w log f g same i met =
    ap (λ (a : Residue p). a.value)
    (sum_same (residues p) n _ _ (λ j l. ap (λ v. reduce p (get_or log (i * (n + s) + j) 0) ⊗ reduce p v) (sym (same j l))))
    ∙ met

-- ---- the words, one after the other

pub words_more : {p m n s u y q : ℕ} {log : List ℕ} {g : ℕ → ℕ → ℕ} (f : ℕ → ℕ) → ((j : ℕ) → j < n → f j ≡ g u j)
    → FirstByWords p m n s u log g y → FirstOther p y n s u log f q → FirstByWords p m n s (u + 1) log g q
words_more {p} {m} {n} {s} {u} {y} {q} {log} {g} f same h o =
    record {
      within = omega (arith, o.within, h.within);
      before = λ i l w b.
          ⊎_elim (λ e. subst (λ k. IsMet p n s k log (g k) i) (sym e) (met_same p n s u log f (g u) same i (o.before i l)))
          (λ c. h.before i (omega (arith, o.within)) w c) (eq-or-lt_of_le (let c : w ≤ u = omega arith in c));
      differs = λ l.
          ⊎_elim
          (λ e. let (w, (b, d)) = h.differs (omega arith) in (w, (omega arith, subst (λ k. IsMet p n s w log (g w) k → ⊥) (sym e) d)))
          (λ c. (u, (omega arith, λ met. o.differs c (met_same p n s u log (g u) f (λ j b. sym (same j b)) q met))))
          (eq-or-lt_of_le o.within);
    }

-- ---- marks

-- the first t numbers of xs have become marks, c of them 1
pub record Marking (t : ℕ) (xs ys : List ℕ) (c : ℕ) : Type 0 where
  pub walked : Walked t (λ i. choose (marked xs i) 1 0) xs ys
  pub counted : c ≡ count t (marked xs)

pub marking_none : (xs : List ℕ) → Marking 0 xs xs 0
unfolding count
marking_none xs = record { walked = walked_none _ xs; counted = refl }

module _ (t : ℕ) (xs ys : List ℕ) (c : ℕ) (h : Marking t xs ys c) where
  counted_more : count (t + 1) (marked xs) ≡ c + choose (marked xs t) 1 0
  counted_more =
      ap (λ k. count k (marked xs)) (let e : t + 1 ≡ suc t = omega arith in e)
      ∙ count_next t (marked xs)
      ∙ ap (λ k. k + choose (marked xs t) 1 0) (sym h.counted)

  -- a number that is not 0 becomes 1, and one that is 0 stays
  pub marking_mark : t < length xs → (get_or ys t 0 ≡ 0 → ⊥) → Marking (t + 1) xs (set ys t 1) (c + 1)
  marking_mark l d =
      let e : marked xs t ≡ true = marked_yes xs t (λ z. d (h.walked.left t (omega arith) ∙ z)) in
      record {
        walked = walked_more t _ xs ys 1 h.walked l (sym (ap (λ b. choose b 1 0) e));
        counted = sym (counted_more ∙ ap (λ b. c + choose b 1 0) e);
      }

  pub marking_skip : get_or ys t 0 ≡ 0 → Marking (t + 1) xs ys c
  marking_skip z =
      let zero_there : get_or xs t 0 ≡ 0 = sym (h.walked.left t (omega arith)) ∙ z in
      let e : marked xs t ≡ false = marked_no xs t zero_there in
      record {
        walked = walked_same t _ xs ys h.walked (zero_there ∙ sym (ap (λ b. choose b 1 0) e));
        counted = sym (counted_more ∙ ap (λ b. c + choose b 1 0) e ∙ add-zero c);
      }

  pub marking_most : c ≤ t
  marking_most = rw h.counted (count_most t (marked xs))

-- numbers that were put over a whole list
pub put_whole : (xs before after : List ℕ) → length xs ≡ length before → PutAt xs 0 before after → after ≡ xs
put_whole xs before after long put =
    ext_get_or 0 after xs (put.0 ∙ sym long) (λ j h. ap (λ q. get_or after q 0) (sym (zero-add j)) ∙ put.1 j (omega (arith, put.0)))
