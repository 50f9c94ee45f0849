-- From numbers in memory to vectors, tables and marks: a list that reads as a table is that table written out, a list of
-- marks sums to the number of members, and a table times a vector, or what that leaves over of another, is made of sums of products
-- along lines of memory.
use mathlib.Core.Path.{◌≡◌, sym, ap, ap₂, ◌∙◌, fun_ext}
use mathlib.Core.List.{List}
use Prim.Native.Nat.{ℕ, zero, suc, ◌+◌, ◌*◌, ◌-◌, ◌/◌, ◌%◌, ◌≤◌, ◌<◌}
use native.Mathlib.Nat.{zero-add, mul-zero, mod-lt, div-lt_iff_lt-mul, div-add-mod', pos_of_ne-zero, le_step, lt-suc_self, mul-le-mul}
use native.Mathlib.Omega.{arith}
use lib.ListN.{length, get_or, take, drop}
use lib.Seq.{ext_get_or}
use Rattle.checks.specs.Largest.{largest}
use Rattle.algebra.specs.Choice.{choose}
use Rattle.algebra.specs.Matrix.{Vector, Matrix, sum, apply}
use Rattle.algebra.specs.Quasiinverse.{Marks, count}
use Rattle.algebra.specs.Solve.{remainder}
use Rattle.algebra.proofs.Sums as sums
use Rattle.algebra.proofs.Applied.{apply_same}
use Rattle.algebra.proofs.Fit.{remainder_same}
use Rattle.field.specs.Residue.{residues, reduce, ◌⊕◌, ◌⊗◌, negated}
use Rattle.field.specs.View.{line, table}
use Rattle.field.specs.Products.{sum_of_products}
use Rattle.words.specs.Words.{Below}
use Rattle.field.specs.Written.{tabulate, numbers, rows_of, marks_of}
use Rattle.field.proofs.Residues.{reduce_small, reduce_value}
use Rattle.field.proofs.Totals.{total, total_zero, total_suc}
use Rattle.field.proofs.Views.{table_entry}
use Rattle.field.proofs.Lines.{row_inside, row_line, part_long, part_line, written_line}
use Rattle.words.proofs.Walk.{Walked}
use Rattle.field.proofs.Written.{get_d_tabulate, is_tabulate}
use Rattle.matrix.specs.Calls.{vector_of}

-- numbers below p that read as the table D, n rows and m columns, are D written row by row
pub rows_written : (p n m : ℕ) (d : List ℕ) (D : Matrix (residues p)) → Below p d → length d ≡ n * m → table p d 0 m n m ≡ D → d ≡ rows_of n m D
rows_written p n m d D below long e = is_tabulate (n * m) _ d long (λ q h. at q h)
  where
    at : (q : ℕ) → q < n * m → get_or d q 0 ≡ (D (q / m) (q % m)).value
    at q h =
        let wide : 0 < m = pos_of_ne-zero (λ z. omega (arith, ap (λ k. n * k) z, mul-zero n)) in
        let row : q / m < n = (div-lt_iff_lt-mul wide).1 h in
        let place : 0 + q / m * m + q % m ≡ q = omega (arith, div-add-mod' q m) in
        sym (reduce_small p (get_or d q 0) (below q (omega arith)))
        ∙ ap (λ k. (reduce p (get_or d k 0)).value) (sym place)
        ∙ ap (λ x. x.value) (sym (table_entry p d 0 m n m (q / m) (q % m) row (mod-lt q wide)))
        ∙ ap (λ X. (X (q / m) (q % m)).value) e

-- numbers that were copied, all of them
pub copied_whole : (n : ℕ) (xs zs : List ℕ) → length xs ≡ n → length zs ≡ n → ((j : ℕ) → j < n → get_or zs j 0 ≡ get_or xs (0 + j) 0) → zs ≡ xs
copied_whole n xs zs long long' h =
    ext_get_or 0 zs xs (long' ∙ sym long) (λ j l. h j (rw long' at l) ∙ ap (λ k. get_or xs k 0) (zero-add j))

-- numbers that are 1 at the members of I and 0 elsewhere are I's marks
pub marks_written : (n : ℕ) (I : Marks) (xs : List ℕ) → length xs ≡ n → ((c : ℕ) → c < n → get_or xs c 0 ≡ choose (I c) 1 0) → xs ≡ marks_of n I
marks_written n I xs long h = is_tabulate n _ xs long h

-- and their sum is the number of members
pub total_of_marks : (n : ℕ) (f : ℕ → ℕ) (I : Marks) → ((c : ℕ) → c < n → f c ≡ choose (I c) 1 0) → total n f ≡ count n I
unfolding count
total_of_marks zero f I h = total_zero f
total_of_marks (suc n) f I h =
    total_suc n f ∙ ap₂ ◌+◌ (total_of_marks n f I (λ c l. h c (le_step l))) (h n (lt-suc_self n))

-- the numbers of a list are a line of it
pub vector_line : (p : ℕ) (w : List ℕ) → line p w 0 1 ≡ vector_of p w
unfolding line vector_of
vector_line p w = fun_ext (λ t. ap (λ q. reduce p (get_or w q 0)) (let e : 0 + t * 1 ≡ t = omega arith in e))

-- a place of a row lies in a table of m rows and n columns
pub place_inside : (i j m n : ℕ) → i < m → j < n → j + i * n < m * n
place_inside i j m n h l = omega (arith, row_inside i m n h)

-- how many numbers a table has at most
pub table_most : (n m : ℕ) → n ≤ largest → m ≤ largest → n * m ≤ largest * largest
table_most n m h l = omega (arith, mul-le-mul h l)

-- the sum of products along a row, as the code lends it, is that row's number of the table applied to a vector
pub apply_number : (p m k : ℕ) (x w : List ℕ) (i r : ℕ) → i < m → i * k + k ≤ length x
    → r ≡ (sum_of_products p (take (i * k + k - i * k) (drop (i * k) x)) w 0 1).value
    → r ≡ (apply (residues p) k (table p x 0 k m k) (vector_of p w) i).value
unfolding apply
apply_number p m k x w i r h inside e =
    let s = i * k in
    e
    ∙ ap (λ v. v.value)
    (ap (λ q. sum (residues p) q (λ t. line p (take (s + k - s) (drop s x)) 0 1 t ⊗ line p w 0 1 t)) (part_long x s k inside)
    ∙ sums.sum_same (residues p) k _ _
    (λ t b. ap₂ ◌⊗◌ (part_line p x s k t b ∙ sym (row_line p x m k i t h b)) (λ q. vector_line p w q t)))

-- and its difference from the number of a right side is what is left over of that
pub remainder_number : (p m k : ℕ) (x w y : List ℕ) (i image r : ℕ) → i < m → i * k + k ≤ length x
    → image ≡ (sum_of_products p (take (i * k + k - i * k) (drop (i * k) x)) w 0 1).value
    → r ≡ (reduce p (get_or y i 0) ⊕ negated (reduce p image)).value
    → r ≡ (remainder (residues p) k (table p x 0 k m k) (vector_of p w) (vector_of p y) i).value
unfolding remainder vector_of
remainder_number p m k x w y i image r h inside e d =
    d
    ∙ ap (λ v. (reduce p (get_or y i 0) ⊕ negated v).value)
    (ap (reduce p) (apply_number p m k x w i image h inside e) ∙ reduce_value (apply (residues p) k (table p x 0 k m k) (vector_of p w) i))

-- a loop that has written f's values to n places has written the list of them
pub walked_numbers : (j n : ℕ) (f : ℕ → ℕ) (xs ys : List ℕ) → j ≡ n → length xs ≡ n → Walked j f xs ys → ys ≡ tabulate n f
walked_numbers j n f xs ys d e w = is_tabulate n f ys (w.long ∙ e) (λ i h. w.passed i (rw d h))

-- what is written and read again is the vector, as far as it was written
pub vector_read : (p n : ℕ) (v : Vector (residues p)) (t : ℕ) → t < n → vector_of p (numbers n v) t ≡ v t
vector_read p n v t l = (λ q. sym (vector_line p (numbers n v)) q t) ∙ written_line p n v t l

-- so a matrix is applied to it as to the vector
pub apply_read : (p n : ℕ) (X : Matrix (residues p)) (v : Vector (residues p)) → apply (residues p) n X (vector_of p (numbers n v)) ≡ apply (residues p) n X v
apply_read p n X v = fun_ext (apply_same (residues p) n X (vector_of p (numbers n v)) v (vector_read p n v))

pub remainder_read : (p n : ℕ) (X : Matrix (residues p)) (v w : Vector (residues p))
    → remainder (residues p) n X (vector_of p (numbers n v)) w ≡ remainder (residues p) n X v w
remainder_read p n X v w =
    fun_ext (λ i. remainder_same (residues p) n X (vector_of p (numbers n v)) v w i (vector_read p n v))

-- a number that is written is 0 exactly if its residue is
pub zero_written : (p n : ℕ) (v : Vector (residues p)) (i : ℕ) → 0 < p → i < n → v i ≡ (residues p).zero → get_or (numbers n v) i 0 ≡ 0
zero_written p n v i h l e = get_d_tabulate n (λ t. (v t).value) i l ∙ ap (λ r. r.value) e ∙ reduce_small p 0 h

pub written_zero : (p n : ℕ) (v : Vector (residues p)) (i : ℕ) → i < n → get_or (numbers n v) i 0 ≡ 0 → v i ≡ (residues p).zero
written_zero p n v i l e = sym (reduce_value (v i)) ∙ ap (reduce p) (sym (get_d_tabulate n (λ t. (v t).value) i l) ∙ e)
