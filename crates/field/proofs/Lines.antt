-- Numbers in memory as lines of step 1: a row of a table, the part of a list that the code lends for it, and a vector that was
-- written. A row lies in its table, and numbers that are written are below p.
use mathlib.Core.Path.{◌≡◌, ap, ◌∙◌}
use mathlib.Core.List.{List}
use Prim.Native.Nat.{ℕ, ◌+◌, ◌*◌, ◌-◌, ◌≤◌, ◌<◌}
use native.Mathlib.Nat.{mul-le-mul_right}
use native.Mathlib.Omega.{arith}
use lib.ListN.{length, get_or, take, drop, length-take, length-drop}
use lib.Seq.{get_or-take, get_or-drop}
use Rattle.algebra.specs.Matrix.{Vector}
use Rattle.field.specs.Residue.{reduce, residues}
use Rattle.field.specs.View.{line, table}
use Rattle.field.specs.Written.{numbers}
use Rattle.words.specs.Words.{Below}
use Rattle.field.proofs.Residues.{reduce_value, below_of_value}
use Rattle.field.proofs.Views.{table_entry}
use Rattle.field.proofs.Written.{length_tabulate, get_d_tabulate}

-- a row lies in a table of m rows and n columns
pub row_inside : (i m n : ℕ) → i < m → i * n + n ≤ m * n
row_inside i m n h = omega (arith, mul-le-mul_right n h)

-- it is a line
pub row_line : (p : ℕ) (x : List ℕ) (m n i t : ℕ) → i < m → t < n → table p x 0 n m n i t ≡ line p x (i * n) 1 t
unfolding line
row_line p x m n i t h l =
    table_entry p x 0 n m n i t h l ∙ ap (λ k. reduce p (get_or x k 0)) (let e : 0 + i * n + t ≡ i * n + t * 1 = omega arith in e)

-- k numbers of x from s on, as the code lends them, are a line of x
pub part_long : (x : List ℕ) (s k : ℕ) → s + k ≤ length x → length (take (s + k - s) (drop s x)) ≡ k
part_long x s k h = omega (arith, length-take (s + k - s) (drop s x), length-drop s x)

pub part_line : (p : ℕ) (x : List ℕ) (s k t : ℕ) → t < k → line p (take (s + k - s) (drop s x)) 0 1 t ≡ line p x s 1 t
unfolding line
part_line p x s k t h =
    ap (reduce p)
    (get_or-take (s + k - s) (drop s x) (0 + t * 1) 0 (omega arith)
    ∙ get_or-drop s x (0 + t * 1) 0
    ∙ ap (λ q. get_or x q 0) (let e : s + (0 + t * 1) ≡ s + t * 1 = omega arith in e))

-- what is written and read again is the vector, as far as it was written
pub written_line : (p n : ℕ) (v : Vector (residues p)) (t : ℕ) → t < n → line p (numbers n v) 0 1 t ≡ v t
unfolding line
written_line p n v t l =
    ap (λ q. reduce p (get_or (numbers n v) q 0)) (let e : 0 + t * 1 ≡ t = omega arith in e)
    ∙ ap (reduce p) (get_d_tabulate n (λ k. (v k).value) t l)
    ∙ reduce_value (v t)

-- numbers that are written are below p
pub numbers_below : (p n : ℕ) (v : Vector (residues p)) → 0 < p → Below p (numbers n v)
numbers_below p n v h i l =
    below_of_value h (v i) (get_d_tabulate n (λ t. (v t).value) i (omega (arith, length_tabulate n (λ t. (v t).value))))
