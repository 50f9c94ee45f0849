-- The tables of Algorithm Q in memory: a blank block is the zero matrix, the rows of a table are its upper rows over its lower
-- rows, and a block of columns is its left columns beside its right columns.
use mathlib.Core.Path.{◌≡◌, refl, sym, ap, ◌∙◌}
use mathlib.Core.List.{List}
use Prim.Native.Nat.{ℕ, ◌+◌, ◌*◌, ◌<◌}
use native.Mathlib.Decide.{dec_lt}
use native.Mathlib.Omega.{arith}
use lib.ListN.{get_or, drop}
use lib.Dec.{ltb}
use lib.Seq.{get_or-drop}
use borrow.Author.Tests.{lt-ltb, le-ltb}
use Rattle.algebra.specs.Matrix.{Matrix, Sized, zeros, stack, beside}
use Rattle.algebra.specs.Choice.{choose}
use Rattle.algebra.proofs.Matrices.{entries}
use Rattle.algebra.proofs.Sized.{sized_equal}
use Rattle.algebra.proofs.Blocks.{Part, upper, lower, part, stack_upper, stack_lower, beside_left, beside_right}
use Rattle.field.specs.Residue.{Residue, reduce, residues}
use Rattle.field.specs.View.{table}
use Rattle.field.proofs.Views.{table_entry, table_sized}

-- a block of zeros
pub zeros_sized : (p m n : ℕ) → Sized (residues p) m n (zeros (residues p))
unfolding zeros
zeros_sized p m n = record { rows_end = λ i j h. refl; columns_end = λ i j h. refl }

pub blank_table :
    (p : ℕ) (xs : List ℕ) (start stride m n : ℕ) →
    ((i j : ℕ) → i < m → j < n → get_or xs (start + i * stride + j) 0 ≡ 0) →
    table p xs start stride m n ≡ zeros (residues p)
unfolding zeros
blank_table p xs start stride m n blank =
    sized_equal (residues p) m n (table p xs start stride m n) (zeros (residues p)) (table_sized p xs start stride m n) (zeros_sized p m n)
    (λ i j h l. table_entry p xs start stride m n i j h l ∙ ap (reduce p) (blank i j h l))

-- a place behind the first m is among the first m + n where it is among n behind them
ltb_behind : (m k n : ℕ) → ltb (m + k) (m + n) ≡ ltb k n
ltb_behind m k n = by_order (dec_lt k n)
  where
    by_order : Dec (k < n) → ltb (m + k) (m + n) ≡ ltb k n
    by_order (yes h) = lt-ltb (m + k) (m + n) (omega arith) ∙ sym (lt-ltb k n h)
    by_order (no h) = le-ltb (m + k) (m + n) (omega arith) ∙ sym (le-ltb k n (omega arith))

-- m rows, the first m₁ of them over the m₂ others
pub table_stack :
    (p : ℕ) (xs : List ℕ) (m₁ m₂ n : ℕ) →
    table p xs 0 n (m₁ + m₂) n ≡ stack (residues p) m₁ (table p xs 0 n m₁ n) (table p (drop (m₁ * n) xs) 0 n m₂ n)
unfolding table
table_stack p xs m₁ m₂ n = entries (residues p) _ (stack (residues p) m₁ B K) (λ i j. go (part m₁ i) j)
  where
    B : Matrix (residues p)
    B = table p xs 0 n m₁ n

    K : Matrix (residues p)
    K = table p (drop (m₁ * n) xs) 0 n m₂ n

    zero : Residue p
    zero = reduce p 0

    go : {i : ℕ} → Part m₁ i → (j : ℕ) → table p xs 0 n (m₁ + m₂) n i j ≡ stack (residues p) m₁ B K i j
    go {i} (upper h) j =
        ap (λ b. choose b (choose (ltb j n) (reduce p (get_or xs (0 + i * n + j) 0)) zero) zero)
        (lt-ltb i (m₁ + m₂) (omega arith) ∙ sym (lt-ltb i m₁ h))
        ∙ sym (stack_upper (residues p) m₁ B K i j h)
    go (lower k) j =
        let e : 0 + (m₁ + k) * n + j ≡ m₁ * n + (0 + k * n + j) = omega arith in
        let same = ap (λ q. get_or xs q 0) e ∙ sym (get_or-drop (m₁ * n) xs (0 + k * n + j) 0) in
        (λ s. choose (ltb_behind m₁ k m₂ s) (choose (ltb j n) (reduce p (same s)) zero) zero)
        ∙ sym (stack_lower (residues p) m₁ B K k j)

-- m columns, the first m₁ of them beside the m₂ others
pub table_beside :
    (p : ℕ) (xs : List ℕ) (start stride n m₁ m₂ : ℕ) →
    table p xs start stride n (m₁ + m₂)
    ≡ beside (residues p) m₁ (table p xs start stride n m₁) (table p xs (start + m₁) stride n m₂)
unfolding table
table_beside p xs start stride n m₁ m₂ = entries (residues p) _ (beside (residues p) m₁ X G) (λ i j. go i (part m₁ j))
  where
    X : Matrix (residues p)
    X = table p xs start stride n m₁

    G : Matrix (residues p)
    G = table p xs (start + m₁) stride n m₂

    zero : Residue p
    zero = reduce p 0

    go : (i : ℕ) {j : ℕ} → Part m₁ j → table p xs start stride n (m₁ + m₂) i j ≡ beside (residues p) m₁ X G i j
    go i {j} (upper h) =
        ap (λ b. choose (ltb i n) (choose b (reduce p (get_or xs (start + i * stride + j) 0)) zero) zero)
        (lt-ltb j (m₁ + m₂) (omega arith) ∙ sym (lt-ltb j m₁ h))
        ∙ sym (beside_left (residues p) m₁ X G i j h)
    go i (lower k) =
        let e : start + i * stride + (m₁ + k) ≡ start + m₁ + i * stride + k = omega arith in
        (λ s. choose (ltb i n) (choose (ltb_behind m₁ k m₂ s) (reduce p (get_or xs (e s) 0)) zero) zero)
        ∙ sym (beside_right (residues p) m₁ X G i k)
