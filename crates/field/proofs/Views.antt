-- The laws of views: a table is zero outside its sizes, its entries are the numbers' residues, its columns are lines, and zeros are
-- below p.
use mathlib.Core.Path.{◌≡◌, refl, sym, ap, ◌∙◌}
use mathlib.Core.Bool.{Bool, true, false}
use mathlib.Core.List.{List}
use Prim.Native.Nat.{ℕ, ◌+◌, ◌*◌, ◌<◌}
use native.Mathlib.Omega.{arith}
use lib.ListN.{get_or}
use lib.Dec.{ltb}
use borrow.Author.Tests.{lt-ltb, le-ltb}
use Rattle.algebra.specs.Choice.{choose}
use Rattle.algebra.specs.Matrix.{Sized}
use Rattle.field.specs.Residue.{reduce, residues}
use Rattle.field.specs.View.{line, table}
use Rattle.words.specs.Words.{Below, Blank}

module _ (p : ℕ) (xs : List ℕ) (start stride m n : ℕ) where
  -- the entry at row i and column j
  pub table_entry : (i j : ℕ) → i < m → j < n → table p xs start stride m n i j ≡ reduce p (get_or xs (start + i * stride + j) 0)
  unfolding table
  table_entry i j h l =
      ap (λ b. choose b (choose (ltb j n) (reduce p (get_or xs (start + i * stride + j) 0)) (reduce p 0)) (reduce p 0)) (lt-ltb i m h)
      ∙ ap (λ b. choose b (reduce p (get_or xs (start + i * stride + j) 0)) (reduce p 0)) (lt-ltb j n l)

  -- column j is a line of memory: it goes on by the stride
  pub column_line : (i j : ℕ) → i < m → j < n → line p xs (start + j) stride i ≡ table p xs start stride m n i j
  unfolding line
  column_line i j h l =
      let place : start + j + i * stride ≡ start + i * stride + j = omega arith in
      ap (λ q. reduce p (get_or xs q 0)) place ∙ sym (table_entry i j h l)

  pub table_sized : Sized (residues p) m n (table p xs start stride m n)
  unfolding table
  table_sized =
      record {
        rows_end = λ i j h.
            ap (λ b. choose b (choose (ltb j n) (reduce p (get_or xs (start + i * stride + j) 0)) (reduce p 0)) (reduce p 0)) (le-ltb i m h);
        columns_end = λ i j h.
            ap (λ b. choose (ltb i m) (choose b (reduce p (get_or xs (start + i * stride + j) 0)) (reduce p 0)) (reduce p 0)) (le-ltb j n h)
            ∙ same (ltb i m);
      }
    where
      same : (b : Bool) → choose b (reduce p 0) (reduce p 0) ≡ reduce p 0
      same true = refl
      same false = refl

-- zeros are below p
pub blank_below : (p : ℕ) (xs : List ℕ) → 0 < p → Blank xs → Below p xs
blank_below p xs positive blank i h = rw (blank i) positive
