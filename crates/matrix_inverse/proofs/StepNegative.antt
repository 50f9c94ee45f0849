-- Blocks that lie in memory as Algorithm Q has them, and the product whose negative is put into a block that is cleared first: what
-- `negative_product` leaves.
use mathlib.Core.Path.{◌≡◌, ap, ◌∙◌}
use mathlib.Core.List.{List, ◌++◌}
use Prim.Native.Nat.{ℕ, zero, suc, ◌+◌, ◌*◌, ◌≤◌, ◌<◌}
use native.Mathlib.Nat.{mul-le-mul_right}
use native.Mathlib.Omega.{arith}
use lib.ListN.{length, get_or, take, drop}
use lib.Seq.{get_or-take, length-take-le, length_front}
use Rattle.algebra.specs.Ring.{IsCommutativeRing}
use Rattle.algebra.specs.Matrix.{Matrix, add, negative, product}
use Rattle.algebra.proofs.Matrices.{zeros_add}
use Rattle.field.specs.Residue.{reduce, residues, negated}
use Rattle.field.specs.View.{table}
use Rattle.words.specs.Words.{Below, Blank}
use Rattle.field.proofs.Field.{residues_ring}
use Rattle.field.proofs.Views.{blank_below}
use Rattle.matrix_mul.specs.declared.Place.{Place}
use Rattle.matrix_mul.specs.Places.{place, shape, matrix_at, matrix_of, Block, Factors, Multiplied, Negated}
use Rattle.matrix_inverse.specs.Steps.{IsNegativeProduct}
use Rattle.matrix_mul.proofs.Places.{table_negative}
use Rattle.words.proofs.Parts.{front_inside, front_below}
use Rattle.matrix_inverse.proofs.ElimTables.{blank_table}

-- row i of m rows of n numbers, one behind the other
pub row_inside : (m n i : ℕ) → i < m → 0 + i * n + n ≤ m * n
row_inside m n i h = omega (arith, mul-le-mul_right n h)

-- such rows from the front of a list, and how many numbers they are
pub rows_block : {p : ℕ} (xs : List ℕ) (m n : ℕ) → m * n ≤ length xs → Below p xs → Block p xs (place 0 n) m n
rows_block xs m n h below = record { apart = omega arith; inside = λ i l. omega (arith, row_inside m n i l); below = below }

pub block_long : {p : ℕ} (xs : List ℕ) (m n : ℕ) → Block p xs (place 0 n) m n → m * n ≤ length xs
block_long xs zero n b = omega arith
block_long xs (suc m) n b = omega (arith, b.inside m (omega arith))

-- k columns of D from column `at` on
pub columns_block : {p : ℕ} (d : List ℕ) (at stride n k : ℕ) → length d ≡ n * stride → at + k ≤ stride → Below p d
    → Block p d (place at stride) n k
columns_block d at stride n k long fits below =
    record { apart = omega arith; inside = λ i l. omega (arith, mul-le-mul_right stride l); below = below }

-- what is asked of Z
module _ {p m k n : ℕ} {x y : List ℕ} {Y : Place} {z : List ℕ} (f : Factors p (shape m k n) x (place 0 k) y Y z (place 0 n))
  where
    pub size_inside : m * n ≤ length z
    size_inside = block_long z m n f.target

    -- its rows are cleared
    module _ (zeros : List ℕ) (zeros_long : length zeros ≡ length (take (m * n) z)) (blank : Blank zeros) where
      abbrev cleared : List ℕ
      cleared = zeros ++ drop (m * n) z

      size : length zeros ≡ m * n
      size = zeros_long ∙ length-take-le (m * n) z size_inside

      pub cleared_long : length cleared ≡ length z
      cleared_long = length_front z zeros (m * n) zeros_long

      cleared_zero : (q : ℕ) → q < m * n → get_or cleared q 0 ≡ 0
      cleared_zero q h = front_inside z (m * n) zeros size q h ∙ blank q

      pub cleared_factors : Factors p (shape m k n) x (place 0 k) y Y cleared (place 0 n)
      cleared_factors =
          record {
            positive = f.positive;
            in_range = f.in_range;
            inner = f.inner;
            columns = f.columns;
            left = f.left;
            right = f.right;
            target = rows_block cleared m n (omega (arith, cleared_long, size_inside))
                (front_below z (m * n) zeros size p f.target.below (blank_below p zeros f.positive blank) size_inside);
          }

      -- Z becomes X Y and then, number by number, its negative; `front` is what stands there then
      module _ {z' : List ℕ} (front : List ℕ)
          (multiplied : Multiplied p (shape m k n) x (place 0 k) y Y cleared z' (place 0 n))
          (negatives : Negated p (take (m * n) z') front)
        where
          long : length front ≡ length (take (m * n) z')
          long = negatives.same_length

          ring : IsCommutativeRing (residues p)
          ring = residues_ring p f.positive

          XY : Matrix (residues p)
          XY = product (residues p) k (matrix_of p x m k) (matrix_at p y Y k n)

          rows_inside : m * n ≤ length z'
          rows_inside = omega (arith, size_inside, cleared_long, multiplied.kept.same_length)

          part_long : length (take (m * n) z') ≡ m * n
          part_long = length-take-le (m * n) z' rows_inside

          negated_long : length (front ++ drop (m * n) z') ≡ length z
          negated_long = length_front z' front (m * n) long ∙ multiplied.kept.same_length ∙ cleared_long

          negated_below : Below p (front ++ drop (m * n) z')
          negated_below = front_below z' (m * n) front (long ∙ part_long) p multiplied.kept.below negatives.below rows_inside

          is_product : table p z' 0 n m n ≡ XY
          unfolding XY
          is_product =
              multiplied.result
              ∙ ap (λ Z. add (residues p) Z XY)
              (blank_table p cleared 0 n m n (λ i j h l. cleared_zero (0 + i * n + j) (omega (arith, row_inside m n i h))))
              ∙ zeros_add (residues p) ring XY

          is_negative : table p (front ++ drop (m * n) z') 0 n m n ≡ negative (residues p) XY
          is_negative =
              table_negative p f.positive z' (front ++ drop (m * n) z') 0 n m n
              (λ i j h l.
              let inside : 0 + i * n + j < m * n = omega (arith, row_inside m n i h) in
              ap (reduce p) (front_inside z' (m * n) front (long ∙ part_long) (0 + i * n + j) inside)
              ∙ negatives.each (0 + i * n + j) (omega (arith, part_long))
              ∙ ap (λ r. negated (reduce p r)) (get_or-take (m * n) z' (0 + i * n + j) 0 inside))
              ∙ ap (negative (residues p)) is_product

          pub negative_product_done : IsNegativeProduct p (shape m k n) x y Y z (front ++ drop (m * n) z')
          unfolding XY
          negative_product_done = record { same_length = negated_long; below = negated_below; result = is_negative }
