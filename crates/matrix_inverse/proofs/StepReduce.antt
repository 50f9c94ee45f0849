-- The step between the halves: what `reduce_rows` asks of its callees, and that what they leave is -T and C.
use mathlib.Core.Path.{ap, ◌∙◌}
use mathlib.Core.List.{List}
use Prim.Native.Nat.{ℕ, ◌*◌, ◌≤◌, ◌<◌}
use native.Mathlib.Nat.{mul-le-mul_left}
use native.Mathlib.Omega.{arith}
use lib.ListN.{length}
use Rattle.algebra.specs.Matrix.{add, product}
use Rattle.field.specs.Residue.{residues}
use Rattle.matrix_mul.specs.declared.Place.{Place}
use Rattle.matrix_mul.specs.Places.{place, shape, matrix_of, Block, Factors, Multiplied}
use Rattle.words.specs.Lengths.{longest_row}
use Rattle.words.specs.Words.{Copied}
use Rattle.matrix_inverse.specs.Steps.{split, IsNegativeProduct, Halves, Reducible, Reduced}
use Rattle.matrix_mul.proofs.Places.{copied_table}
use Rattle.matrix_inverse.proofs.StepScratch.{copied_over}
use Rattle.matrix_inverse.proofs.StepNegative.{row_inside, rows_block, columns_block}

-- a modulus is not 0, and the rooms for T and for C are large enough
module _ {p m₁ m₂ n : ℕ} {a d : List ℕ} {D : Place} {t c : List ℕ} (h : Halves p (split m₁ m₂ n) a d D t c) where
  pub modulus_positive : 0 < p
  modulus_positive = omega (arith, h.is_modulus.prime.two_or_more)

  pub t_room : m₂ * m₁ ≤ length t
  t_room = omega (arith, mul-le-mul_left m₂ h.upper_most, h.scratch.t_long)

  -- what a product of blocks of no more than 64 columns asks
  pub factors : {m k w : ℕ} {x : List ℕ} {X : Place} {y : List ℕ} {Y : Place} {z : List ℕ} {Z : Place} → k ≤ longest_row → w ≤ longest_row
      → Block p x X m k → Block p y Y k w → Block p z Z m w → Factors p (shape m k w) x X y Y z Z
  factors inner columns left right target =
      record {
        positive = modulus_positive;
        in_range = h.is_modulus.in_range;
        inner = inner;
        columns = columns;
        left = left;
        right = right;
        target = target;
      }

  pub c_room : m₂ * n ≤ length c
  c_room = omega (arith, mul-le-mul_left m₂ h.n_most, h.scratch.c_long)

module _ {p m₁ m₂ n : ℕ} {a k marks d : List ℕ} {D : Place} {t c : List ℕ} (r : Reducible p (split m₁ m₂ n) a k marks d D t c) where
  abbrev h : Halves p (split m₁ m₂ n) a d D t c
  h = r.halves

  -- K E into t
  pub reduce_first : Factors p (shape m₂ n m₁) k (place 0 n) d D t (place 0 m₁)
  reduce_first =
      factors h h.n_most (omega (arith, h.upper_most, h.lower_most))
      (rows_block k m₂ n (omega (arith, r.lower_long)) r.lower_below)
      (columns_block d D.start D.stride n m₁ h.d_long (omega (arith, h.fits)) h.d_below)
      (rows_block t m₂ m₁ (t_room h) h.scratch.t_below)

  module _ {t' : List ℕ} (T : IsNegativeProduct p (shape m₂ n m₁) k d D t t') {c' : List ℕ} (copied : Copied k 0 (m₂ * n) c c') where
    -- K + (-T) B into c
    pub reduce_second : Factors p (shape m₂ m₁ n) t' (place 0 m₁) a (place 0 n) c' (place 0 n)
    reduce_second =
        factors h (omega (arith, h.upper_most, h.lower_most)) h.n_most
        (rows_block t' m₂ m₁ (omega (arith, t_room h, T.same_length)) T.below)
        (rows_block a m₁ n h.a_long h.a_below)
        (rows_block c' m₂ n (omega (arith, c_room h, copied.same_length))
        (copied_over (omega (arith, r.lower_long)) r.lower_below h.scratch.c_below copied))

    -- what they leave
    pub reduced :
        {c'' : List ℕ} →
        Multiplied p (shape m₂ m₁ n) t' (place 0 m₁) a (place 0 n) c' c'' (place 0 n) →
        Reduced p (split m₁ m₂ n) a k d D t c t' c''
    reduced multiplied =
        record {
          t_again = record { same_length = T.same_length; below = T.below };
          c_again = record { same_length = multiplied.kept.same_length ∙ copied.same_length; below = multiplied.kept.below };
          is_T = T.result;
          is_C =
              multiplied.result
              ∙ ap
              (λ K. add (residues p) K (product (residues p) m₁ (matrix_of p t' m₂ m₁) (matrix_of p a m₁ n)))
              (copied_table p n m₂ n copied (λ i l. omega (arith, row_inside m₂ n i l)));
        }
