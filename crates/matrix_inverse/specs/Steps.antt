-- The contracts of the steps of Algorithm Q between and after its calls for the two halves of the rows. B are the upper rows and K
-- the lower rows of the table; E and F are the blocks of D for them, F right of E.
use Rattle.std.specs.Prelude.{◌≡◌, List, ℕ, ◌+◌, ◌*◌, ◌≤◌, length}
use Rattle.words.specs.Lengths.{half_rows, longest_row}
use Rattle.algebra.specs.Matrix.{Matrix, add, negative, product}
use Rattle.checks.specs.Prime.{IsModulus}
use Rattle.field.specs.Residue.{residues}
use Rattle.words.specs.Words.{Below}
use Rattle.matrix_mul.specs.declared.Place.{Place}
use Rattle.matrix_mul.specs.declared.Shape.{Shape}
use Rattle.matrix_mul.specs.Places.{columns_from, matrix_at, matrix_of, Kept, Used}
use Rattle.matrix_inverse.specs.declared.eliminate.Split.{Split}

-- m₁ upper rows and m₂ lower rows of n numbers
abbrev pub split : (m₁ m₂ n : ℕ) → Split
split m₁ m₂ n = record { upper = m₁; lower = m₂; width = n }

-- Z, in rows one behind the other as X is, has become -(X Y)
pub record IsNegativeProduct (p : ℕ) (s : Shape) (x y : List ℕ) (Y : Place) (z z' : List ℕ) : Type 0 where
  pub same_length : length z' ≡ length z
  pub below : Below p z'
  pub result :
      matrix_of p z' s.rows s.columns
      ≡ negative (residues p)
      (product (residues p) s.inner (matrix_of p x s.rows s.inner) (matrix_at p y Y s.inner s.columns))

-- scratch memory for two halves of up to k rows each: k × k numbers for T and k × 64 for C, all of them below p
pub record Scratch (p k : ℕ) (t c : List ℕ) : Type 0 where
  pub t_long : k * k ≤ length t
  pub c_long : k * longest_row ≤ length c
  pub t_below : Below p t
  pub c_below : Below p c

-- scratch memory that was used and can be used again: as long as before, and below p
pub record Reusable (p : ℕ) (xs xs' : List ℕ) : Type 0 where
  pub same_length : length xs' ≡ length xs
  pub below : Below p xs'

-- what both steps ask: the sizes, no more upper rows than lower ones, and scratch memory for these
pub record Halves (p : ℕ) (s : Split) (a d : List ℕ) (D : Place) (t c : List ℕ) : Type 0 where
  pub is_modulus : IsModulus p
  pub upper_most : s.upper ≤ s.lower
  pub lower_most : s.lower ≤ half_rows
  pub n_most : s.width ≤ longest_row
  pub stride_most : D.stride ≤ longest_row
  pub a_long : s.upper * s.width ≤ length a
  pub a_below : Below p a
  pub d_long : length d ≡ s.width * D.stride
  pub d_below : Below p d
  pub fits : D.start + (s.upper + s.lower) ≤ D.stride
  pub scratch : Scratch p s.lower t c

-- what the step between asks: K in k, and marks of the rows of E
pub record Reducible (p : ℕ) (s : Split) (a k marks d : List ℕ) (D : Place) (t c : List ℕ) : Type 0 where
  pub halves : Halves p s a d D t c
  pub lower_long : length k ≡ s.lower * s.width
  pub lower_below : Below p k
  pub used : Used s.width s.upper d D marks

-- what it leaves: -T = -(K E) in t and C = K - T B in c
pub record Reduced (p : ℕ) (s : Split) (a k d : List ℕ) (D : Place) (t c t' c' : List ℕ) : Type 0 where
  pub t_again : Reusable p t t'
  pub c_again : Reusable p c c'
  pub is_T :
      matrix_of p t' s.lower s.upper
      ≡ negative (residues p)
      (product (residues p) s.width (matrix_of p k s.lower s.width) (matrix_at p d D s.width s.upper))
  pub is_C :
      matrix_of p c' s.lower s.width
      ≡ add (residues p) (matrix_of p k s.lower s.width)
      (product (residues p) s.upper (matrix_of p t' s.lower s.upper) (matrix_of p a s.upper s.width))

-- what the step after asks: -T in t, and marks of the rows of E and of F
pub record Joinable (p : ℕ) (s : Split) (a t c upper marks d : List ℕ) (D : Place) : Type 0 where
  pub halves : Halves p s a d D t c
  pub upper_used : Used s.width s.upper d D upper
  pub lower_used : Used s.width s.lower d (columns_from D s.upper) marks

-- E and F
abbrev pub left_block : (p : ℕ) → Split → List ℕ → Place → Matrix (residues p)
left_block p s d D = matrix_at p d D s.width s.upper

abbrev pub right_block : (p : ℕ) → Split → List ℕ → Place → Matrix (residues p)
right_block p s d D = matrix_at p d (columns_from D s.upper) s.width s.lower

-- what it leaves: F becomes G = F - E (B F), then E becomes E - G T
pub record Joined (p : ℕ) (s : Split) (a t d d' : List ℕ) (D : Place) : Type 0 where
  pub kept : Kept p d d' D s.width (s.upper + s.lower)
  pub is_G :
      right_block p s d' D
      ≡ add (residues p) (right_block p s d D)
      (negative (residues p)
      (product (residues p) s.upper (left_block p s d D)
      (product (residues p) s.width (matrix_of p a s.upper s.width) (right_block p s d D))))
  pub is_X :
      left_block p s d' D
      ≡ add (residues p) (left_block p s d D)
      (product (residues p) s.lower (right_block p s d' D) (matrix_of p t s.lower s.upper))
