-- Three descriptions of D beside a table A. `IsQuasiinverse` is document 001's own: ADA = A and DAD = D. `IsInverseOn` is 01's:
-- the inverse of A on marked rows and columns, and zero elsewhere. `IsPivotInverse` is what both eliminations carry, Algorithm Q
-- from the halves of a table to the whole, the forward elimination from row to row; `proofs/` shows that it gives the other two.
use Rattle.std.specs.Prelude.{◌≡◌, Bool, true, false, ℕ, zero, suc, ◌+◌, ◌-◌, ◌<◌, eqb, ltb}
use Rattle.algebra.specs.Choice.{choose}
use Rattle.algebra.specs.Ring.{Ring}
use Rattle.algebra.specs.Matrix.{Matrix, product, unit}

-- a set of positions, by the test of its members
abbrev pub Marks : Type 0
Marks = ℕ → Bool

-- the number of members below n
unfoldable pub count : ℕ → Marks → ℕ
count zero I = 0
count (suc n) I = count n I + choose (I n) 1 0

-- the union: the members of one set or the other
unfoldable pub either : Marks → Marks → Marks
either I K c = choose (I c) true (K c)

-- J's marks of the first m positions, and behind them those of K
unfoldable pub follow : ℕ → Marks → Marks → Marks
follow m J K y = choose (ltb y m) (J y) (K (y - m))

-- no member, and one member
unfoldable pub none : Marks
none c = false

unfoldable pub only : ℕ → Marks
only v c = eqb c v

module _ (R : Ring) where
  -- the D of one row: s at row v of its one column
  unfoldable pub single : ℕ → R.Carrier → Matrix R
  single v s i j = choose (eqb i v) (choose (eqb j 0) s R.zero) R.zero

  -- ADA = A, where A has m rows and n columns, and D has n rows and m columns
  pub record Absorbs (m n : ℕ) (A D : Matrix R) : Type 0 where
    pub equation : product R n A (product R m D A) ≡ A

  -- D is a quasiinverse of A, as document 001 has it
  pub record IsQuasiinverse (m n : ℕ) (A D : Matrix R) : Type 0 where
    -- ADA = A
    pub absorbs : Absorbs m n A D
    -- DAD = D
    pub reflects : Absorbs n m D A

  -- D, n rows and m columns, is the inverse of A restricted to J and I, and 0 outside I and J
  pub record IsInverseOn (m n : ℕ) (A D : Matrix R) (I J : Marks) : Type 0 where
    pub row_outside : (i j : ℕ) → I i ≡ false → D i j ≡ R.zero
    pub column_outside : (i j : ℕ) → J j ≡ false → D i j ≡ R.zero
    pub left_inverse : (i c : ℕ) → I i ≡ true → I c ≡ true → product R m D A i c ≡ unit R i c
    pub right_inverse : (y j : ℕ) → J y ≡ true → J j ≡ true → product R n A D y j ≡ unit R y j

  -- what both eliminations carry: D with the marks I of the pivot columns and J of the pivot rows
  pub record IsPivotInverse (m n : ℕ) (A D : Matrix R) (I J : Marks) : Type 0 where
    -- D is zero in rows outside I and in columns outside J
    pub row_outside : (i j : ℕ) → I i ≡ false → D i j ≡ R.zero
    pub column_outside : (i j : ℕ) → J j ≡ false → D i j ≡ R.zero
    -- D A fixes the unit columns of I, and A D the unit rows of J
    pub fixes_column : (i c : ℕ) → I c ≡ true → product R m D A i c ≡ unit R i c
    pub fixes_row : (y j : ℕ) → J y ≡ true → product R n A D y j ≡ unit R y j
    -- A D A = A
    pub absorbs : Absorbs m n A D
    -- D A is upper triangular, A D is lower triangular
    pub upper : (i c : ℕ) → c < i → product R m D A i c ≡ R.zero
    pub lower : (y j : ℕ) → y < j → product R n A D y j ≡ R.zero
    -- the members of I are columns, those of J rows, and they are equally many
    pub columns : (c : ℕ) → I c ≡ true → c < n
    pub rows : (y : ℕ) → J y ≡ true → y < m
    pub equally_many : count n I ≡ count m J
