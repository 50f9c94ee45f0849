-- Blocks of numbers in memory. The table of a part; tables of lists that agree; what `Kept` gives: it composes, widens, and
-- leaves tables elsewhere as they were; entries and sizes of sums and negatives of tables, and entries of products.
use mathlib.Core.Path.{◌≡◌, refl, sym, ap, ◌∙◌}
use mathlib.Core.List.{List}
use Prim.Native.Nat.{ℕ, ◌+◌, ◌*◌, ◌-◌, ◌≤◌, ◌<◌}
use native.Mathlib.Nat.{mul-le-mul_right}
use native.Mathlib.Decide.{dec_lt}
use native.Mathlib.Omega.{arith}
use lib.ListN.{length, get_or, take}
use lib.Seq.{get_or-take}
use Rattle.algebra.specs.Ring.{IsCommutativeRing}
use Rattle.algebra.specs.Matrix.{Matrix, Sized, sum, add, negative, product}
use Rattle.algebra.proofs.Rings.{minus_zero}
use Rattle.algebra.proofs.Sums.{sum_same}
use Rattle.algebra.proofs.Sized.{sized_equal}
use Rattle.field.specs.Residue.{reduce, residues, ◌⊕◌, ◌⊗◌, negated}
use Rattle.field.specs.View.{line, table}
use Rattle.words.specs.Words.{Below, Blank, Copied}
use Rattle.field.proofs.Field.{residues_ring}
use Rattle.field.proofs.Views.{table_entry, column_line, table_sized}
use Rattle.matrix_mul.specs.declared.Place.{Place}
use Rattle.matrix_mul.specs.Places.{place, matrix_at, Kept}

-- lists that agree at the places of two blocks have equal tables there
pub table_same : (p : ℕ) (xs : List ℕ) (start stride : ℕ) (ys : List ℕ) (start' stride' m n : ℕ)
    → ((i j : ℕ) → i < m → j < n → get_or xs (start + i * stride + j) 0 ≡ get_or ys (start' + i * stride' + j) 0)
    → table p xs start stride m n ≡ table p ys start' stride' m n
table_same p xs start stride ys start' stride' m n same =
    sized_equal (residues p) m n (table p xs start stride m n) (table p ys start' stride' m n)
    (table_sized p xs start stride m n)
    (table_sized p ys start' stride' m n)
    (λ i j h l.
    table_entry p xs start stride m n i j h l
    ∙ ap (reduce p) (same i j h l)
    ∙ sym (table_entry p ys start' stride' m n i j h l))

-- the table of a part from the front is the table of the whole
pub front_table : (p : ℕ) (xs : List ℕ) (k start stride m n : ℕ) → ((i : ℕ) → i < m → start + i * stride + n ≤ k)
    → table p (take k xs) start stride m n ≡ table p xs start stride m n
front_table p xs k start stride m n inside =
    table_same p (take k xs) start stride xs start stride m n
    (λ i j h l. get_or-take k xs (start + i * stride + j) 0 (omega (arith, inside i h)))

-- the table at the front of what was copied
pub copied_table : (p : ℕ) {xs : List ℕ} {start size : ℕ} {zs zs' : List ℕ} (stride m n : ℕ) → Copied xs start size zs zs'
    → ((i : ℕ) → i < m → i * stride + n ≤ size) → table p zs' 0 stride m n ≡ table p xs start stride m n
copied_table p {xs} {start} {size} {zs} {zs'} stride m n copied inside =
    table_same p zs' 0 stride xs start stride m n
    (λ i j h l.
    let e : start + (0 + i * stride + j) ≡ start + i * stride + j = omega arith in
    copied.front (0 + i * stride + j) (omega (arith, inside i h)) ∙ ap (λ q. get_or xs q 0) e)

-- what was copied over zeros is below p
pub copied_below : {p : ℕ} {xs : List ℕ} {start size : ℕ} {zs zs' : List ℕ} → 0 < p → Blank zs → start + size ≤ length xs
    → Below p xs → Copied xs start size zs zs' → Below p zs'
copied_below {p} {xs} {start} {size} {zs} {zs'} positive blank fits below copied i h = by_place (dec_lt i size)
  where
    by_place : Dec (i < size) → get_or zs' i 0 < p
    by_place (yes l) = rw (copied.front i l) (below (start + i) (omega arith))
    by_place (no l) = rw (copied.rest i (omega arith), blank i) positive

-- columns a and b of rows that lie stride apart are at one place only where row and column are the same
pub same_place : (stride i k a b : ℕ) → a < stride → b < stride → a + i * stride ≡ b + k * stride → (i ≡ k) × (a ≡ b)
same_place stride i k a b h l e = by_order (dec_lt i k) (dec_lt k i)
  where
    by_order : Dec (i < k) → Dec (k < i) → (i ≡ k) × (a ≡ b)
    by_order (yes g) d = absurd (omega (arith, mul-le-mul_right stride g))
    by_order (no g) (yes d) = absurd (omega (arith, mul-le-mul_right stride d))
    by_order (no g) (no d) = let same : i ≡ k = omega arith in (same, omega (arith, ap (λ n. n * stride) same))

-- nothing has changed
pub kept_none : (p : ℕ) (xs : List ℕ) (X : Place) (m n : ℕ) → Below p xs → Kept p xs xs X m n
kept_none p xs X m n b = record { same_length = refl; elsewhere = λ q out. refl; below = b }

module _ {p : ℕ} {xs ys : List ℕ} where
  -- two calls that write the same block, one after the other
  pub kept_trans : {zs : List ℕ} {X : Place} {m n : ℕ} → Kept p xs ys X m n → Kept p ys zs X m n → Kept p xs zs X m n
  kept_trans k l =
      record {
        same_length = l.same_length ∙ k.same_length;
        elsewhere = λ q out. l.elsewhere q out ∙ k.elsewhere q out;
        below = l.below;
      }

  -- what keeps all but a block keeps all but a block around it: the same rows or more, the same columns or more
  pub kept_wider : {X : Place} {m n : ℕ} (start m' n' : ℕ) → m ≤ m' → start ≤ X.start → X.start + n ≤ start + n'
      → Kept p xs ys X m n → Kept p xs ys (place start X.stride) m' n'
  kept_wider {X} start m' n' rows left right k =
      record {
        same_length = k.same_length;
        elsewhere = λ q out. k.elsewhere q (λ i j h l e. out i (X.start - start + j) (omega arith) (omega arith) (omega arith));
        below = k.below;
      }

  -- a place in other columns is elsewhere
  pub kept_at : {X : Place} {m n : ℕ} → Kept p xs ys X m n → X.start + n ≤ X.stride → (i c : ℕ) → c < X.stride
      → ((j : ℕ) → j < n → c ≡ X.start + j → ⊥) → get_or ys (c + i * X.stride) 0 ≡ get_or xs (c + i * X.stride) 0
  kept_at {X} k fits i c h other =
      k.elsewhere (c + i * X.stride)
      (λ r j g l e. other j l (same_place X.stride i r c (X.start + j) h (omega arith) (omega arith)).1)

  -- a table in other columns is as it was
  pub table_kept : {X : Place} {m n : ℕ} (start m' n' : ℕ) → X.start + n ≤ X.stride → start + n' ≤ X.stride
      → ((j l : ℕ) → j < n' → l < n → start + j ≡ X.start + l → ⊥) → Kept p xs ys X m n
      → table p ys start X.stride m' n' ≡ table p xs start X.stride m' n'
  table_kept {X} start m' n' fits fits' other k =
      table_same p ys start X.stride xs start X.stride m' n'
      (λ i j h l.
      let e : start + i * X.stride + j ≡ start + j + i * X.stride = omega arith in
      rw e (kept_at k fits i (start + j) (omega arith) (λ t g. other j t l g)))

-- sums and negatives of matrices of a size are zero outside it
module _ (p : ℕ) (positive : 0 < p) where
  ring : IsCommutativeRing (residues p)
  ring = residues_ring p positive

  pub add_sized : (m n : ℕ) (X Y : Matrix (residues p)) → Sized (residues p) m n X → Sized (residues p) m n Y
      → Sized (residues p) m n (add (residues p) X Y)
  unfolding add
  add_sized m n X Y x y =
      record {
        rows_end = λ i j h. (λ t. x.rows_end i j h t ⊕ y.rows_end i j h t) ∙ ring.plus_zero (reduce p 0);
        columns_end = λ i j h. (λ t. x.columns_end i j h t ⊕ y.columns_end i j h t) ∙ ring.plus_zero (reduce p 0);
      }

  pub negative_sized : (m n : ℕ) (X : Matrix (residues p)) → Sized (residues p) m n X → Sized (residues p) m n (negative (residues p) X)
  unfolding negative
  negative_sized m n X x =
      record {
        rows_end = λ i j h. ap negated (x.rows_end i j h) ∙ minus_zero (residues p) ring;
        columns_end = λ i j h. ap negated (x.columns_end i j h) ∙ minus_zero (residues p) ring;
      }

  -- a table of negatives
  pub table_negative : (xs ys : List ℕ) (start stride m n : ℕ)
      → ((i j : ℕ) → i < m → j < n
      → reduce p (get_or ys (start + i * stride + j) 0) ≡ negated (reduce p (get_or xs (start + i * stride + j) 0)))
      → table p ys start stride m n ≡ negative (residues p) (table p xs start stride m n)
  unfolding negative
  table_negative xs ys start stride m n each =
      sized_equal (residues p) m n (table p ys start stride m n) (negative (residues p) (table p xs start stride m n))
      (table_sized p ys start stride m n)
      (negative_sized m n (table p xs start stride m n) (table_sized p xs start stride m n))
      (λ i j h l.
      table_entry p ys start stride m n i j h l
      ∙ each i j h l
      ∙ ap negated (sym (table_entry p xs start stride m n i j h l)))

-- an entry of a product of blocks is the sum of the products of the numbers of a row, given as a list, and a column
pub row_product : (p : ℕ) (x : List ℕ) (X : Place) (y : List ℕ) (Y : Place) (m k n : ℕ) (by : List ℕ) (i : ℕ) → i < m
    → ((t : ℕ) → t < k → get_or by t 0 ≡ get_or x (X.start + i * X.stride + t) 0) → (j : ℕ) → j < n
    → sum (residues p) k (λ t. line p by 0 1 t ⊗ line p y (Y.start + j) Y.stride t)
    ≡ product (residues p) k (matrix_at p x X m k) (matrix_at p y Y k n) i j
unfolding line product
row_product p x X y Y m k n by i h row j l =
    sum_same (residues p) k _ _
    (λ t b.
    let here : 0 + t * 1 ≡ t = omega arith in
    let first : reduce p (get_or by (0 + t * 1) 0) ≡ matrix_at p x X m k i t =
    ap (λ q. reduce p (get_or by q 0)) here
    ∙ ap (reduce p) (row t b)
    ∙ sym (table_entry p x X.start X.stride m k i t h b) in
    λ s. first s ⊗ column_line p y Y.start Y.stride k n t j b l s)
