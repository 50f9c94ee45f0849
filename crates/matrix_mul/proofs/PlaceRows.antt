-- A product of blocks row by row. `Multiplied` says of each entry what it says of the tables, one row's product comes from what
-- `combine_listed` leaves, and a row behind those that are done makes one row more: the contract is its own loop invariant.
use mathlib.Core.Path.{◌≡◌, refl, sym, ap, ◌∙◌}
use mathlib.Core.List.{List}
use Prim.Native.Nat.{ℕ, ◌+◌, ◌*◌, ◌-◌, ◌≤◌, ◌<◌}
use native.Mathlib.Nat.{zero-mul, add-sub_cancel_left}
use native.Mathlib.Decide.{dec_lt}
use native.Mathlib.Omega.{arith}
use lib.ListN.{length, get_or, take, drop}
use Rattle.algebra.specs.Ring.{IsCommutativeRing}
use Rattle.algebra.specs.Matrix.{Matrix, sum, add, product}
use Rattle.algebra.proofs.Matrices.{entry}
use Rattle.algebra.proofs.Sized.{sized_equal, product_sized}
use Rattle.algebra.proofs.Step.{product_row}
use Rattle.field.specs.Residue.{Residue, reduce, residues, ◌⊕◌, ◌⊗◌}
use Rattle.field.specs.View.{line, table}
use Rattle.field.specs.Products.{sum_of_products}
use Rattle.words.specs.Words.{Below, Copied}
use Rattle.matrix_mul.specs.Rows.{Passes, Combinable}
use Rattle.field.proofs.Residues.{reduce_zero, below_of_value, reduce_of_value}
use Rattle.field.proofs.Field.{residues_ring}
use Rattle.field.proofs.Views.{table_entry, table_sized}
use Rattle.matrix_mul.specs.declared.Place.{Place}
use Rattle.matrix_mul.specs.declared.Shape.{Shape}
use Rattle.matrix_mul.specs.Places.{place, row_at, shape, with_rows, matrix_at, Block, Kept, Factors, Multiplied, ZerosAt, Used}
use Rattle.matrix_mul.proofs.Places.{table_same, copied_table, same_place, kept_at, kept_none, add_sized, row_product}
use Rattle.words.proofs.Parts.{replaced, replaced_length, replaced_inside, replaced_elsewhere, replaced_below, part_length, part_at}

module _ (p k n : ℕ) (x y : List ℕ) (Y : Place) where
  -- X Y for the m rows of x at a place
  times : Place → ℕ → Matrix (residues p)
  times X m = product (residues p) k (matrix_at p x X m k) (matrix_at p y Y k n)

  -- a row's product depends only on where the row begins
  same_row : (X : Place) (m : ℕ) (X' : Place) (m' i i' : ℕ) → i < m → i' < m' → X.start + i * X.stride ≡ X'.start + i' * X'.stride
      → (j : ℕ) → j < n → times X m i j ≡ times X' m' i' j
  unfolding times
  same_row X m X' m' i i' h h' e j l =
      let at : ℕ = X.start + i * X.stride in
      let by : List ℕ = take k (drop at x) in
      sym (row_product p x X y Y m k n by i h (λ t b. part_at x at k t b) j l)
      ∙ row_product p x X' y Y m' k n by i' h' (λ t b. part_at x at k t b ∙ ap (λ a. get_or x (a + t) 0) e) j l

  module _ (m : ℕ) (X : Place) (z z' : List ℕ) (Z : Place) where
    -- each entry has its sum added
    Entries : Type 0
    Entries = (i j : ℕ) → i < m → j < n
        → reduce p (get_or z' (Z.start + i * Z.stride + j) 0) ≡ reduce p (get_or z (Z.start + i * Z.stride + j) 0) ⊕ times X m i j

    multiplied_entries : Multiplied p (shape m k n) x X y Y z z' Z → Entries
    unfolding Entries times add
    multiplied_entries M i j h l =
        sym (table_entry p z' Z.start Z.stride m n i j h l)
        ∙ entry (residues p) M.result i j
        ∙ ap (λ r. r ⊕ times X m i j) (table_entry p z Z.start Z.stride m n i j h l)

    multiplied_of : 0 < p → Kept p z z' Z m n → Entries → Multiplied p (shape m k n) x X y Y z z' Z
    unfolding Entries times add
    multiplied_of positive kept each =
        record {
          kept = kept;
          result =
              sized_equal (residues p) m n _ _ (table_sized p z' Z.start Z.stride m n)
              (add_sized p positive m n _ _ (table_sized p z Z.start Z.stride m n)
              (product_sized (residues p) (residues_ring p positive) (table_sized p x X.start X.stride m k) (table_sized p y Y.start Y.stride k n)))
              (λ i j h l.
              table_entry p z' Z.start Z.stride m n i j h l
              ∙ each i j h l
              ∙ ap (λ r. r ⊕ times X m i j) (sym (table_entry p z Z.start Z.stride m n i j h l)));
        }

-- places of different rows of a block are different
other_row : (X : Place) (n i r j t : ℕ) → n ≤ X.stride → j < n → t < n → (i ≡ r → ⊥)
    → X.start + i * X.stride + j ≡ X.start + r * X.stride + t → ⊥
other_row X n i r j t apart l b d e = d (same_place X.stride i r j t (omega arith) (omega arith) (omega arith)).0

-- in a block of one row the stride does not count
pub only_row : (i stride : ℕ) → i < 1 → i * stride ≡ 0
only_row i stride h = let first : i ≡ 0 = omega arith in ap (λ t. t * stride) first ∙ zero-mul stride

-- a place elsewhere than row i is elsewhere than a block of that one row, whatever its stride
outside_row : (at stride n q : ℕ) → ((j : ℕ) → j < n → q ≡ at + j → ⊥) → (i j : ℕ) → i < 1 → j < n → q ≡ at + i * stride + j → ⊥
outside_row at stride n q out i j h l e = out j l (omega (arith, only_row i stride h))

-- the block has one row more
pub kept_row : (p : ℕ) (z z' z'' : List ℕ) (Z : Place) (i n : ℕ) → Kept p z z' Z i n → Kept p z' z'' (row_at Z i n) 1 n
    → Kept p z z'' Z (i + 1) n
kept_row p z z' z'' Z i n a b =
    record {
      same_length = b.same_length ∙ a.same_length;
      elsewhere = λ q out.
          b.elsewhere q (outside_row (Z.start + i * Z.stride) n n q (λ j l e. out i j (omega arith) l e))
          ∙ a.elsewhere q (λ r j h l e. out r j (omega arith) l e);
      below = b.below;
    }

module _ {p k n : ℕ} {x : List ℕ} {X : Place} {y : List ℕ} {Y : Place} {z : List ℕ} {Z : Place} (positive : 0 < p) where
  -- no row yet
  pub multiplied_none : Below p z → Multiplied p (shape 0 k n) x X y Y z z Z
  unfolding Entries
  multiplied_none b =
      multiplied_of p k n x y Y 0 X z z Z positive (kept_none p z Z 0 n b) (λ i j h l. absurd (omega arith))

  -- the row behind the first i rows
  pub multiplied_row : {i : ℕ} {z' z'' : List ℕ} → n ≤ Z.stride → Multiplied p (shape i k n) x X y Y z z' Z
      → Multiplied p (shape 1 k n) x (row_at X i k) y Y z' z'' (row_at Z i n) → Multiplied p (shape (i + 1) k n) x X y Y z z'' Z
  unfolding Entries
  multiplied_row {i} {z'} {z''} apart a b =
      multiplied_of p k n x y Y (i + 1) X z z'' Z positive
      (kept_row p z z' z'' Z i n a.kept b.kept)
      (λ r j h l. by_row r j h l (dec_lt r i))
    where
      Sum : ℕ → ℕ → ℕ → Type 0
      Sum q r j = reduce p (get_or z'' q 0) ≡ reduce p (get_or z q 0) ⊕ times p k n x y Y X (i + 1) r j

      earlier : (r j : ℕ) → r < i → j < n → Sum (Z.start + r * Z.stride + j) r j
      earlier r j h l =
          let q : ℕ = Z.start + r * Z.stride + j in
          ap (reduce p)
          (b.kept.elsewhere q
          (outside_row (Z.start + i * Z.stride) n n q (λ t g. other_row Z n r i j t apart l g (λ e. omega arith))))
          ∙ multiplied_entries p k n x y Y i X z z' Z a r j h l
          ∙ ap (λ s. reduce p (get_or z q 0) ⊕ s) (same_row p k n x y Y X i X (i + 1) r r h (omega arith) refl j l)

      last : (j : ℕ) → j < n → Sum (Z.start + i * Z.stride + j) i j
      last j l =
          let q : ℕ = Z.start + i * Z.stride + j in
          let e : Z.start + i * Z.stride + 0 * n + j ≡ q = omega arith in
          let f : X.start + i * X.stride + 0 * k ≡ X.start + i * X.stride = omega arith in
          ap (λ t. reduce p (get_or z'' t 0)) (sym e)
          ∙ multiplied_entries p k n x y Y 1 (row_at X i k) z' z'' (row_at Z i n) b 0 j (omega arith) l
          ∙ (λ s. reduce p (get_or z' (e s) 0) ⊕ same_row p k n x y Y (row_at X i k) 1 X (i + 1) 0 i (omega arith) (omega arith) f j l s)
          ∙ ap (λ t. reduce p t ⊕ times p k n x y Y X (i + 1) i j)
          (a.kept.elsewhere q (λ r t h g. other_row Z n i r j t apart l g (λ d. omega arith)))

      by_row : (r j : ℕ) → r < i + 1 → j < n → Dec (r < i) → Sum (Z.start + r * Z.stride + j) r j
      by_row r j h l (yes g) = earlier r j g l
      by_row r j h l (no g) = let e : r ≡ i = omega arith in rw e (last j l)

-- a block of one row
one_row : {p : ℕ} (xs : List ℕ) (at n : ℕ) → at + n ≤ length xs → Below p xs → Block p xs (place at n) 1 n
one_row xs at n fits below = record { apart = omega arith; inside = λ i h. omega (arith, only_row i n h); below = below }

-- and what it says of the list
pub row_fits : {p : ℕ} {xs : List ℕ} {X : Place} {n : ℕ} → Block p xs X 1 n → X.start + n ≤ length xs
row_fits b = omega (arith, b.inside 0 (omega arith))

module _ {p : ℕ} {s : Shape} {x : List ℕ} {X : Place} {y : List ℕ} {Y : Place} {z : List ℕ} {Z : Place} where
  -- row i of what a product asks, for memory that has its length and is still below p
  pub factors_row : {i : ℕ} {x' z' : List ℕ} → length x' ≡ length x → Below p x' → length z' ≡ length z → Below p z' → i < s.rows
      → Factors p s x X y Y z Z → Factors p (with_rows 1 s) x' (row_at X i s.inner) y Y z' (row_at Z i s.columns)
  factors_row {i = i} {x' = x'} {z' = z'} xl xb zl zb h F =
      record {
        positive = F.positive;
        in_range = F.in_range;
        inner = F.inner;
        columns = F.columns;
        left = one_row x' (X.start + i * X.stride) s.inner (omega (arith, F.left.inside i h)) xb;
        right = F.right;
        target = one_row z' (Z.start + i * Z.stride) s.columns (omega (arith, F.target.inside i h)) zb;
      }

-- the multipliers of a row at the front of other memory
pub factors_front : {p k n : ℕ} {x : List ℕ} {X : Place} {y : List ℕ} {Y : Place} {z : List ℕ} {Z : Place} {by : List ℕ}
    → k ≤ length by → Below p by → Factors p (shape 1 k n) x X y Y z Z → Factors p (shape 1 k n) by (place 0 k) y Y z Z
factors_front {k = k} {by = by} l b F =
    record {
      positive = F.positive;
      in_range = F.in_range;
      inner = F.inner;
      columns = F.columns;
      left = one_row by 0 k (omega arith) b;
      right = F.right;
      target = F.target;
    }

-- a row that was copied to the front
pub copied_row : (p k : ℕ) {xs : List ℕ} {at : ℕ} {zs by : List ℕ} → Copied xs at k zs by → table p by 0 k 1 k ≡ table p xs at k 1 k
copied_row p k copied = copied_table p k 1 k copied (λ i h. omega (arith, only_row i k h))

-- X may be read from another place where it stands too
pub multiplied_left : {p : ℕ} {s : Shape} {x : List ℕ} {X : Place} (x' : List ℕ) (X' : Place) {y : List ℕ} {Y : Place}
    {z z' : List ℕ} {Z : Place} → matrix_at p x X s.rows s.inner ≡ matrix_at p x' X' s.rows s.inner
    → Multiplied p s x X y Y z z' Z → Multiplied p s x' X' y Y z z' Z
multiplied_left {p} {s} x' X' {y} {Y} {z = z} {Z = Z} same M =
    record {
      kept = M.kept;
      result =
          M.result
          ∙ ap
          (λ X.
          add (residues p) (matrix_at p z Z s.rows s.columns)
          (product (residues p) s.inner X (matrix_at p y Y s.inner s.columns)))
          same;
    }

-- a row of other columns is as it was
pub row_kept_elsewhere : {p : ℕ} {xs ys : List ℕ} {X : Place} {m n : ℕ} (start k i : ℕ) → X.start + n ≤ X.stride
    → start + k ≤ X.stride → ((j l : ℕ) → j < k → l < n → start + j ≡ X.start + l → ⊥) → Kept p xs ys X m n
    → table p ys (start + i * X.stride) k 1 k ≡ table p xs (start + i * X.stride) k 1 k
row_kept_elsewhere {p} {xs} {ys} {X} start k i fits fits' other kept =
    table_same p ys (start + i * X.stride) k xs (start + i * X.stride) k 1 k
    (λ r j h l.
    let e : start + i * X.stride + r * k + j ≡ start + j + i * X.stride = omega (arith, only_row r k h) in
    rw e (kept_at kept fits i (start + j) (omega arith) (λ t g. other j t l g)))

-- ys is the n numbers of xs from place a on
pub record IsPart (xs : List ℕ) (a n : ℕ) (ys : List ℕ) : Type 0 where
  pub long : length ys ≡ n
  pub same : (j : ℕ) → j < n → get_or ys j 0 ≡ get_or xs (a + j) 0

-- the code has its length as an end less the start
pub is_part : {xs : List ℕ} {a n : ℕ} → a + n ≤ length xs → IsPart xs a n (take (a + n - a) (drop a xs))
is_part {xs} {a} {n} fits =
    record {
      long = part_length xs a (a + n - a) (omega arith) ∙ add-sub_cancel_left a n;
      same = λ j h. part_at xs a (a + n - a) j (omega arith);
    }

-- where the multipliers are 0 nothing need be done
pub row_skipped : {p k n : ℕ} {x : List ℕ} {at : ℕ} {y : List ℕ} {Y : Place} {z : List ℕ} {to : ℕ}
    → Factors p (shape 1 k n) x (place at k) y Y z (place to n) → ZerosAt x at k
    → Multiplied p (shape 1 k n) x (place at k) y Y z z (place to n)
unfolding Entries times
row_skipped {p} {k} {n} {x} {at} {y} {Y} {z} {to} F zeros =
    multiplied_of p k n x y Y 1 (place at k) z z (place to n) F.positive (kept_none p z (place to n) 1 n F.target.below)
    (λ i j h l.
    sym
    (ap (λ r. reduce p (get_or z (to + i * n + j) 0) ⊕ r) (product_row (residues p) ring k _ _ i (row_zero i h) j)
    ∙ ring.plus_zero (reduce p (get_or z (to + i * n + j) 0))))
  where
    ring : IsCommutativeRing (residues p)
    ring = residues_ring p F.positive

    row_zero : (i : ℕ) → i < 1 → (t : ℕ) → t < k → table p x at k 1 k i t ≡ reduce p 0
    row_zero i h t l =
        let here : at + i * k + t ≡ at + t = omega (arith, only_row i k h) in
        table_entry p x at k 1 k i t h l
        ∙ ap (λ q. reduce p (get_or x q 0)) here
        ∙ ap (reduce p) (zeros t l)

-- rows of Z + X Y are zeros where those of X and of Z are
pub used_product : {p m k n : ℕ} {x : List ℕ} {X : Place} {y : List ℕ} {Y : Place} {z z' : List ℕ} {Z : Place} {u v both : List ℕ}
    → 0 < p → Block p z Z m n → Multiplied p (shape m k n) x X y Y z z' Z → Used m k x X u → Used m n z Z v → m ≤ length both
    → ((c : ℕ) → c < m → get_or both c 0 ≡ 0 → (get_or u c 0 ≡ 0) × (get_or v c 0 ≡ 0)) → Used m n z' Z both
unfolding Entries times
used_product {p} {m} {k} {n} {x} {X} {y} {Y} {z} {z'} {Z} {both = both} positive block M x-used z-used long split =
    record { long = long; zeros = zeros }
  where
    ring : IsCommutativeRing (residues p)
    ring = residues_ring p positive

    row_zero : (c : ℕ) → c < m → get_or both c 0 ≡ 0 → (t : ℕ) → t < k → matrix_at p x X m k c t ≡ reduce p 0
    row_zero c h e t b =
        table_entry p x X.start X.stride m k c t h b ∙ ap (reduce p) (x-used.zeros c h (split c h e).0 t b)

    zeros : (c : ℕ) → c < m → get_or both c 0 ≡ 0 → (j : ℕ) → j < n → get_or z' (Z.start + c * Z.stride + j) 0 ≡ 0
    zeros c h e j l =
        let q = Z.start + c * Z.stride + j in
        let same : reduce p (get_or z' q 0) ≡ reduce p 0 =
        multiplied_entries p k n x y Y m X z z' Z M c j h l
        ∙ ap (λ r. reduce p (get_or z q 0) ⊕ r) (product_row (residues p) ring k _ _ c (row_zero c h e) j)
        ∙ ring.plus_zero (reduce p (get_or z q 0))
        ∙ ap (reduce p) (z-used.zeros c h (split c h e).1 j l) in
        let below : get_or z' q 0 < p = M.kept.below q (omega (arith, M.kept.same_length, block.inside c h)) in
        reduce_zero p _ below same

-- One row by `combine_listed`: by is X's row, out is Z's row.
module _ {p k n : ℕ} {x : List ℕ} {at : ℕ} {y : List ℕ} {Y : Place} {z : List ℕ} {to : ℕ} {by out : List ℕ}
    (F : Factors p (shape 1 k n) x (place at k) y Y z (place to n))
    (is-by : IsPart x at k by)
    (is-out : IsPart z to n out)
  where
    -- what combine_listed asks
    pub row_ready : {next : List ℕ} → Passes k next Y n y → Combinable p by y Y out × Passes (length by) next Y (length out) y
    row_ready passes = (
      record {
        positive = F.positive;
        in_range = F.in_range;
        few = omega (arith, is-by.long, F.inner);
        narrow = omega (arith, is-out.long, F.columns);
        by_below = λ j l.
            let h : j < k = omega (arith, is-by.long) in
            rw (is-by.same j h) (F.left.below (at + j) (omega (arith, row_fits F.left)));
        table_below = F.right.below;
        inside = λ t l. omega (arith, is-out.long, F.right.inside t (omega (arith, is-by.long)));
      },
      rw (is-by.long, is-out.long) passes,
    )

    -- what it adds at place j
    abbrev row_sum : ℕ → Residue p
    row_sum j = sum_of_products p by y (Y.start + j) Y.stride

    module _ {size : ℕ} (n-same : size ≡ n) (out' : List ℕ) (long : length out' ≡ length out)
        (each : (j : ℕ) → j < length out → get_or out' j 0 ≡ (reduce p (get_or out j 0) ⊕ row_sum j).value)
      where
        fits : to + size ≤ length z
        fits = omega (arith, row_fits F.target)

        long' : length out' ≡ size
        long' = long ∙ is-out.long ∙ sym n-same

        row_kept : Kept p z (replaced z to size out') (place to n) 1 n
        row_kept =
            record {
              same_length = replaced_length z to size out' fits long';
              elsewhere = λ q o.
                  replaced_elsewhere z to size out' fits long' q (λ j l e. o 0 j (omega arith) (omega arith) (omega arith));
              below = replaced_below z to size out' fits long' p F.target.below
                  (λ j l. below_of_value F.positive (reduce p (get_or out j 0) ⊕ row_sum j) (each j (omega arith)));
            }

        row_entry_lem : (j : ℕ) → j < n
            → reduce p (get_or (replaced z to size out') (to + j) 0)
            ≡ reduce p (get_or z (to + j) 0) ⊕ times p k n x y Y (place at k) 1 0 j
        unfolding times
        row_entry_lem j l =
            let start : at ≡ at + 0 * k = omega arith in
            ap (reduce p) (replaced_inside z to size out' fits long' j (omega arith))
            ∙ reduce_of_value (reduce p (get_or out j 0) ⊕ row_sum j) (each j (omega (arith, is-out.long)))
            ∙ ap (λ a. reduce p a ⊕ row_sum j) (is-out.same j l)
            ∙ ap (λ r. reduce p (get_or z (to + j) 0) ⊕ r)
            (ap (λ w. sum (residues p) w (λ t. line p by 0 1 t ⊗ line p y (Y.start + j) Y.stride t)) is-by.long
            ∙ row_product p x (place at k) y Y 1 k n by 0 (omega arith)
            (λ t b. is-by.same t b ∙ ap (λ a. get_or x (a + t) 0) start) j l)

        pub row_combined : Multiplied p (shape 1 k n) x (place at k) y Y z (replaced z to size out') (place to n)
        unfolding Entries
        row_combined =
            multiplied_of p k n x y Y 1 (place at k) z (replaced z to size out') (place to n) F.positive row_kept
            (λ i j h l. only i j l (omega arith))
          where
            only : (i j : ℕ) → j < n → i ≡ 0
                → reduce p (get_or (replaced z to size out') (to + i * n + j) 0)
                ≡ reduce p (get_or z (to + i * n + j) 0) ⊕ times p k n x y Y (place at k) 1 i j
            only i j l e =
                let here : to + 0 * n + j ≡ to + j = omega arith in
                rw (e, here) (row_entry_lem j l)
