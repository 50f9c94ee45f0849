-- The laws of sums of products, for `dot`: a part of a row reaches its own places of the column, and its products may be added to
-- the residue of those in front of it. Then that an empty row gives 0, and that a row times a column of a table is such a sum.
use mathlib.Core.Path.{◌≡◌, sym, ap, ap₂, ◌∙◌}
use mathlib.Core.List.{List, [], ◌++◌}
use Prim.Native.Nat.{ℕ, ◌+◌, ◌*◌, ◌%◌, ◌≤◌, ◌<◌}
use native.Mathlib.Nat.{add-mul, add_assoc, zero-mod, mod-add-mod}
use native.Mathlib.Omega.{arith}
use lib.ListN.{length, get_or, drop, length-append, length-drop, get_or-append}
use lib.Seq.{get_or-drop, drop-drop, drop-append_seam}
use Rattle.algebra.specs.Matrix.{sum, mixed}
use Rattle.algebra.proofs.Sums.{sum_none, sum_same}
use Rattle.field.specs.Residue.{reduce, residues, ◌⊗◌}
use Rattle.field.specs.View.{line, table}
use Rattle.field.specs.Products.{Reaches, sum_of_products}
use Rattle.field.proofs.Totals.{total, total_same, total_split, products}
use Rattle.field.proofs.Views.{column_line}

-- place u of the column that begins at place a of another is place a + u of that
part_place : (start step a u : ℕ) → start + a * step + u * step ≡ start + (a + u) * step
part_place start step a u = add_assoc start (a * step) (u * step) ∙ ap (λ k. start + k) (sym (add-mul a u step))

-- a part of the row from place a on, and the rest behind it
module _ (row part rest ys : List ℕ) (start step a : ℕ) (within : a ≤ length row) (cut : drop a row ≡ part ++ rest) where
  pub part_inside : a + length part ≤ length row
  part_inside = omega (arith, ap length cut, length-drop a row, length-append part rest)

  pub rest_left : rest ≡ drop (a + length part) row
  rest_left = sym (rw (← drop-drop (length part) a row, cut) (drop-append_seam part rest))

  pub reaches_part : Reaches (length row) start step (length ys) → Reaches (length part) (start + a * step) step (length ys)
  reaches_part reaches t h = rw (part_place start step a t) (reaches (a + t) (omega (arith, part_inside)))

  part_number : (u : ℕ) → u < length part → get_or row (a + u) 0 ≡ get_or part u 0
  part_number u h = sym (get_or-drop a row u 0) ∙ ap (λ xs. get_or xs u 0) cut ∙ get_or-append part rest 0 u h

  part_products : (u : ℕ) → u < length part → products row ys start step (a + u) ≡ products part ys (start + a * step) step u
  unfolding products
  part_products u h = ap₂ ◌*◌ (part_number u h) (ap (λ k. get_or ys k 0) (sym (part_place start step a u)))

  -- the residue of the first a products plus the products of the part is that of the products up to the rest
  pub reduce_part : (p so_far : ℕ) → so_far ≡ (reduce p (total a (products row ys start step))).value
      → (reduce p (so_far + total (length part) (products part ys (start + a * step) step))).value
      ≡ (reduce p (total (a + length part) (products row ys start step))).value
  unfolding reduce
  reduce_part p so_far e =
      let n = length part in
      ap (λ s. (s + total n (products part ys (start + a * step) step)) % p) e
      ∙ mod-add-mod (total a (products row ys start step)) p (total n (products part ys (start + a * step) step))
      ∙ ap (λ k. k % p)
      (sym
      (total_split a n (products row ys start step)
      ∙ ap (λ k. total a (products row ys start step) + k)
      (total_same n (λ u. products row ys start step (a + u)) (products part ys (start + a * step) step) part_products)))

-- an empty row gives 0, whatever start and step say
pub products_none : (p : ℕ) (ys : List ℕ) (start step : ℕ) → (sum_of_products p [] ys start step).value ≡ 0
unfolding reduce
products_none p ys start step =
    ap (λ x. x.value) (sum_none (residues p) (λ t. line p [] 0 1 t ⊗ line p ys start step t)) ∙ zero-mod p

-- ---- column j of a table whose rows begin at start, start + stride, ..: it begins at start + j and goes on by the stride

module _ (ys : List ℕ) (start stride m n j : ℕ) (h : j < n) where
  -- its places lie in ys where the rows do
  pub column_reaches : ((i : ℕ) → i < m → start + i * stride + n ≤ length ys) → Reaches m (start + j) stride (length ys)
  column_reaches rows i l = omega (arith, rows i l)

  -- a row times it
  pub column_sum : (p : ℕ) (row : List ℕ) → length row ≡ m
      → sum_of_products p row ys (start + j) stride ≡ mixed (residues p) m (line p row 0 1) (table p ys start stride m n) j
  unfolding mixed
  column_sum p row long =
      ap (λ k. sum (residues p) k (λ t. line p row 0 1 t ⊗ line p ys (start + j) stride t)) long
      ∙ sum_same (residues p) m _ _ (λ t l. ap (λ x. line p row 0 1 t ⊗ x) (column_line p ys start stride m n t j l h))
