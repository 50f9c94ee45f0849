-- Rows of a table that are added four at a time: numbers below 2^31 - 1, of which four products have 64 bits together, a list of
-- the rows to visit, what `next_row` hands over, the sums of limbs, and what is left in the end.
use Rattle.std.specs.Prelude.{◌≡◌, List, ℕ, ◌+◌, ◌*◌, ◌^◌, ◌<◌, ◌≤◌, length, get_or}
use Rattle.field.specs.Residue.{reduce, ◌⊕◌}
use Rattle.checks.specs.Prime.{largest_modulus}
use Rattle.field.specs.Products.{sum_of_products}
use Rattle.field.specs.Totals.{total, products}
use Rattle.field.specs.Limbs.{limb_base, low, high, whole, LimbFits}
use Rattle.words.specs.Lengths.{longest_row, widest_row}
use Rattle.words.specs.Words.{Below, Zeros}
use Rattle.matrix_mul.specs.declared.Place.{Place}
use Rattle.matrix_mul.specs.declared.limbs.Limbs.{Limbs}
use Rattle.matrix_mul.specs.declared.rows.Row.{Row}
use Rattle.matrix_mul.specs.declared.rows.Four.{Four}

-- below the largest modulus, as every residue is
unfoldable pub Short : ℕ → Type 0
Short n = n < largest_modulus

abbrev pub Shorts : List ℕ → Type 0
Shorts xs = (i : ℕ) → Short (get_or xs i 0)

-- four such numbers have 64 bits together, with room for 2^32
unfoldable pub Quarter : ℕ → Type 0
Quarter n = 4 * n + limb_base ≤ 2 ^ 64

-- k rows of `width` numbers at a place lie in n numbers
abbrev pub RowsInside : (k : ℕ) → Place → (width n : ℕ) → Type 0
RowsInside k Y width n = (t : ℕ) → t < k → Y.start + t * Y.stride + width ≤ n

-- the product of a row at place j, and the sum of four
unfoldable pub product_at : List ℕ → Row → ℕ → ℕ
product_at table r j = r.times * get_or table (r.at + j) 0

unfoldable pub four_at : List ℕ → Four → ℕ → ℕ
four_at table f j = product_at table f.a j + product_at table f.b j + product_at table f.c j + product_at table f.d j

-- the row's multiplier is short, and its first `width` numbers lie in the table
pub record Inside (width : ℕ) (table : List ℕ) (r : Row) : Type 0 where
  pub short : Short r.times
  pub in_table : r.at + width ≤ length table

-- the same of four rows, in a table of short numbers
pub record FourInside (width : ℕ) (table : List ℕ) (f : Four) : Type 0 where
  pub table_short : Shorts table
  pub first : Inside width table f.a
  pub second : Inside width table f.b
  pub third : Inside width table f.c
  pub fourth : Inside width table f.d

-- four rows add nothing in front of a place of their width
pub record NothingBefore (width from : ℕ) (table : List ℕ) (f : Four) : Type 0 where
  pub within : from ≤ width
  pub nothing : (j : ℕ) → j < from → four_at table f j ≡ 0

-- a list that leads from each of k rows to a later one, or to the end: next[t] is the next row to visit after t
pub record Leads (k : ℕ) (next : List ℕ) : Type 0 where
  pub long : k ≤ length next
  pub later : (t : ℕ) → t < k → t < get_or next t 0
  pub within : (t : ℕ) → t < k → get_or next t 0 ≤ k

-- the list that leads from each row to the next
pub record Each (next : List ℕ) : Type 0 where
  pub long : length next ≡ longest_row
  pub one_on : (t : ℕ) → t < longest_row → get_or next t 0 ≡ t + 1

-- f is 0 at the rows that the list passes over
abbrev pub PassesOver : (k : ℕ) → List ℕ → (ℕ → ℕ) → Type 0
PassesOver k next f = (t u : ℕ) → t < k → t < u → u < get_or next t 0 → f u ≡ 0

-- the list leads through k rows of `width` numbers at a place, and passes over zeros only
pub record Passes (k : ℕ) (next : List ℕ) (Y : Place) (width : ℕ) (table : List ℕ) : Type 0 where
  pub leads : Leads k next
  pub zeros : (j : ℕ) → j < width → PassesOver k next (λ u. get_or table (Y.start + u * Y.stride + j) 0)

-- what `next_row` asks: short multipliers, a list of the rows, and starts of rows that have 64 bits
pub record Walkable (by next : List ℕ) (Y : Place) : Type 0 where
  pub short : Shorts by
  pub starts : (t : ℕ) → t < length by → Y.start + t * Y.stride < 2 ^ 64
  pub leads : Leads (length by) next

-- what the first t rows add at place j
abbrev pub part_at : (by table : List ℕ) → Place → (t j : ℕ) → ℕ
part_at by table Y t j = total t (products by table (Y.start + j) Y.stride)

-- what all rows add there
abbrev pub sum_at : (by table : List ℕ) → Place → ℕ → ℕ
sum_at by table Y j = part_at by table Y (length by) j

-- the rows of the multipliers `by` from `from` on, up to the row's `next`, add what the row r adds, if those passed over add
-- nothing
pub record RowTaken (by next : List ℕ) (Y : Place) (from : ℕ) (r : Row) : Type 0 where
  pub short : Short r.times
  pub later : from ≤ r.next
  pub onward : from < length by → from < r.next
  pub within : r.next ≤ length by
  pub in_table : (width n : ℕ) → RowsInside (length by) Y width n → 0 < length by → r.at + width ≤ n
  pub added :
      (xs : List ℕ) (j : ℕ) → PassesOver (length by) next (products by xs (Y.start + j) Y.stride)
      → part_at by xs Y r.next j ≡ part_at by xs Y from j + product_at xs r j

-- four rows that are taken one after the other, from row t on
pub record FourTaken (by next : List ℕ) (Y : Place) (t : ℕ) (f : Four) : Type 0 where
  pub first : RowTaken by next Y t f.a
  pub second : RowTaken by next Y f.a.next f.b
  pub third : RowTaken by next Y f.b.next f.c
  pub fourth : RowTaken by next Y f.c.next f.d

-- nothing has been added yet
pub record NoLimbs (s : Limbs) : Type 0 where
  pub low_zeros : Zeros widest_row s.lo
  pub high_zeros : Zeros widest_row s.hi

-- sums of limbs to which a limb can be added at the first n places
pub record Ready (n : ℕ) (s : Limbs) : Type 0 where
  pub small : n ≤ widest_row
  pub fits_lo : (j : ℕ) → j < n → LimbFits (get_or s.lo j 0)
  pub fits_hi : (j : ℕ) → j < n → LimbFits (get_or s.hi j 0)

-- s' is s, with the limbs of x's numbers added at the first n places
pub record Added (n : ℕ) (x : ℕ → ℕ) (s s' : Limbs) : Type 0 where
  pub low_at : (j : ℕ) → j < n → get_or s'.lo j 0 ≡ get_or s.lo j 0 + low (x j)
  pub high_at : (j : ℕ) → j < n → get_or s'.hi j 0 ≡ get_or s.hi j 0 + high (x j)

-- the numbers that sums of limbs stand for
unfoldable pub whole_at : Limbs → ℕ → ℕ
whole_at s j = whole (get_or s.lo j 0) (get_or s.hi j 0)

-- v's number added to that of xs at place j, modulo p
unfoldable pub summed_number : (p : ℕ) → (ℕ → ℕ) → List ℕ → ℕ → ℕ
summed_number p v xs j = (reduce p (get_or xs j 0 + v j)).value

-- after is before with v's numbers added so
pub record Summed (p : ℕ) (v : ℕ → ℕ) (before after : List ℕ) : Type 0 where
  pub long : length after ≡ length before
  pub summed_at : (j : ℕ) → j < length before → get_or after j 0 ≡ summed_number p v before j

-- what a combination of rows asks: residues, no more of them than the longest row has, and rows that lie in the table, one number longer at most
pub record Combinable (p : ℕ) (by table : List ℕ) (Y : Place) (out : List ℕ) : Type 0 where
  pub positive : 0 < p
  pub in_range : p ≤ largest_modulus
  pub few : length by ≤ longest_row
  pub narrow : length out ≤ widest_row
  pub by_below : Below p by
  pub table_below : Below p table
  pub inside : RowsInside (length by) Y (length out) (length table)

-- after is before, a row, plus the combination of rows of the table with the multipliers `by`, in residues
abbrev pub CombinedInto : (p : ℕ) (by table : List ℕ) (start stride : ℕ) (before after : List ℕ) → Type 0
CombinedInto p by table start stride before after =
    (length after ≡ length before)
    × ((j : ℕ) → j < length before
    → get_or after j 0
    ≡ (reduce p (get_or before j 0) ⊕ sum_of_products p by table (start + j) stride).value)
