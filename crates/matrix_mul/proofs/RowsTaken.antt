-- Four products of numbers below the largest modulus have 64 bits together, and what `next_row` hands over. `Short` and `Quarter`
-- are opened in laws alone (here and in `Powers`), so that no invariant shows their large numbers.
use mathlib.Core.Path.{◌≡◌, sym, ap, ◌∙◌}
use mathlib.Core.List.{List}
use Prim.Native.Nat.{ℕ, ◌+◌, ◌*◌, ◌-◌, ◌%◌, ◌^◌, ◌<◌, ◌≤◌}
use native.Mathlib.Nat.{mod-lt, mul-le-mul, zero-mul, add-zero}
use native.Mathlib.Decide.{dec_lt}
use native.Mathlib.Omega.{arith}
use lib.ListN.{length, get_or, get_or-eq_default}
use mir.Val.{Fits}
use mir.Syntax.{w64}
use Rattle.words.specs.Words.{Below}
use Rattle.words.specs.Lengths.{longest_row}
use Rattle.field.specs.Totals.{total, products}
use Rattle.field.specs.Limbs.{LimbFits}
use Rattle.checks.specs.Prime.{largest_modulus}
use Rattle.matrix_mul.specs.declared.Place.{Place}
use Rattle.matrix_mul.specs.declared.rows.Row.{Row}
use Rattle.matrix_mul.specs.declared.rows.Four.{Four}
use Rattle.matrix_mul.specs.Rows.{Short, Shorts, Quarter, Inside, FourInside, Leads, Each, PassesOver, Passes, Walkable, RowTaken, FourTaken}
use Rattle.matrix_mul.specs.Rows.{Combinable, product_at, part_at}
use Rattle.field.proofs.Totals.{total_more, total_passed}

pub short_zero : Short 0
unfolding Short
short_zero = omega arith

-- residues are short
pub mod_short : (p n : ℕ) → 0 < p → p ≤ largest_modulus → Short (n % p)
unfolding Short
mod_short p n pos h = omega (arith, mod-lt n pos)

pub below_shorts : (p : ℕ) (xs : List ℕ) → p ≤ largest_modulus → Below p xs → Shorts xs
unfolding Short
below_shorts p xs h b i = by_place (dec_lt i (length xs))
  where
    by_place : Dec (i < length xs) → get_or xs i 0 < largest_modulus
    by_place (yes k) = omega (arith, b i k)
    by_place (no k) = let e : get_or xs i 0 ≡ 0 = get_or-eq_default xs 0 (omega arith) in omega arith

-- a product of short numbers is a quarter of what 64 bits hold
pub quarter_product : (a b : ℕ) → Short a → Short b → Quarter (a * b)
unfolding Short Quarter
quarter_product a b f g =
    let ha : a ≤ largest_modulus - 1 = omega arith in
    let hb : b ≤ largest_modulus - 1 = omega arith in
    omega (arith, mul-le-mul ha hb)

-- one, two and three quarters have 64 bits, and so have four, with room for 2^32
pub one_fits : (a : ℕ) → Quarter a → Fits w64 a
unfolding Quarter
one_fits a f = omega arith

pub two_fit : (a b : ℕ) → Quarter a → Quarter b → Fits w64 (a + b)
unfolding Quarter
two_fit a b f g = omega arith

pub three_fit : (a b c : ℕ) → Quarter a → Quarter b → Quarter c → Fits w64 (a + b + c)
unfolding Quarter
three_fit a b c f g h = omega arith

pub four_fit : (a b c d : ℕ) → Quarter a → Quarter b → Quarter c → Quarter d → LimbFits (a + b + c + d)
unfolding Quarter LimbFits
four_fit a b c d f g h k = omega arith

-- what a combination asks lets `next_row` go through its rows
module _ {p : ℕ} {by table : List ℕ} {Y : Place} {out : List ℕ} (c : Combinable p by table Y out) where
  pub walkable : length table < 2 ^ 64 → {next : List ℕ} → Passes (length by) next Y (length out) table → (from : ℕ) → from ≤ length by
      → (from ≤ length by) × Walkable by next Y
  walkable size passes from h = (
    h,
    record {
      short = below_shorts p by c.in_range c.by_below;
      starts = λ t k. omega (arith, c.inside t k);
      leads = passes.leads;
    },
  )

  pub table_short : Shorts table
  table_short = below_shorts p table c.in_range c.table_below

-- four rows that are taken lie in the table where all rows do
pub four_inside : {p : ℕ} {by table : List ℕ} {Y : Place} {out : List ℕ} → Combinable p by table Y out → 0 < length by
    → {next : List ℕ} {t : ℕ} {f : Four} → FourTaken by next Y t f → FourInside (length out) table f
four_inside {by = by} {table = table} {Y = Y} {out = out} combinable some {next} taken =
    record {
      table_short = table_short combinable;
      first = one taken.first;
      second = one taken.second;
      third = one taken.third;
      fourth = one taken.fourth;
    }
  where
    one : {from : ℕ} {r : Row} → RowTaken by next Y from r → Inside (length out) table r
    one k = record { short = k.short; in_table = k.in_table (length out) (length table) combinable.inside some }

module _ (by next : List ℕ) (Y : Place) (from t : ℕ) where
  -- the rows from `from` up to t add nothing, where those passed over add nothing
  abbrev pub Skipped : Type 0
  Skipped =
      (xs : List ℕ) (j : ℕ) → PassesOver (length by) next (products by xs (Y.start + j) Y.stride)
      → part_at by xs Y t j ≡ part_at by xs Y from j

  -- from t to where the list leads, only the row of t adds something
  leap : Leads (length by) next → t < length by → (f : ℕ → ℕ) → PassesOver (length by) next f
      → total (get_or next t 0) f ≡ total t f + f t
  leap leads inside f over =
      let later = leads.later t inside in
      let here : t + 1 + (get_or next t 0 - (t + 1)) ≡ get_or next t 0 = omega arith in
      ap (λ n. total n f) (sym here)
      ∙ total_passed f (t + 1) (get_or next t 0 - (t + 1)) (λ u h l. over t u inside (omega arith) (omega arith))
      ∙ total_more t f

module _ (by next : List ℕ) (Y : Place) (from t : ℕ) where
  pub skipped_more : Leads (length by) next → t < length by → get_or by t 0 ≡ 0 → Skipped by next Y from t
      → Skipped by next Y from (get_or next t 0)
  unfolding products
  skipped_more leads inside z e xs j over =
      leap by next Y from t leads inside _ over ∙ rw (z, zero-mul, add-zero) (e xs j over)

  -- the row of t, after rows that add nothing
  pub taken_row : Leads (length by) next → Shorts by → from ≤ t → t < length by → Skipped by next Y from t
      → RowTaken by next Y from (record { times = get_or by t 0; at = Y.start + t * Y.stride; next = get_or next t 0 })
  unfolding products product_at
  taken_row leads short l h e =
      record {
        short = short t;
        later = omega (arith, leads.later t h);
        onward = λ k. omega (arith, leads.later t h);
        within = leads.within t h;
        in_table = λ width n inside k. inside t h;
        added =
            λ xs j over. let same : Y.start + j + t * Y.stride ≡ Y.start + t * Y.stride + j = omega arith in
            leap by next Y from t leads h _ over ∙ rw (e xs j over, same);
      }

  -- no row is left
  pub taken_none : from ≤ t → t ≡ length by → Skipped by next Y from t
      → RowTaken by next Y from (record { times = 0; at = Y.start; next = t })
  unfolding product_at
  taken_none l h e =
      record {
        short = short_zero;
        later = l;
        onward = λ k. omega arith;
        within = omega arith;
        in_table = λ width n inside k. omega (arith, inside 0 k);
        added = λ xs j over. e xs j over ∙ rw (zero-mul, add-zero);
      }

-- the list that passes over no row
pub each_passes : {k : ℕ} {next : List ℕ} {Y : Place} {width : ℕ} {table : List ℕ} → k ≤ longest_row → Each next
    → Passes k next Y width table
each_passes small each =
    record {
      leads =
          record {
            long = omega (arith, each.long);
            later = λ t h. omega (arith, each.one_on t (omega arith));
            within = λ t h. omega (arith, each.one_on t (omega arith));
          };
      zeros = λ j w t u h l g. absurd (omega (arith, each.one_on t (omega arith)));
    }
