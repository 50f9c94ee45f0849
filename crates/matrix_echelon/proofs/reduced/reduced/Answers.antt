-- `reduced::reduced` meets its contract. The loop's invariant: the worked rows from t on are reduced.
use mathlib.Core.Path.{◌≡◌}
use mathlib.Core.List.{List}
use Prim.Native.Nat.{ℕ, ◌<◌}
use native.Mathlib.Omega.{arith}
use lib.ListN.{length, take}
use lib.Seq.{length-take-le}
use Rattle.std.proofs.Common.{MatchOption, unwrap_or, Option, Some, None}
use Rattle.matrix_echelon.specs.Reduced.{FirstFree}
use Rattle.matrix_echelon.proofs.Settle.{modulus_proper}
use Rattle.matrix_echelon.proofs.Grids.{pivot_in_columns, pivots_held}
use Rattle.matrix_echelon.proofs.ReducedRows.{TakenBefore, taken_before, reduced_more, reduced_form}
use Rattle.matrix_echelon.proofs.reduced.reduced.Goals as goal
use Rattle.matrix_echelon.proofs.reduced.reduced.Goals.{After-each_row-next}

proper : (c : After-each_row-next) → 1 < c.args.p
proper c = modulus_proper c.requires.0.table.is_modulus

-- the marks of the columns are as many as these
front_long : (c : After-each_row-next) → length (take c.args.grid.columns c.rows_by_pivot-at.result) ≡ c.args.grid.columns
front_long c = length-take-le _ _ (omega (arith, c.rows_by_pivot-at.ensures.long, c.requires.0.table.columns_most))

-- where there is no free column, their number takes its place
first-or : {at : List ℕ} {n : ℕ} (r : Option ℕ) → length at ≡ n → MatchOption r (FirstFree at (length at)) (FirstFree at)
    → FirstFree at (unwrap_or r n)
first-or None e all = rw (← e) all
first-or (Some v) e found = found

first : (c : After-each_row-next) → FirstFree (take c.args.grid.columns c.rows_by_pivot-at.result) c.unwrap_or-from.result
first c = rw c.unwrap_or-from.ensures (first-or c.first_free.result (front_long c) c.first_free.ensures)

-- every column in front of the first free one has a pivot
taken : (c : After-each_row-next) → TakenBefore c.unwrap_or-from.result c.forward-rank.result c.forward-rank.new.pivots
taken c = taken_before c.requires.0.table.columns_most c.rows_by_pivot-at.ensures (first c)

pub rows_by_pivot-at-requires : goal.rows_by_pivot-at-requires
rows_by_pivot-at-requires c =
    let held = c.forward-rank.ensures in
    let ps = pivots_held c.requires.0 held in
    record {
      long = ps.long;
      few = ps.few;
      inside = λ t h. omega (arith, pivot_in_columns c.requires.0 held t h, c.requires.0.table.columns_most);
    }

pub invariant_of-rows : goal.invariant_of-rows
invariant_of-rows c = record { placed = pivots_held c.requires.0 c.forward-rank.ensures }

pub loop-t-preserved : goal.loop-t-preserved
loop-t-preserved c =
    let before = (goal.at.loop-t-preserved c).After-each_row-next in
    reduced_more (proper before) (omega arith) (omega arith) (taken before) c.loop-t.invariant c.reduce_row.ensures

pub returns : goal.returns
returns c =
    let none : c.loop-t.t ≡ 0 = omega arith in
    reduced_form (proper (goal.at.returns c).After-each_row-next) c.forward-rank.ensures (rw none at c.loop-t.invariant)
