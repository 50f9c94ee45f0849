-- `reduced::solution` meets its contract. The loop's invariant: z is D w at the pivots of the worked rows from t on, and 0 elsewhere.
use mathlib.Core.Path.{◌≡◌, subst}
use mathlib.Core.List.{List}
use Prim.Native.Nat.{ℕ, ◌+◌, ◌*◌, ◌-◌, ◌≤◌, ◌<◌}
use native.Mathlib.Omega.{arith}
use lib.ListN.{get_or, take, drop}
use Rattle.words.specs.Lengths.{longest_row, widest_table}
use Rattle.matrix_mul.proofs.PlaceRows.{IsPart, is_part}
use Rattle.matrix_echelon.proofs.WorkedClear.{row_inside}
use Rattle.matrix_echelon.proofs.Settle.{modulus_proper}
use Rattle.matrix_echelon.proofs.Grids.{pivots_held, pivot_in_columns}
use Rattle.matrix_echelon.proofs.SolutionBack.{SolvedFrom, solved_more, solution_found}
use Rattle.matrix_echelon.proofs.reduced.solution.Goals as goal
use Rattle.matrix_echelon.proofs.reduced.solution.Goals.{After-forward-rank, In-loop-t}

proper : (c : After-forward-rank) → 1 < c.args.p
proper c = modulus_proper c.requires.0.table.is_modulus

few : (c : After-forward-rank) → c.forward-rank.result ≤ longest_row
few c = (pivots_held c.requires.0 c.forward-rank.ensures).few

-- the worked row of this turn lies in the room
in-room : (c : In-loop-t) → (few : c.forward-rank.result ≤ longest_row) → let n = c.args.grid.columns in
    (c.loop-t.t - 1) * (n + 1) + (n + 1) ≤ widest_table
in-room c few =
    row_inside (c.loop-t.t - 1) (c.args.grid.columns + 1) (omega (arith, few))
    (omega (arith, c.requires.0.table.columns_most))

-- its numbers in front of the carried one
abbrev row : (c : In-loop-t) → List ℕ
row c =
    let n = c.args.grid.columns in
    let at = (c.loop-t.t - 1) * (n + 1) in
    take (at + n - at) (drop at c.forward-rank.new.e)

is_row : (c : In-loop-t) → (in-room : let n = c.args.grid.columns in
    (c.loop-t.t - 1) * (n + 1) + (n + 1) ≤ widest_table) → let n = c.args.grid.columns in
    IsPart c.forward-rank.new.e ((c.loop-t.t - 1) * (n + 1)) n (row c)
is_row c in-room = is_part (omega (arith, in-room, c.forward-rank.ensures.room.rows_in.long))

pub overflow_mul-at : goal.overflow_mul-at
overflow_mul-at c = omega (arith, in-room (goal.at.overflow_mul-at c).In-loop-t (few (goal.at.overflow_mul-at c).After-forward-rank))

pub overflow_add-end : goal.overflow_add-end
overflow_add-end c = omega (arith, in-room (goal.at.overflow_add-end c).In-loop-t (few (goal.at.overflow_add-end c).After-forward-rank))

pub offset_bounds-e-at : goal.offset_bounds-e-at
offset_bounds-e-at c = omega (arith, in-room (goal.at.offset_bounds-e-at c).In-loop-t (few (goal.at.offset_bounds-e-at c).After-forward-rank))

pub offset_bounds-e-end : goal.offset_bounds-e-end
offset_bounds-e-end c = omega (arith, in-room (goal.at.offset_bounds-e-end c).In-loop-t (few (goal.at.offset_bounds-e-end c).After-forward-rank))

pub bounds-e-end : goal.bounds-e-end
bounds-e-end c = omega (arith, in-room (goal.at.bounds-e-end c).In-loop-t (few (goal.at.bounds-e-end c).After-forward-rank))

-- the pivot of the worked row of this turn lies in z
pivot-in : (c : In-loop-t) → get_or c.forward-rank.new.pivots (c.loop-t.t - 1) 0 < c.args.grid.columns
pivot-in c = pivot_in_columns c.requires.0 c.forward-rank.ensures (c.loop-t.t - 1) (omega arith)

pub bounds-pivots-t : goal.bounds-pivots-t
bounds-pivots-t c = omega (arith, few (goal.at.bounds-pivots-t c).After-forward-rank)

pub loop-t-preserved : goal.loop-t-preserved
loop-t-preserved c =
    let f = c.forward-rank in
    let turn = (goal.at.loop-t-preserved c).In-loop-t in
    let held = (goal.at.loop-t-preserved c).After-forward-rank in
    let next : c.loop-t.t ≡ c.loop-t.t - 1 + 1 = omega arith in
    solved_more (proper held) (omega arith) (pivot-in turn)
    (subst (λ q. SolvedFrom c.args.p c.args.grid.columns f.result q f.new.e f.new.pivots c.loop-t.z) next c.loop-t.invariant)
    (is_row turn (in-room turn (few held))) c.dot-x.ensures c.minus.ensures

pub returns : goal.returns
returns c =
    let none : c.loop-t.t ≡ 0 = omega arith in
    solution_found (omega (arith, proper (goal.at.returns c).After-forward-rank)) c.forward-rank.ensures (rw none at c.loop-t.invariant)

pub slice_bounds-dot-end : goal.slice_bounds-dot-end
slice_bounds-dot-end c =
    omega (arith, in-room c (few (goal.at.slice_bounds-dot-end c).After-forward-rank), c.forward-rank.ensures.room.rows_in.long)
