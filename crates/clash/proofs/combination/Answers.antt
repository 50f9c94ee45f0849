-- `clash::combination` meets its contract: the turned table is read in place, and what its worked rows carry is row y of A D.
use Prim.Native.Nat.{◌+◌, ◌*◌, ◌<◌, ◌≤◌}
use native.Mathlib.Omega.{arith}
use lib.ListN.{length}
use Rattle.matrix_echelon.proofs.ReducedRows.{reduced_pivoting}
use Rattle.clash.proofs.Rows.{rows_most}
use Rattle.clash.proofs.Words.{worked_rows_lem}
use Rattle.clash.proofs.Turned.{row_fits, turned_readable, turned_combination}
use Rattle.clash.proofs.combination.Goals as goal
use Rattle.clash.proofs.combination.Goals.{After-slice_known-2-1}

-- the row lies in the log, which is not long
inside : (c : After-slice_known-2-1) → let a = c.args in (a.y * (a.n + a.s) + a.n < length a.log.now) × (length a.log.now ≤ 5120)
inside c =
    let a = c.args in
    let k = c.requires.0 in (
      row_fits k a.y c.requires.1,
      omega (arith, k.log_long, rows_most a.m a.n a.s k.m_most k.n_size.1 k.s_count.1),
    )

pub overflow_mul-from : goal.overflow_mul-from
overflow_mul-from c = omega (arith, (inside (goal.at.overflow_mul-from c).After-slice_known-2-1).0, (inside (goal.at.overflow_mul-from c).After-slice_known-2-1).1)

pub overflow_add-end : goal.overflow_add-end
overflow_add-end c = omega (arith, (inside (goal.at.overflow_add-end c).After-slice_known-2-1).0, (inside (goal.at.overflow_add-end c).After-slice_known-2-1).1)

pub offset_bounds-log-from : goal.offset_bounds-log-from
offset_bounds-log-from c = omega (arith, (inside (goal.at.offset_bounds-log-from c).After-slice_known-2-1).0, (inside (goal.at.offset_bounds-log-from c).After-slice_known-2-1).1)

pub reduced-rank-requires : goal.reduced-rank-requires
reduced-rank-requires c = (turned_readable c.requires.0 c.args.y c.requires.1, c.requires.2)

pub rows_by_pivot-at-requires : goal.rows_by_pivot-at-requires
rows_by_pivot-at-requires c = reduced_pivoting c.reduced-rank.ensures c.requires.0.m_most

pub word_column-requires : goal.word_column-requires
word_column-requires c =
    let k = c.requires.0 in
    (worked_rows_lem k.is_modulus k.m_most (omega arith) c.reduced-rank.ensures c.rows_by_pivot-at.ensures, omega arith)

pub returns : goal.returns
returns c = (
  c.word_column.ensures.long,
  turned_combination c.requires.0 c.args.y c.requires.1 c.reduced-rank.ensures c.rows_by_pivot-at.ensures c.word_column.ensures,
)
