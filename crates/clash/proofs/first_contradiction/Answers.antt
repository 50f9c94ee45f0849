-- `clash::first_contradiction` meets its contract: the reduced form of the multipliers carries the values, and the first frame that is not
-- met by what it carries is the first that contradicts the earlier ones.
use Prim.Native.Nat.{◌<◌}
use native.Mathlib.Omega.{arith}
use Rattle.matrix_echelon.proofs.ReducedRows.{reduced_pivoting}
use Rattle.clash.proofs.Clashes.{contradiction_found}
use Rattle.clash.proofs.Words.{values_inside, rows_readable, worked_rows_lem, room_again, words_found}
use Rattle.clash.proofs.Turned.{contradiction_is}
use Rattle.clash.proofs.first_contradiction.Goals as goal
use Rattle.clash.proofs.first_contradiction.Goals.{Else-m-eq0}

some : (c : Else-m-eq0) → 0 < c.args.m
some c = omega arith

pub returns-then-m-eq0 : goal.returns-then-m-eq0
returns-then-m-eq0 c = (
  λ ok. let a = c.args in omega (arith, (contradiction_found a.p ok a.m a.n a.s a.log.now).within),
  c.requires.1,
)

pub slice_bounds-reduced-count : goal.slice_bounds-reduced-count
slice_bounds-reduced-count c = omega (arith, values_inside c.requires.0 (some (goal.at.slice_bounds-reduced-count c).Else-m-eq0))

pub reduced-rank-requires : goal.reduced-rank-requires
reduced-rank-requires c = (rows_readable c.requires.0 (some (goal.at.reduced-rank-requires c).Else-m-eq0), c.requires.1)

pub rows_by_pivot-at-requires : goal.rows_by_pivot-at-requires
rows_by_pivot-at-requires c = reduced_pivoting c.reduced-rank.ensures c.requires.0.n_size.1

pub first_by_words-requires : goal.first_by_words-requires
first_by_words-requires c =
    let k = c.requires.0 in
    (k, worked_rows_lem k.is_modulus k.n_size.1 k.s_count.1 c.reduced-rank.ensures c.rows_by_pivot-at.ensures)

pub returns : goal.returns
returns c = (
  λ ok.
      contradiction_is _ ok _ _ _ _
      (words_found c.requires.0 (some (goal.at.returns c).Else-m-eq0) c.reduced-rank.ensures c.rows_by_pivot-at.ensures ok c.first_by_words.ensures),
  room_again c.reduced-rank.ensures,
)
