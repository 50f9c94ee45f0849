-- `board_solve::values_agree` meets its contract. The loop's invariant: the words passed agree; the first that does not refutes all.
-- Here: the values of a word, row after row, lie in the board.
use Prim.Native.Nat.{ℕ}
use native.Mathlib.Omega.{arith}
use lib.Seq.{length-take-le}
use Rattle.ledger.proofs.LayoutPlaces.{row_first, value_behind}
use Rattle.board_solve.proofs.Standing.{board_sizes, values_reach}
use Rattle.board_solve.proofs.values_agree.Goals as goal

pub overflow_add-first : goal.overflow_add-first
overflow_add-first c =
    let h = c.of-header.result in omega (arith, value_behind h.n h.s 0, row_first h.n h.s)

pub dot-requires : goal.dot-requires
dot-requires c =
    let e = c.of-header.ensures in
    rw (c.value_start-first.ensures, c.row_length-step.ensures, e.modulus, e.records, e.words, e.rows) (
      (board_sizes _ c.requires.board).0,
      λ t h.
          omega (arith, values_reach _ c.requires.board c.loop-u.u t (omega (arith, c.requires.values_long)) (omega (arith, length-take-le {A = ℕ}))),
    )
