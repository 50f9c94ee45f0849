-- `board_words::layout::board_length` meets its contract: n rows are all, and they lie in steps of their length.
use mathlib.Core.Path.{◌≡◌}
use Prim.Native.Nat.{◌+◌, ◌*◌}
use native.Mathlib.Omega.{arith}
use Rattle.ledger.specs.Board.{header_length, board_length}
use Rattle.ledger.proofs.LayoutPlaces.{row_step, row_words_lem, board_rows, board_most}
use Rattle.board_words.proofs.layout.board_length.Goals as goal
use Rattle.board_words.proofs.layout.board_length.Goals.{Start}

-- what is computed is the board's length
computed : (s : Start) → let a = s.args in header_length + a.n * (a.n + a.s) ≡ board_length a.n a.s
computed s =
    let a = s.args in
    rw (← row_words_lem a.n a.s) (omega (arith, board_rows a.n a.s, row_step a.n a.s a.n))

pub overflow_mul-result : goal.overflow_mul-result
overflow_mul-result c =
    let a = c.args in omega (arith, computed (goal.at.overflow_mul-result c).Start, board_most a.n a.s c.requires.0 c.requires.1)

pub overflow_add-result : goal.overflow_add-result
overflow_add-result c =
    let a = c.args in omega (arith, computed (goal.at.overflow_add-result c).Start, board_most a.n a.s c.requires.0 c.requires.1)

pub returns : goal.returns
returns c = computed (goal.at.returns c).Start
