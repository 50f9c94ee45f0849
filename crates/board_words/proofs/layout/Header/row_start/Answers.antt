-- `board_words::layout::Header::row_start` meets its contract: the rows lie in steps of their length.
use native.Mathlib.Omega.{arith}
use Rattle.ledger.proofs.LayoutPlaces.{row_step, row_most}
use Rattle.board_words.proofs.layout.Header.row_start.Goals as goal

pub overflow_mul-result : goal.overflow_mul-result
overflow_mul-result c =
    let h = c.args.self in
    rw c.row_length.ensures (omega (arith, row_step h.n h.s c.args.i, row_most h.n h.s h.few_records h.few_words c.args.i c.requires))

pub overflow_add-result : goal.overflow_add-result
overflow_add-result c =
    let h = c.args.self in
    rw c.row_length.ensures (omega (arith, row_step h.n h.s c.args.i, row_most h.n h.s h.few_records h.few_words c.args.i c.requires))

pub returns : goal.returns
returns c = let h = c.args.self in rw c.row_length.ensures (omega (arith, row_step h.n h.s c.args.i))
