-- `board_words::layout::Header::value_start` meets its contract: the values begin behind their row's multipliers.
use native.Mathlib.Omega.{arith}
use Rattle.ledger.proofs.LayoutPlaces.{row_most, value_behind}
use Rattle.board_words.proofs.layout.Header.value_start.Goals as goal

pub overflow_add-result : goal.overflow_add-result
overflow_add-result c = let h = c.args.self in omega (arith, row_most h.n h.s h.few_records h.few_words c.args.i c.requires)

pub returns : goal.returns
returns c = omega (arith, value_behind c.args.self.n c.args.self.s c.args.i)
