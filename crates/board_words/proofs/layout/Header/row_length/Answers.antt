-- `board_words::layout::Header::row_length` meets its contract.
use native.Mathlib.Omega.{arith}
use Rattle.ledger.proofs.LayoutPlaces.{row_words_lem}
use Rattle.board_words.proofs.layout.Header.row_length.Goals as goal

pub returns : goal.returns
returns c = omega (arith, row_words_lem c.args.self.n c.args.self.s)
