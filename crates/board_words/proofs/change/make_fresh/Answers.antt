-- `board_words::change::make_fresh` meets its contract: the words are cleared, and p, n and s put into the header.
use mathlib.Core.Path.{◌∙◌}
use native.Mathlib.Omega.{arith}
use lib.ListN.{length-set}
use Rattle.ledger.proofs.LayoutPlaces.{header_inside}
use Rattle.board_words.proofs.ChangeRows.{fresh_made}
use Rattle.board_words.proofs.change.make_fresh.Goals as goal

pub bounds-board-0 : goal.bounds-board-0
bounds-board-0 c = omega (arith, header_inside c.args.n c.args.s, c.requires, c.clear.ensures.0)

pub bounds-board-1 : goal.bounds-board-1
bounds-board-1 c = simp length-set (omega (arith, header_inside c.args.n c.args.s, c.requires, c.clear.ensures.0))

pub bounds-board-3 : goal.bounds-board-3
bounds-board-3 c = simp length-set (omega (arith, header_inside c.args.n c.args.s, c.requires, c.clear.ensures.0))

pub returns : goal.returns
returns c =
    let e = c.clear.ensures in
    fresh_made c.args.p c.args.n c.args.s c.clear.new.xs (e.0 ∙ c.requires) e.1
