-- The header alone, or the words of a board for at most 64 records.
use Rattle.std.proofs.Common.{arith}
use Rattle.ledger.proofs.LayoutPlaces.{header_inside, board_most}
use Rattle.sheet.proofs.heat.board_length.Goals as goal

pub returns : goal.returns
returns c =
    let n = c.args.n in
    let e = c.board_length.ensures in
    (omega (arith, e, header_inside n 1), omega (arith, e, board_most n 1 c.if-n-gt-LARGEST.false (omega arith)), λ _. e)
