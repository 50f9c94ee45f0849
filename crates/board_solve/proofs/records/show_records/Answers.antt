-- `board_solve::records::show_records` meets its contract. The loop's invariant: the records passed are shown as the ledger shows them.
use mathlib.Core.Path.{◌≡◌}
use native.Mathlib.Omega.{arith}
use Rattle.ledger.specs.Board.{size_word}
use Rattle.board_solve.proofs.RecordShown.{shown_all, turn_shown, turn_hidden}
use Rattle.board_solve.proofs.records.show_records.Goals as goal
use Rattle.board_solve.proofs.records.show_records.Goals.{else-settled, then-settled}

pub loop-j-preserved : goal.loop-j-preserved
loop-j-preserved c =
    let l = c.loop-j in
    let a = c.args in
    let e = c.of-header.ensures in
    let inside = rw e.records at c.loop-j-test.true in
    let by_pivot = rw e.rows at c.rows_by_pivot-rows.ensures in
    let unit = rw (e.records, e.words) at c.settled.ensures in
    elim c.if-settled.branch [
      | then-settled w ↦ rw (w.marks-is, w.numbers-is)
          (turn_shown a.board.now a.e.now a.pivots.now _ c.requires.reduced by_pivot a.low l.j l.marks l.numbers _
          inside l.invariant (unit.0 w.if-settled.true) (rw (e.modulus, e.records, e.words) at w.put_words.ensures))
      | else-settled w ↦ rw (w.marks-is, w.numbers-is)
          (turn_hidden a.board.now a.e.now a.pivots.now _ c.requires.reduced by_pivot a.low l.j l.marks l.numbers _
          inside l.invariant (unit.1 w.if-settled.false) (rw e.words at w.clear_words.ensures))
    ]

pub returns : goal.returns
returns c =
    let l = c.loop-j in
    let end : l.j ≡ size_word c.args.board.now = omega arith in
    shown_all _ _ _ _ _ l.marks l.numbers (rw end at l.invariant)
