-- `board_solve::take_row` meets its contract: what `find` tells decides, and each of the three ways out leaves what the ledger's
-- step leaves.
use mathlib.Core.Path.{◌≡◌, sym, ap, ◌∙◌, subst}
use mathlib.Core.Bool.{true, false}
use native.Mathlib.Omega.{arith}
use lib.ListN.{length, take}
use lib.Seq.{length-take-le}
use borrow.Author.Tests.{not-true, not-false}
use Rattle.algebra.proofs.Answers.{guard_left, guard_taken}
use Rattle.words.proofs.Writes.{put_whole}
use Rattle.ledger.specs.Board.{IsBoard, size_word}
use Rattle.board_solve.specs.Combination.{Combination}
use Rattle.board_solve.proofs.Standing.{board_sizes}
use Rattle.board_solve.proofs.Take.{row_fits, new_outcome, repeat_outcome, conflict_outcome}
use Rattle.board_solve.proofs.take_row.Goals as goal
use Rattle.board_solve.proofs.take_row.Goals.{After-put, Else-not-find, Start, Then-not-find}

-- the words of a call are a board
board : (s : Start) → IsBoard s.args.board.now
board s = s.requires.findable.candidate.inverse.board

-- ---- no combination: the row is new

none : (c : Then-not-find) → let a = c.args in
    Combination a.board.now a.f.now a.c.now false
none c = subst (Combination _ _ _) (not-true _ c.if-not-find.true-raw) c.find.ensures

pub append-requires : goal.append-requires
append-requires c =
    let at = goal.at.append-requires c in
    let row = c.requires.findable.row in
    let e = c.of-header.ensures in
    let (positive, small, few) = board_sizes _ (board at.Start) in
    rw (e.records, e.words, e.rows) (row.long, c.requires.values_long, row_fits _ _ (board at.Start) row _ (none at.Then-not-find), few)

pub returns-then-not-find : goal.returns-then-not-find
returns-then-not-find c =
    let at = goal.at.returns-then-not-find c in
    let e = c.of-header.ensures in
    new_outcome _ _ (board at.Start) c.requires.findable.row _ (none at.Then-not-find) c.args.v.now c.args.mix.now _ c.requires.values_long
    (rw (e.records, e.words, e.rows) at c.append.ensures)

-- ---- a combination: the mix is written, and the values decide

some : (c : Else-not-find) → let a = c.args in
    Combination a.board.now a.f.now a.c.now true
some c = subst (Combination _ _ _) (not-false _ c.if-not-find.false-raw) c.find.ensures

-- the front of c is as long as f
fits : (c : Else-not-find) → let a = c.args in length a.f.now ≡ length (take (length a.f.now) a.c.now)
fits c = sym (length-take-le _ _ (omega (arith, (some c).long, c.requires.findable.row.long, (board_sizes _ c.requires.findable.candidate.inverse.board).1)))

-- `put` has filled the mix with c's numbers
mix_written : (c : After-put) → length c.args.f.now ≡ length (take (length c.args.f.now) c.args.c.now) → let a = c.args in
    c.put.new.out ≡ take (size_word a.board.now) a.c.now
mix_written c fits =
    let e = c.put.ensures in
    put_whole _ c.args.mix.now _ e.0 (c.requires.mix_long ∙ sym c.requires.findable.row.long ∙ fits) e.1
    ∙ ap (λ n. take n c.args.c.now) c.requires.findable.row.long

pub returns-then-not-values_agree : goal.returns-then-not-values_agree
returns-then-not-values_agree c =
    let at = goal.at.returns-then-not-values_agree c in
    conflict_outcome _ _ (board at.Start) c.requires.findable.row _ (some at.Else-not-find) c.args.v.now c.args.mix.now _
    (mix_written at.After-put (fits at.Else-not-find)) c.requires.values_long c.requires.values_below (guard_taken c.values_agree.ensures c.if-not-values_agree.true-raw)

pub returns : goal.returns
returns c =
    let at = goal.at.returns c in
    repeat_outcome _ _ (board at.Start) c.requires.findable.row _ (some at.Else-not-find) c.args.v.now c.args.mix.now _
    (mix_written at.After-put (fits at.Else-not-find)) (guard_left c.values_agree.ensures c.if-not-values_agree.false-raw)
