-- `board_solve::combination::find` meets its contract: g is c R, and g is f exactly if f is a combination.
use mathlib.Core.Path.{◌≡◌}
use native.Mathlib.Omega.{arith}
use lib.ListN.{length, take}
use lib.Seq.{length-take-le}
use Rattle.ledger.specs.Board.{IsBoard, row_length, size_word, count_word, values_word}
use Rattle.board_solve.proofs.Standing.{board_sizes}
use Rattle.board_solve.proofs.Combinations.{part_below, part_inside, multipliers_below, found}
use Rattle.board_solve.proofs.combination.find.Goals as goal
use Rattle.board_solve.proofs.combination.find.Goals.{After-filled-g, After-row_length-width, Start}

-- the words of a call are a board, and its rows are the width apart
board : (s : Start) → IsBoard s.args.board.now
board s = s.requires.candidate.inverse.board

wide : (c : After-row_length-width) → let ws = c.args.board.now in c.row_length-width.result ≡ row_length (size_word ws) (values_word ws)
wide c = let e = c.of-header.ensures in rw (c.row_length-width.ensures, e.records, e.words)

-- the multipliers and the room for g, as they are lent
multipliers_long : (s : Start) → let k = count_word s.args.board.now in length (take k s.args.c.now) ≡ k
multipliers_long s = length-take-le _ _ (omega (arith, s.requires.candidate.long, (board_sizes _ (board s)).2))

room_long : (c : After-filled-g) → (board : IsBoard c.args.board.now) → let n = size_word c.args.board.now in length (take n c.filled-g.result) ≡ n
room_long c board = length-take-le _ _ (omega (arith, c.filled-g.ensures.0, (board_sizes _ (board)).1))

pub combine-requires : goal.combine-requires
combine-requires c =
    let b = board (goal.at.combine-requires c).Start in
    let e = c.of-header.ensures in
    let multipliers = multipliers_long (goal.at.combine-requires c).Start in
    let room = room_long (goal.at.combine-requires c).After-filled-g b in
    let width = wide (goal.at.combine-requires c).After-row_length-width in
    let sizes = board_sizes _ b in
    rw (e.modulus, e.records, e.rows)
    record {
      positive = sizes.0;
      in_range = b.prime.in_range;
      few = omega arith;
      narrow = omega arith;
      by_below = multipliers_below _ _ _ c.requires;
      table_below = part_below _ b;
      inside = λ t h. omega (arith, part_inside _ b c.row_length-width.result width t (omega arith));
    }

pub returns : goal.returns
returns c =
    let e = c.of-header.ensures in
    let width = wide (goal.at.returns c).After-row_length-width in
    found _ _ _ _ c.combine.new.out c.requires c.filled-g.ensures c.row_length-width.result width
    (rw (e.modulus, e.records, e.rows) at c.combine.ensures) (rw e.records at c.same.ensures)
