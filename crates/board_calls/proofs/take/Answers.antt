-- `board_calls::take` meets its contract: off a board it is refusal 11, with a mix of another length refusal 3, then what reading
-- refuses, and else `take_row` does with the numbers that reading found what the ledger does.
use mathlib.Core.Path.{◌≡◌, sym}
use mathlib.Core.List.{◌++◌}
use Prim.Native.Nat.{◌<◌}
use native.Mathlib.Omega.{arith}
use lib.ListN.{length, take, drop}
use lib.Seq.{length-take-le}
use borrow.Author.Tests.{not-false}
use Rattle.algebra.proofs.Answers.{guard_taken}
use Rattle.ledger.specs.Board.{IsBoard, modulus_word, size_word, values_word}
use Rattle.checks.specs.Outcome.{outcome}
use Rattle.checks.proofs.PassedOn.{refused_on}
use Rattle.frame.specs.Reading.{read_frame}
use Rattle.checks.specs.Told.{result_told}
use Rattle.frame.specs.Calls.{read_outcome}
use Rattle.ledger.proofs.WordsCalls.{take_off_board}
use Rattle.board_words.proofs.TestBoard.{board_laid}
use Rattle.board_solve.specs.Combination.{IsCandidate}
use Rattle.board_calls.proofs.CallTake.{take_no_length, numbers_found, row_long, row_for, values_for, take_unread, take_read}
use Rattle.board_calls.proofs.take.Goals as goal
use Rattle.board_calls.proofs.take.Goals.{Else-mix-n, Else-not-candidate}

-- past the second test the words are a board, and c is the candidate for what was read
held : (c : Else-not-candidate) → let n = size_word c.args.board.now in
    IsCandidate c.args.board.now (take n (c.read_frame-read.new.multipliers ++ drop n c.filled-f.result)) c.candidate.new.c
held c =
    let told = rw c.of-header.ensures.records at c.candidate.ensures in
    told.candidate (not-false _ c.if-not-candidate.false-raw)

board : (c : Else-not-candidate) → IsBoard c.args.board.now
board c = (held c).inverse.board

-- what reading answered, as the contract of `read_frame` has it with as many values as were lent
answered : (c : Else-not-candidate) → let ws = c.args.board.now in
    outcome (result_told c.read_frame-read.result) (c.read_frame-read.new.multipliers, c.read_frame-read.new.values)
    ≡ read_outcome (values_word ws) (take (size_word ws) c.filled-f.result, take (values_word ws) c.filled-v.result)
    (read_frame (modulus_word ws) (size_word ws) (values_word ws) c.args.frame.now)
answered c =
    let e = c.of-header.ensures in
    let s = values_word c.args.board.now in
    let long : length (take s c.filled-v.result) ≡ s = length-take-le _ _ (omega (arith, (board c).words.1, c.filled-v.ensures.0)) in
    rw (e.modulus, e.records, e.words, long) at c.read_frame-read.ensures

-- past the third the mix has a word for each record
mix_long : (c : Else-mix-n) → length c.args.mix.now ≡ size_word c.args.board.now
mix_long c = rw c.of-header.ensures.records at c.if-mix-n.false

pub returns-then-not-is_laid_out : goal.returns-then-not-is_laid_out
returns-then-not-is_laid_out c = sym (take_off_board _ (λ b. guard_taken c.is_laid_out.ensures c.if-not-is_laid_out.true-raw (board_laid b)) _ _)

pub returns-then-not-candidate : goal.returns-then-not-candidate
returns-then-not-candidate c = sym (take_off_board _ (guard_taken c.candidate.ensures.tells c.if-not-candidate.true-raw) _ _)

pub returns-then-mix-n : goal.returns-then-mix-n
returns-then-mix-n c =
    take_no_length _ (board (goal.at.returns-then-mix-n c).Else-not-candidate) _ _ (rw c.of-header.ensures.records at c.if-mix-n.true)

pub take_row-requires : goal.take_row-requires
take_row-requires c =
    let e = c.of-header.ensures in
    let ws = c.args.board.now in
    let past = (goal.at.take_row-requires c).Else-not-candidate in
    let positive : 0 < modulus_word ws = omega (arith, (board past).prime.prime.two_or_more) in
    let x = numbers_found _ _ _ _ _ _ _ _ positive (answered past) _ c.in_ok-read.was in
    let multipliers = c.read_frame-read.new.multipliers in
    let values = c.read_frame-read.new.values in
    rw (e.records, e.words)
    record {
      findable = record { candidate = held past; row = row_for ws multipliers values x c.filled-f.result };
      values_long = row_long _ values x.values_long c.filled-v.result;
      values_below = values_for ws multipliers values x c.filled-v.result;
      mix_long = mix_long (goal.at.take_row-requires c).Else-mix-n;
    }

pub returns : goal.returns
returns c =
    let e = c.of-header.ensures in
    let past = (goal.at.returns c).Else-not-candidate in
    take_read _ (board past) _ _ (mix_long (goal.at.returns c).Else-mix-n) _ _ _ _ (answered past) _ c.in_ok-read.was _ _ _
    (rw (e.records, e.words) at c.take_row.ensures)

pub returns-in_err-read : goal.returns-in_err-read
returns-in_err-read c =
    let past = (goal.at.returns-in_err-read c).Else-not-candidate in
    rw (refused_on c.from_residual.result c.from_residual.ensures.1)
    (take_unread _ (board past) _ _ (mix_long (goal.at.returns-in_err-read c).Else-mix-n) _ _ _ _ (answered past) c.in_err-read.field-0.0
    c.in_err-read.was)
