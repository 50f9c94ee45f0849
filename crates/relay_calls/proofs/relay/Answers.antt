-- `relay_calls::relay` meets its contract: off a board it is refusal 11, with other lengths refusal 3, with a wanted number of p or more
-- refusal 4, and else `relay_row` does what the ledger's part of the call does.
use mathlib.Core.Path.{◌≡◌, sym, ap, ◌∙◌}
use native.Mathlib.Omega.{arith}
use lib.ListN.{length}
use borrow.Author.Tests.{not-false}
use Rattle.algebra.proofs.Answers.{guard_left, guard_taken}
use Rattle.frame.specs.Format.{longest}
use Rattle.ledger.specs.Board.{IsBoard, size_word, values_word}
use Rattle.board_words.proofs.TestBoard.{board_laid}
use Rattle.board_solve.specs.Combination.{IsCandidate}
use Rattle.relay_calls.proofs.CallRelay.{off_board, by_ledger, other_length, other_number}
use Rattle.relay_calls.proofs.relay.Goals as goal
use Rattle.relay_calls.proofs.relay.Goals.{After-longest, Else-bytes-longest, Else-mix-header, Else-not-candidate}

-- past the fourth test the words are a board, and c is the candidate for the wanted row, which is n long
held : (c : Else-not-candidate) → let a = c.args in IsCandidate a.board.now a.wanted.now c.candidate.new.c
held c = c.candidate.ensures.candidate (not-false _ c.if-not-candidate.false-raw)

board : (c : Else-not-candidate) → IsBoard c.args.board.now
board c = (held c).inverse.board

wide : (c : Else-not-candidate) → let a = c.args in length a.wanted.now ≡ size_word a.board.now
wide c = omega arith

-- what the other tests leave
long : (c : Else-mix-header) → let a = c.args in length a.mix.now ≡ size_word a.board.now
long c = omega arith

most : (c : After-longest) → c.longest.result ≡ longest (values_word c.args.board.now)
most c = c.longest.ensures ∙ ap longest c.of-header.ensures.words

room : (c : Else-bytes-longest) → c.longest.result ≡ longest (values_word c.args.board.now)
    → let a = c.args in length a.bytes.now ≡ longest (values_word a.board.now)
room c most = c.if-bytes-longest.false ∙ most

pub returns-then-not-is_laid_out : goal.returns-then-not-is_laid_out
returns-then-not-is_laid_out c = off_board _ _ _ _ (λ b. guard_taken c.is_laid_out.ensures c.if-not-is_laid_out.true-raw (board_laid b))

pub returns-then-not-is_board : goal.returns-then-not-is_board
returns-then-not-is_board c = off_board _ _ _ _ (guard_taken c.is_board.ensures c.if-not-is_board.true-raw)

pub returns-then-wanted-header : goal.returns-then-wanted-header
returns-then-wanted-header c =
    other_length _ (guard_left c.is_board.ensures c.if-not-is_board.false-raw) _ _ _
    (λ l _ _. c.if-wanted-header.true (l ∙ sym c.of-header.ensures.records))

pub returns-then-not-candidate : goal.returns-then-not-candidate
returns-then-not-candidate c = off_board _ _ _ _ (guard_taken c.candidate.ensures.tells c.if-not-candidate.true-raw)

pub returns-then-mix-header : goal.returns-then-mix-header
returns-then-mix-header c =
    other_length _ (board (goal.at.returns-then-mix-header c).Else-not-candidate) _ _ _
    (λ _ l _. c.if-mix-header.true (l ∙ sym c.of-header.ensures.records))

pub returns-then-bytes-longest : goal.returns-then-bytes-longest
returns-then-bytes-longest c =
    other_length _ (board (goal.at.returns-then-bytes-longest c).Else-not-candidate) _ _ _
    (λ _ _ e. c.if-bytes-longest.true (e ∙ sym (most (goal.at.returns-then-bytes-longest c).After-longest)))

pub returns-then-not-all_below : goal.returns-then-not-all_below
returns-then-not-all_below c =
    let at = goal.at.returns-then-not-all_below c in
    other_number _ (board at.Else-not-candidate) _ _ _ (wide at.Else-not-candidate) (long at.Else-mix-header)
    (room at.Else-bytes-longest (most at.After-longest))
    (λ below. guard_taken c.all_below.ensures c.if-not-all_below.true-raw (rw (← c.of-header.ensures.modulus) at below))

pub relay_row-requires : goal.relay_row-requires
relay_row-requires c =
    let at = goal.at.relay_row-requires c in
    let wide_row = wide at.Else-not-candidate in
    let below = guard_left c.all_below.ensures c.if-not-all_below.false-raw in
    let small = rw c.of-header.ensures.modulus at below in
    record {
      findable = record { candidate = held at.Else-not-candidate; row = record { long = wide_row; below = λ j h. small j (omega arith) } };
      mix_long = long at.Else-mix-header;
      bytes_long = room at.Else-bytes-longest (most at.After-longest);
    }

pub returns : goal.returns
returns c =
    let b = board (goal.at.returns c).Else-not-candidate in
    by_ledger _ b _ _ _ _ (c.relay_row.ensures b.prime)
