-- `board_words::test::has_header` meets its contract: each return refutes the clause that its test is about, and past all tests the
-- last one decides.
use mathlib.Core.Path.{◌∙◌, sym}
use native.Mathlib.Omega.{arith}
use Rattle.algebra.proofs.Answers.{tells_no, tells_leb}
use Rattle.checks.specs.InOrder.{AllHold}
use Rattle.checks.specs.Sizes.{frame_sizes}
use Rattle.checks.proofs.InOrder.{given}
use Rattle.checks.proofs.PassedOn.{no_error_holds, error_fails}
use Rattle.ledger.specs.Board.{modulus_word, size_word, count_word, values_word}
use Rattle.board_words.proofs.TestSizes.{no_sizes}
use Rattle.board_words.proofs.test.has_header.Goals as goal
use Rattle.board_words.proofs.test.has_header.Goals.{Else-is_err}

-- past the test of the modulus, the size and the words of a record
sizes : (c : Else-is_err) → let ws = c.args.board.now in
    AllHold (frame_sizes (modulus_word ws) (size_word ws) (values_word ws))
sizes c =
    no_error_holds c.frame_sizes.result c.frame_sizes.ensures (sym c.if-is_err.ensures.value)

pub returns-then-board-lt-HEADER : goal.returns-then-board-lt-HEADER
returns-then-board-lt-HEADER c = tells_no (λ h. omega (arith, h.four))

pub returns-then-is_err : goal.returns-then-is_err
returns-then-is_err c =
    let (k, failed) = error_fails c.frame_sizes.result c.frame_sizes.ensures (sym c.if-is_err.ensures.value) in
    tells_no (λ h. no_sizes failed h.prime h.size h.words)

pub overflow_cast-n : goal.overflow_cast-n
overflow_cast-n c = omega (arith, (given (sizes (goal.at.overflow_cast-n c).Else-is_err)).1.0.1)

pub overflow_cast-s : goal.overflow_cast-s
overflow_cast-s c = omega (arith, (given (sizes (goal.at.overflow_cast-s c).Else-is_err)).1.1.0.1)

pub board_length-requires : goal.board_length-requires
board_length-requires c = let hs = given (sizes (goal.at.board_length-requires c).Else-is_err) in (hs.1.0.1, hs.1.1.0.1)

pub returns-then-board-board_length : goal.returns-then-board-board_length
returns-then-board-board_length c = tells_no (λ h. c.if-board-board_length.true (h.long ∙ sym c.board_length.ensures))

pub returns : goal.returns
returns c =
    let ws = c.args.board.now in
    let hs = given (sizes (goal.at.returns c).Else-is_err) in
    tells_leb (count_word ws) (size_word ws)
    (λ h.
    record {
      four = omega arith;
      prime = hs.0;
      size = hs.1.0;
      words = hs.1.1.0;
      long = c.if-board-board_length.false ∙ c.board_length.ensures;
      count = h;
    })
    (λ h. h.count)
