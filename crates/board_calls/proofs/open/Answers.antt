-- `board_calls::open` meets its contract: each return is refused by the first check that fails, and past them the words are made a
-- fresh board.
use Rattle.checks.proofs.PassedOn.{refused_on}
use mathlib.Core.Path.{◌∙◌, sym}
use Rattle.checks.specs.InOrder.{AllHold}
use Rattle.checks.specs.Sizes.{frame_sizes}
use Rattle.checks.proofs.InOrder.{given}
use Rattle.board_calls.proofs.CallOpen.{open_no_sizes, open_no_length, open_done}
use Rattle.board_calls.proofs.open.Goals as goal
use Rattle.board_calls.proofs.open.Goals.{In_ok-frame_sizes}

-- past 1, 2 and 12
sizes : (c : In_ok-frame_sizes) → let a = c.args in
    AllHold (frame_sizes a.p a.n a.s)
sizes c =
    c.in_ok-frame_sizes.ensures

pub returns-in_err-frame_sizes : goal.returns-in_err-frame_sizes
returns-in_err-frame_sizes c = rw (refused_on c.from_residual.result c.from_residual.ensures.1) (open_no_sizes _ _ _ _ c.in_err-frame_sizes.ensures)

pub board_length-requires : goal.board_length-requires
board_length-requires c = let hs = given (sizes (goal.at.board_length-requires c).In_ok-frame_sizes) in (hs.1.0.1, hs.1.1.0.1)

pub returns-then-board-board_length : goal.returns-then-board-board_length
returns-then-board-board_length c = open_no_length _ _ _ _ (sizes (goal.at.returns-then-board-board_length c).In_ok-frame_sizes) (λ e. c.if-board-board_length.true (e ∙ sym c.board_length.ensures))

pub returns : goal.returns
returns c = open_done _ _ _ _ (sizes (goal.at.returns c).In_ok-frame_sizes) (c.if-board-board_length.false ∙ c.board_length.ensures) _ c.make_fresh.ensures
