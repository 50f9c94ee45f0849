-- `frame_calls::read` meets its contract: each return is by the first check that fails, and past the checks the frame is read.
use Rattle.checks.proofs.PassedOn.{refused_on}
use mathlib.Core.Path.{◌≡◌, ap, ◌∙◌}
use native.Mathlib.Omega.{arith}
use lib.ListN.{length}
use Rattle.checks.specs.InOrder.{AllHold}
use Rattle.checks.specs.Sizes.{frame_sizes}
use Rattle.checks.proofs.InOrder.{fails_here, given, ◌then◌}
use Rattle.frame.specs.Reading.{read_frame}
use Rattle.frame.specs.Calls.{read_outcome}
use Rattle.frame.proofs.Calls.{read_no_sizes, read_refused, read_done}
use Rattle.frame_calls.proofs.read.Goals as goal
use Rattle.frame_calls.proofs.read.Goals.{Else-multipliers-size, In_ok-frame_sizes}

-- past checks 1, 2 and 12
sized : (c : In_ok-frame_sizes) → let a = c.args in AllHold (frame_sizes a.p a.n a.s)
sized c = c.in_ok-frame_sizes.ensures

-- n multipliers and s values are lent
counted : (c : Else-multipliers-size) → let a = c.args in length a.multipliers.now ≡ a.n
counted c = c.if-multipliers-size.false

pub returns-in_err-frame_sizes : goal.returns-in_err-frame_sizes
returns-in_err-frame_sizes c = rw (refused_on c.from_residual.result c.from_residual.ensures.1) (read_no_sizes _ _ _ _ _ _ (c.in_err-frame_sizes.ensures))

pub returns-then-multipliers-size : goal.returns-then-multipliers-size
returns-then-multipliers-size c = read_refused _ _ _ _ _ _ (sized (goal.at.returns-then-multipliers-size c).In_ok-frame_sizes) (fails_here c.if-multipliers-size.true)

pub returns-then-values-words : goal.returns-then-values-words
returns-then-values-words c = read_refused _ _ _ _ _ _ (sized (goal.at.returns-then-values-words c).In_ok-frame_sizes) (counted (goal.at.returns-then-values-words c).Else-multipliers-size then fails_here c.if-values-words.true)

pub read_frame-requires : goal.read_frame-requires
read_frame-requires c =
    let hs = given (sized (goal.at.read_frame-requires c).In_ok-frame_sizes) in
    let valued : length c.args.values.now ≡ c.args.s = omega arith in (
      omega (arith, hs.0.prime.two_or_more),
      hs.1.0.0,
      hs.1.0.1,
      counted (goal.at.read_frame-requires c).Else-multipliers-size,
      omega (arith, valued, hs.1.1.0.1),
    )

pub returns : goal.returns
returns c =
    let a = c.args in
    let valued : length a.values.now ≡ a.s = omega arith in
    c.read_frame.ensures
    ∙ ap (λ s. read_outcome s (a.multipliers.now, a.values.now) (read_frame a.p a.n s a.bytes.now)) valued
    ∙ read_done _ _ _ _ _ _ (sized (goal.at.returns c).In_ok-frame_sizes) (counted (goal.at.returns c).Else-multipliers-size) valued
