-- `clash::first_other` meets its contract. The loop's invariant: the column meets every frame passed in word w.
use mathlib.Core.Path.{◌≡◌, sym, ap, ◌∙◌}
use native.Mathlib.Omega.{arith}
use lib.ListN.{get_or}
use borrow.Author.Count.{below_more}
use Rattle.clash.specs.Parts.{frame_sum}
use Rattle.clash.proofs.Rows.{row_within, row_sum}
use Rattle.clash.proofs.first_other.Goals as goal
use Rattle.clash.proofs.first_other.Goals.{After-dot}

-- the sum that `dot` gives is that of the turn's frame
given : (c : After-dot) → let a = c.args in
    c.dot.result ≡ (frame_sum a.p a.n a.s a.log.now (λ j. get_or a.x.now j 0) c.loop-i.i).value
given c =
    let a = c.args in
    c.dot.ensures
    ∙ ap (λ v. v.value) (row_sum a.p a.n a.s a.log.now a.x.now c.loop-i.i (omega (arith, row_within c.requires.0 c.loop-i.i c.loop-i-test.true)))

pub returns-then-dot-log : goal.returns-then-dot-log
returns-then-dot-log c =
    let l = c.loop-i in
    record { within = omega arith; before = l.invariant; differs = λ h met. c.if-dot-log.true (given (goal.at.returns-then-dot-log c).After-dot ∙ met) }

pub loop-i-preserved : goal.loop-i-preserved
loop-i-preserved c = below_more _ c.loop-i.i c.loop-i.invariant (sym (given (goal.at.loop-i-preserved c).After-dot) ∙ c.if-dot-log.false)
