-- The frames' texts, one behind the other: of a frame that came whole, of the last one, and of as many as may be taken.
use Rattle.std.proofs.Common.{arith, ◌+◌, ◌-◌}
use Rattle.sheet.specs.Program.{budget}
use Rattle.sheet.proofs.Loop.{gone_more, gone_last, gone_all}
use Rattle.sheet.proofs.frames.take_each.Goals as goal

pub loop-preserved : goal.loop-preserved
loop-preserved g c =
    record {
      sheet = c.in_ok-take_next.ensures.sheet;
      gone = gone_more _ _ _ _ _ _ _ _ _ _ _ _ _ _ c.loop.invariant.gone (budget - (c.loop.counter + 1)) _ (omega arith) c.if-not-branch.false c.in_ok-take_next.ensures.text;
    }

pub returns-then-not-branch-clause-text : goal.returns-then-not-branch-clause-text
returns-then-not-branch-clause-text g c =
    gone_last _ _ _ _ _ _ _ _ _ _ _ _ _ _ c.loop.invariant.gone (budget - (c.loop.counter + 1)) _ (omega arith) c.if-not-branch.true c.in_ok-take_next.ensures.text

pub returns-after-loop-clause-text : goal.returns-after-loop-clause-text
returns-after-loop-clause-text g c = gone_all _ _ _ _ _ _ _ _ _ _ c.loop.invariant.gone (omega arith)
