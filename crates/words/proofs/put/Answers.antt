-- `words::put` meets its contract. The loop's invariant: the first j numbers are written.
use native.Mathlib.Omega.{arith}
use Rattle.words.proofs.Writes.{put_none, put_more}
use Rattle.words.proofs.put.Goals as goal

pub loop-j-init : goal.loop-j-init
loop-j-init c = put_none _ _ _

pub loop-j-preserved : goal.loop-j-preserved
loop-j-preserved c =
    let l = c.loop-j in put_more _ _ l.j _ _ l.invariant (omega arith)
