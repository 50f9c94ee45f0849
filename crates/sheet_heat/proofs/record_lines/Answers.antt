-- `sheet_heat::record_lines` meets its contract. The loop's invariant: the lines of the first j records stand at the front, of fifteen
-- bytes at most each.
use native.Mathlib.Omega.{arith}
use Rattle.std.proofs.Common.{rules}
use Rattle.sheet_heat.proofs.Written.{record_lines_none, record_lines_more}
use Rattle.sheet_heat.proofs.record_lines.Goals as goal

pub loop-j-init : goal.loop-j-init
loop-j-init c = (record_lines_none _ _ _, omega arith)

pub loop-j-preserved : goal.loop-j-preserved
loop-j-preserved c =
    let l = c.loop-j in
    let a = c.args in
    (record_lines_more l.j a.marks.now a.numbers.now l.invariant.0 (search rules), omega (arith, c.record_line-at.ensures.upper_bound))
