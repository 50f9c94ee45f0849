-- `sheet_heat::ending` meets its contract: the board's n is at most 64, so that the marks and the numbers lent are n of 64.
use mathlib.Core.Path.{sym}
use native.Mathlib.Omega.{arith}
use lib.Seq.{length-take-le}
use Rattle.sheet_heat.proofs.ending.Goals as goal

pub slice_bounds-show_lines-end : goal.slice_bounds-show_lines-end
slice_bounds-show_lines-end c = sym (length-take-le _ _ (omega (arith, c.filled-marks.ensures.0, c.requires.0.0.size)))

pub slice_bounds-show_lines-end-2 : goal.slice_bounds-show_lines-end-2
slice_bounds-show_lines-end-2 c = sym (length-take-le _ _ (omega (arith, c.filled-numbers.ensures, c.requires.0.0.size)))

pub show_lines-requires : goal.show_lines-requires
show_lines-requires c =
    let pre = c.requires in (
      pre.0,
      length-take-le _ _ (omega (arith, c.filled-marks.ensures.0, pre.0.0.size)),
      length-take-le _ _ (omega (arith, c.filled-numbers.ensures, pre.0.0.size)),
      pre.1,
    )
