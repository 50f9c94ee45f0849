-- The board stays one, and what is written and what is still to be written are what all frames come to. The counter says how many
-- frames are taken.
use Rattle.std.proofs.Common.{◌-◌}
use Rattle.sheet_heat.specs.Calls.{SheetBoard}
use Rattle.sheet.specs.Program.{budget}
use Rattle.sheet.proofs.Loop.{Gone}
use Rattle.sheet.proofs.frames.take_each.Given as goal

abbrev pub invariant-loop : goal.invariant-loop
invariant-loop g l = record {
  sheet : SheetBoard l.board;
  gone : Gone (g.R.Read.remaining l.initial.input) (g.R.Read.remaining l.input) (g.W.Write.contents l.initial.output) (g.W.Write.contents l.output)
      budget l.initial.board l.initial.mix (budget - l.counter) l.board l.mix;
}
