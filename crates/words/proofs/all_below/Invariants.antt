-- `words::all_below` meets its contract. The loop's invariant: what is told so far tells whether every number passed is below p.
use Prim.Native.Nat.{ℕ, ◌<◌}
use lib.ListN.{get_or}
use Rattle.algebra.specs.Answers.{Tells}
use Rattle.words.proofs.all_below.Given as goal

abbrev pub invariant-loop-x : goal.invariant-loop-x
invariant-loop-x l = Tells l.all ((k : ℕ) → k < l.x-index → get_or l.numbers k 0 < l.p)
