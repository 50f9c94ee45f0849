-- `words::put` meets its contract. The loop's invariant: the first j numbers are written.
use Rattle.words.proofs.Writes.{Put}
use Rattle.words.proofs.put.Given as goal

abbrev pub invariant-loop-j : goal.invariant-loop-j
invariant-loop-j l = Put l.xs l.at l.j l.initial.out l.out
