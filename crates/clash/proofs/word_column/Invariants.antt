-- `clash::word_column` meets its contract. The loop's invariant: the first j numbers are those that are carried for the word.
use Rattle.words.proofs.Walk.{Walked}
use Rattle.clash.specs.Parts.{word_number}
use Rattle.clash.proofs.word_column.Given as goal

abbrev pub invariant-loop-j : goal.invariant-loop-j
invariant-loop-j l = Walked l.j (word_number l.n l.s l.at l.e l.w) l.initial.x l.x
