-- `clash::first_by_words` meets its contract. The loop's invariant: y is the first frame that is not met in one of the words passed.
use Rattle.clash.specs.Parts.{word_number, FirstByWords}
use Rattle.clash.proofs.first_by_words.Given as goal

abbrev pub invariant-loop-w : goal.invariant-loop-w
invariant-loop-w l = FirstByWords l.p l.m l.n l.s l.w l.log (word_number l.n l.s l.at l.e) l.y
