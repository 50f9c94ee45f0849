-- `clash::first_by_words` meets its contract. The loop's invariant: y is the first frame that is not met in one of the words passed.
use mathlib.Core.Path.{◌∙◌}
use lib.Seq.{get_or-take}
use Rattle.clash.proofs.Rows.{words_more}
use Rattle.clash.proofs.first_by_words.Goals as goal

pub loop-w-preserved : goal.loop-w-preserved
loop-w-preserved c =
    words_more _ (λ j h. get_or-take _ c.word_column-x.result j 0 h ∙ c.word_column-x.ensures.each j h) c.loop-w.invariant c.first_other-y.ensures
