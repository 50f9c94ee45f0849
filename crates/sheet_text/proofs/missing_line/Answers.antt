-- `sheet_text::missing_line` meets its contract: its word is the one written.
use Rattle.sheet_text.specs.Lines.{missing_word}
use Rattle.sheet_text.proofs.missing_line.Goals as goal

pub returns : goal.returns
unfolding missing_word
returns c = c.word_line.ensures
