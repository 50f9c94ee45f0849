-- `sheet_text::refused_line` meets its contract: its word is the one written, with the number of the kind.
use Rattle.sheet_text.specs.Lines.{refused_word}
use Rattle.sheet_text.proofs.Written.{put_line}
use Rattle.sheet_text.proofs.refused_line.Goals as goal

pub returns : goal.returns
unfolding refused_word
returns c = put_line (rw c.from.ensures at c.word_line.ensures)
