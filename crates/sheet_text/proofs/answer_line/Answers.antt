-- `sheet_text::answer_line` meets its contract: in each arm the answer is known, and its line is the one written.
use Rattle.std.proofs.Common.{◌≡◌, rules}
use Rattle.board_solve.specs.declared.Taken.TheVariants.{New, Repeat}
use Rattle.sheet_text.specs.Lines.{new_word, repeat_word}
use Rattle.sheet_text.proofs.Answers.{new_answer, repeat_answer}
use Rattle.sheet_text.proofs.Written.{put_line}
use Rattle.sheet_text.proofs.answer_line.Goals as goal

pub returns-in-Ok-New : goal.returns-in-Ok-New
unfolding new_word
returns-in-Ok-New c =
    let taken : c.in-Ok-New.field-0 ≡ New c.in-Ok-New.field-0-0 = search rules in
    rw (c.in-Ok-New.is, taken, new_answer) (put_line c.word_line.ensures)

pub returns-in-Ok-Repeat : goal.returns-in-Ok-Repeat
unfolding repeat_word
returns-in-Ok-Repeat c =
    let taken : c.in-Ok-Repeat.field-0 ≡ Repeat c.in-Ok-Repeat.field-0-0 = search rules in
    rw (c.in-Ok-Repeat.is, taken, repeat_answer) (put_line c.word_line-in-Ok-Repeat.ensures)

pub returns-in-Err : goal.returns-in-Err
returns-in-Err c = rw c.in-Err.is c.refusal_line.ensures
