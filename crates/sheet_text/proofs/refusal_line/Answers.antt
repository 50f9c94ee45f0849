-- `sheet_text::refusal_line` meets its contract: a conflict has the count, any other kind its number.
use mathlib.Core.Path.{sym, refl}
use Rattle.checks.specs.declared.Refusal.TheVariants.{Conflict}
use Rattle.checks.proofs.Refusals.{conflict_number_only}
use Rattle.sheet_text.specs.Lines.{conflict_word, refused_word}
use Rattle.sheet_text.proofs.Answers.{conflict_answer, refused_answer}
use Rattle.sheet_text.proofs.Written.{put_line}
use Rattle.sheet_text.proofs.refusal_line.Goals as goal

pub returns-in-Conflict : goal.returns-in-Conflict
unfolding conflict_word
returns-in-Conflict c = rw (c.in-Conflict.is, conflict_answer Conflict c.args.count refl) (put_line c.word_line.ensures)

pub returns-in_default : goal.returns-in_default
returns-in_default c = rw (refused_answer c.args.kind c.args.count (λ e. c.in_default.not-Conflict (conflict_number_only c.args.kind e))) c.refused_line.ensures
