-- `sheet_heat::frame_line` meets its contract: the line is the one of take's answer and of the count word that take left.
use Rattle.sheet_heat.proofs.Written.{frame_written}
use Rattle.sheet_heat.proofs.frame_line.Goals as goal

pub returns : goal.returns
returns c = frame_written c.take-answer.ensures c.answer_line.ensures
