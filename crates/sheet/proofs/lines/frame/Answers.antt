-- What was written into the buffer lies within it, and is the line; take leaves a board.
use Rattle.std.proofs.Common.{subst}
use Rattle.std.specs.Prelude.{OnOk}
use Rattle.std.specs.Io.KnownBytes.{Appends}
use Rattle.sheet_text.proofs.Written.{printed_within}
use Rattle.sheet_heat.proofs.Written.{frame_keeps_board}
use Rattle.sheet.proofs.Printed.{printed_text}
use Rattle.sheet.proofs.lines.frame.Goals as goal

pub write-requires : goal.write-requires
write-requires g c = printed_within c.frame_line-size.ensures.line

pub returns-clause-sheet : goal.returns-clause-sheet
returns-clause-sheet g c = frame_keeps_board c.frame_line-size.ensures c.requires

pub returns-clause-line : goal.returns-clause-line
returns-clause-line g c = subst (λ text. OnOk c.write.result (Appends (g.W.Write.contents c.args.output.now) (g.W.Write.contents c.write.new.output) text)) (printed_text c.frame_line-size.ensures.line) c.write.ensures
