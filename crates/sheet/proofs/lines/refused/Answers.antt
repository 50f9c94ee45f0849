-- What was written into the buffer lies within it, and is the text.
use Rattle.std.proofs.Common.{subst}
use Rattle.std.specs.Prelude.{OnOk}
use Rattle.std.specs.Io.KnownBytes.{Appends}
use Rattle.sheet_text.proofs.Written.{printed_within}
use Rattle.sheet.proofs.Printed.{printed_text}
use Rattle.sheet.proofs.lines.refused.Goals as goal

pub write-requires : goal.write-requires
write-requires g c = printed_within c.refused_line-size.ensures

pub returns : goal.returns
returns g c = subst (λ text. OnOk c.write.result (Appends (g.W.Write.contents c.args.output.now) (g.W.Write.contents c.write.new.output) text)) (printed_text c.refused_line-size.ensures) c.write.ensures
