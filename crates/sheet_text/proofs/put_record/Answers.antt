-- `sheet_text::put_record` meets its contract: where the mark is 1 it puts the number, otherwise the word.
use native.Mathlib.Omega.{arith}
use borrow.Author.Tests.{eq-eqb, ne_eqb}
use mir.Syntax.{w32}
use mir.ValLaws.{to_z-of_z}
use Rattle.codec.proofs.Signs.{signed_at_most}
use Rattle.sheet_text.specs.Lines.{record_text, unknown_word}
use Rattle.sheet_text.proofs.put_record.Goals as goal

pub put_signed-requires : goal.put_signed-requires
put_signed-requires c =
    let l = signed_at_most c.args.number c.ranges.number in
    rw (to_z-of_z w32 c.args.number c.ranges.number) (omega arith)

pub returns-then-mark-eq1 : goal.returns-then-mark-eq1
unfolding record_text
returns-then-mark-eq1 c =
    rw (eq-eqb c.args.mark 1 c.if-mark-eq1.true)
    (rw (to_z-of_z w32 c.args.number c.ranges.number) at c.put_signed.ensures)

pub returns : goal.returns
unfolding record_text unknown_word
returns c = rw (ne_eqb c.args.mark 1 (λ e. omega (arith, e))) c.put_bytes.ensures
