-- What came of a length says what comes: nothing more, a cut frame, or a frame, for which there is room.
use Rattle.std.proofs.Common.{◌≡◌, arith, rules, length-take-le}
use Rattle.std.specs.Prelude.{Some, None}
use Rattle.sheet.proofs.Steps.{no_frame, cut_length, length_and_frame}
use Rattle.sheet.proofs.frames.take_next.Goals as goal

pub returns-in-Ok-None-clause-text : goal.returns-in-Ok-None-clause-text
returns-in-Ok-None-clause-text g c =
    let none : c.in-Ok-None.field-0 ≡ None = search rules in
    let told = rw none at c.in-Ok-None.ensures.result_value in
    no_frame _ _ _ (g.W.Write.contents c.args.output.now) _ _ _ _ (omega (arith, c.read_full.auto.buffer, c.filled-pair.ensures.0)) told c.in_ok-came.ensures.bytes
    (λ h. c.in_ok-came.ensures.end (omega (arith, h, c.read_full.auto.buffer, c.filled-pair.ensures.0)))

pub returns-in_ok-refused-in-Err-clause-text : goal.returns-in_ok-refused-in-Err-clause-text
returns-in_ok-refused-in-Err-clause-text g c =
    cut_length _ _ _ _ _ _ _ _ _ (omega (arith, c.read_full.auto.buffer, c.filled-pair.ensures.0)) c.in-Err.ensures.result_value c.in_ok-came.ensures.bytes
    (λ h. c.in_ok-came.ensures.end (omega (arith, h, c.read_full.auto.buffer, c.filled-pair.ensures.0)))
    c.in_ok-refused-in-Err.ensures

pub returns-in-Ok-Some-clause-text : goal.returns-in-Ok-Some-clause-text
returns-in-Ok-Some-clause-text g c =
    let some : c.in-Ok-Some.field-0 ≡ Some c.in-Ok-Some.length = search rules in
    let told = rw some at c.in-Ok-Some.ensures.result_value in
    let bound = rw some at c.in-Ok-Some.ensures.result_bound in
    length_and_frame _ _ _ _ _ _ _ _ _ _ _ _ _ _ (omega (arith, c.read_full.auto.buffer, c.filled-pair.ensures.0))
    (length-take-le _ _ (omega (arith, bound, c.requires.1))) told
    c.in_ok-came.ensures.bytes c.take_body.ensures.text
