-- `frame_bytes::reading::fill_values` meets its contract. The loop's invariant: the first u values are written.
use mathlib.Core.Path.{sym, ◌∙◌}
use native.Mathlib.Omega.{arith}
use lib.Seq.{ext_get_or}
use Rattle.frame.proofs.Bytes.{numbers_at, numbers_length}
use Rattle.frame_bytes.proofs.reading.fill_values.Goals as goal

pub returns : goal.returns
returns c =
    let l = c.loop-u in
    let a = c.args in
    ext_get_or 0 _ _ (omega (arith, numbers_length a.w))
    (λ u h. l.invariant u (omega arith) ∙ sym (numbers_at a.w a.bytes.now a.start _ u (omega arith)))
