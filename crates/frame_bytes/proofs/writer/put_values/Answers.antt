-- `frame_bytes::writer::put_values` meets its contract. The loop's invariant: the first u values are put.
use native.Mathlib.Omega.{arith}
use Rattle.frame_bytes.proofs.WriteNumbers.{laying_none, laying_more}
use Rattle.frame_bytes.proofs.writer.put_values.Goals as goal

pub loop-u-init : goal.loop-u-init
loop-u-init c = let a = c.args in laying_none a.w a.from a.values.now a.bytes.now c.requires

pub loop-u-preserved : goal.loop-u-preserved
loop-u-preserved c =
    let l = c.loop-u in
    let a = c.args in
    rw c.put_number.ensures (laying_more a.w a.from a.values.now a.bytes.now c.requires l.u l.bytes (omega arith) l.invariant)
