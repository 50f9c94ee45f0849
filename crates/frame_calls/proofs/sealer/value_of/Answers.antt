-- `frame_calls::sealer::value_of` meets its contract: the residues of the word stand in front of the local numbers, and the sum over them
-- is the frame's value for it.
use mathlib.Core.Path.{sym}
use native.Mathlib.Omega.{arith}
use lib.ListN.{length}
use lib.Seq.{length-take-le}
use Rattle.frame.proofs.SealSums.{seal_sum}
use Rattle.frame_calls.proofs.sealer.value_of.Goals as goal

pub slice_bounds-dot-end : goal.slice_bounds-dot-end
slice_bounds-dot-end c = sym (length-take-le _ _ c.put_residues.ensures.0)

pub dot-requires : goal.dot-requires
dot-requires c = rw (length-take-le _ _ c.put_residues.ensures.0) (omega arith, λ t h. omega arith)

pub returns : goal.returns
returns c =
    let a = c.args in
    rw c.dot.ensures
    (seal_sum a.p (length a.multipliers.now) a.s a.records.now a.multipliers.now _ a.u
    c.put_residues.ensures.0 c.put_residues.ensures.1)
