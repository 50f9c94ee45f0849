-- `frame_bytes::bitmap::standing` meets its contract. The loop's invariant: the count is the number of standing bits of the bytes passed.
use mathlib.Core.Path.{◌≡◌, sym, ap, ◌∙◌}
use Prim.Native.Nat.{◌*◌}
use native.Mathlib.Omega.{arith}
use lib.Count.{ones-le}
use lib.ListN.{get_or}
use borrow.Author.Rules.{rules}
use mir.Syntax.{w8}
use mir.Val.{Fits}
use Rattle.frame.proofs.Bits.{count, count_none, count_one_more, count_record_bits}
use Rattle.frame_bytes.proofs.bitmap.standing.Goals as goal

pub loop-b-init : goal.loop-b-init
loop-b-init c = (sym (count_none _ 0), omega arith)

pub loop-b-preserved : goal.loop-b-preserved
loop-b-preserved c =
    let l = c.loop-b in
    let byte : Fits w8 (get_or c.args.map l.b-index 0) = search rules in
    (omega (arith, count_one_more c.args.map l.b-index byte.fits), omega (arith, ones-le 8 _ byte.fits))

pub returns : goal.returns
returns c =
    let l = c.loop-b in
    let all : 8 * l.b-index ≡ 64 = omega arith in
    rw count_record_bits (l.invariant.0 ∙ ap (count _ 0) all)
