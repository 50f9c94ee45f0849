-- `codec::number_at` meets its contract. The loop's invariant: x is what the bytes passed make.
use mathlib.Core.Path.{◌≡◌}
use Prim.Native.Nat.{◌+◌, ◌-◌, ◌<◌}
use native.Mathlib.Omega.{arith}
use lib.ListN.{get_or, drop, length-drop}
use lib.Seq.{get_or-take, get_or-drop}
use Rattle.codec.specs.BigEndian.{number_at}
use Rattle.codec.proofs.BigEndian.{read_none, read_fits, read_more}
use Rattle.codec.proofs.number_at.Goals as goal

pub loop-b-init : goal.loop-b-init
loop-b-init c = read_none _

-- before the last turn there is room for one byte more
pub overflow_mul-x : goal.overflow_mul-x
overflow_mul-x c = let l = c.loop-b in omega (arith, read_fits _ l.b-index l.x l.invariant (omega arith))

pub loop-b-preserved : goal.loop-b-preserved
loop-b-preserved c =
    let a = c.args in
    let l = c.loop-b in
    let byte : get_or (drop a.at a.bytes.now) l.b-index 0 < 256 = rw get_or-drop (omega (arith, c.type_inv.bytes (a.at + l.b-index))) in
    rw (get_or-take (a.at + a.w - a.at) (drop a.at a.bytes.now) l.b-index 0 (omega arith))
    (read_more _ l.b-index l.x l.invariant (rw length-drop (omega arith)) byte)

pub returns : goal.returns
unfolding number_at
returns c =
    let l = c.loop-b in
    let e : l.b-index ≡ c.args.w = omega arith in
    (rw e at l.invariant.small, rw e at l.invariant.made)
