-- `frame_bytes::writer::put_multipliers` meets its contract. The loop's invariant: the first j multipliers are put, and `at` is the
-- place behind them.
use mathlib.Core.Path.{sym, ◌∙◌}
use Prim.Native.Nat.{◌≤◌, ◌+◌}
use native.Mathlib.Omega.{arith}
use lib.ListN.{length}
use Rattle.frame_bytes.proofs.WriteNumbers.{packing_none, packing_room, packing_skip, packing_more}
use Rattle.frame_bytes.proofs.WriteMap.{stands_of, absent_of}
use Rattle.frame_bytes.proofs.writer.put_multipliers.Goals as goal
use Rattle.frame_bytes.proofs.writer.put_multipliers.Goals.{In-loop-j, else-stands, then-stands}

pub loop-j-init : goal.loop-j-init
loop-j-init c = packing_none c.args.w c.args.from c.args.multipliers.now c.args.bytes.now c.requires.2

-- in a turn there is room for one number more
room : (c : In-loop-j) → c.loop-j.at + c.args.w ≤ length c.loop-j.bytes
room c =
    let l = c.loop-j in
    packing_room c.args.w c.args.from c.args.multipliers.now c.args.bytes.now c.requires.2 l.j l.at l.bytes (omega arith) l.invariant

pub put_number-requires : goal.put_number-requires
put_number-requires c = room (goal.at.put_number-requires c).In-loop-j

pub overflow_add-at : goal.overflow_add-at
overflow_add-at c = omega (arith, room (goal.at.overflow_add-at c).In-loop-j)

pub loop-j-preserved : goal.loop-j-preserved
loop-j-preserved c =
    let a = c.args in
    let l = c.loop-j in
    let bit = rw c.requires.1 at c.stands.ensures in
    elim c.if-stands.branch [
      | then-stands w ↦ rw (w.bytes-is ∙ w.put_number.ensures, w.at-is) (packing_more a.w a.from a.multipliers.now a.bytes.now c.requires.2 l.j l.at l.bytes (omega arith)
          (stands_of a.multipliers.now l.j (omega arith) (omega arith) (sym bit ∙ w.if-stands.true)) l.invariant)
      | else-stands w ↦ rw (w.bytes-is, w.at-is) (packing_skip a.w a.from a.multipliers.now a.bytes.now c.requires.2 l.j l.at l.bytes (omega arith)
          (absent_of a.multipliers.now l.j (omega arith) (omega arith) (sym bit ∙ w.if-stands.false)) l.invariant)
    ]
