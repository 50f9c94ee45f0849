-- `sheet_text::record_line` meets its contract: the position, the space, the number or the word, and the line feed, one behind the
-- other, make the line.
use Prim.Native.Nat.{◌+◌, ◌≤◌}
use native.Mathlib.Omega.{arith}
use lib.ListN.{length}
use mir.Syntax.{w32}
use mir.ValLaws.{to_z-of_z}
use Rattle.codec.proofs.Decimals.{digits_at_most}
use Rattle.codec.proofs.Placed.{put_then}
use Rattle.sheet_text.specs.Lines.{record_line, space, line_feed}
use Rattle.sheet_text.proofs.Records.{record_at_most}
use Rattle.sheet_text.proofs.record_line.Goals as goal
use Rattle.sheet_text.proofs.record_line.Goals.{After-put_bytes-text, After-put_decimal-gap, After-put_record-end}

-- how far the line has come behind the position, behind the space and behind the record, in a buffer that keeps its length
behind-position : (c : After-put_decimal-gap) → let at = c.args.at in
    (c.put_decimal-gap.result ≤ at + 2) × (at + 32 ≤ length c.put_decimal-gap.new.out)
behind-position c =
    let d = c.put_decimal-gap in
    omega (arith, d.ensures.end, d.auto.out, digits_at_most c.args.position 1 (omega arith))

behind-space : (c : After-put_bytes-text) → (behind-position : let at = c.args.at in
    (c.put_decimal-gap.result ≤ at + 2) × (at + 32 ≤ length c.put_decimal-gap.new.out)) → let at = c.args.at in
    (c.put_bytes-text.result ≤ at + 3) × (at + 32 ≤ length c.put_bytes-text.new.out)
behind-space c behind-position =
    let p = behind-position in
    let w = c.put_bytes-text in
    omega (arith, w.ensures.end, w.auto.out)

behind-record : (c : After-put_record-end) → (behind-space : let at = c.args.at in
    (c.put_bytes-text.result ≤ at + 3) × (at + 32 ≤ length c.put_bytes-text.new.out)) → let at = c.args.at in
    (c.put_record-end.result ≤ at + 14) × (at + 32 ≤ length c.put_record-end.new.out)
behind-record c behind-space =
    let p = behind-space in
    let r = c.put_record-end in
    let l = record_at_most c.args.mark c.args.number c.ranges.number in
    omega (arith, rw (to_z-of_z w32 c.args.number c.ranges.number) at r.ensures.end, r.auto.out)

pub put_decimal-gap-requires : goal.put_decimal-gap-requires
put_decimal-gap-requires c = omega (arith, digits_at_most c.args.position 1 (omega arith))

pub put_bytes-text-requires : goal.put_bytes-text-requires
put_bytes-text-requires c = omega (arith, behind-position (goal.at.put_bytes-text-requires c).After-put_decimal-gap)

pub put_record-end-requires : goal.put_record-end-requires
put_record-end-requires c = omega (arith, behind-space (goal.at.put_record-end-requires c).After-put_bytes-text (behind-position (goal.at.put_record-end-requires c).After-put_decimal-gap))

pub put_bytes-requires : goal.put_bytes-requires
put_bytes-requires c = omega (arith, behind-record (goal.at.put_bytes-requires c).After-put_record-end (behind-space (goal.at.put_bytes-requires c).After-put_bytes-text (behind-position (goal.at.put_bytes-requires c).After-put_decimal-gap)))

pub returns : goal.returns
unfolding record_line space line_feed
returns c =
    let inside : c.args.at ≤ length c.args.out.now = omega arith in
    let text = rw (to_z-of_z w32 c.args.number c.ranges.number) at c.put_record-end.ensures in
    let spaced = put_then inside c.put_decimal-gap.ensures c.put_bytes-text.ensures in
    let written = c.put_bytes.ensures in
    record {
      put = put_then inside (put_then inside spaced text) written;
      upper_bound = omega (arith, behind-record (goal.at.returns c).After-put_record-end (behind-space (goal.at.returns c).After-put_bytes-text (behind-position (goal.at.returns c).After-put_decimal-gap)), written.end);
    }
