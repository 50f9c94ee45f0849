-- `sheet_text::word_line` meets its contract: the word, the digits behind it, and the line feed behind those make the line.
use native.Mathlib.Omega.{arith}
use Prim.Native.Nat.{◌+◌, ◌≤◌}
use lib.ListN.{length}
use Rattle.codec.proofs.Decimals.{digits_at_most}
use Rattle.codec.proofs.Placed.{put_then}
use Rattle.sheet_text.specs.Lines.{word_line, line_feed}
use Rattle.sheet_text.proofs.word_line.Goals as goal
use Rattle.sheet_text.proofs.word_line.Goals.{After-put_bytes-number, After-put_decimal-end}

-- how far the line has come behind the word and behind the digits, in a buffer that keeps its length
behind-word : (c : After-put_bytes-number) → let at = c.args.at in
    (c.put_bytes-number.result ≤ at + 16) × (at + 32 ≤ length c.put_bytes-number.new.out)
behind-word c = let w = c.put_bytes-number in omega (arith, w.ensures.end, w.auto.out)

behind-digits : (c : After-put_decimal-end) → (behind-word : let at = c.args.at in
    (c.put_bytes-number.result ≤ at + 16) × (at + 32 ≤ length c.put_bytes-number.new.out)) → let at = c.args.at in
    (c.put_decimal-end.result ≤ at + 26) × (at + 32 ≤ length c.put_decimal-end.new.out)
behind-digits c behind-word =
    let n = c.args.n in
    let p = behind-word in
    let d = c.put_decimal-end in
    omega (arith, d.ensures.end, d.auto.out, digits_at_most n 9 (omega arith))

pub put_decimal-end-requires : goal.put_decimal-end-requires
put_decimal-end-requires c =
    let n = c.args.n in
    omega (arith, behind-word (goal.at.put_decimal-end-requires c).After-put_bytes-number, digits_at_most n 9 (omega arith))

pub put_bytes-requires : goal.put_bytes-requires
put_bytes-requires c = omega (arith, behind-digits (goal.at.put_bytes-requires c).After-put_decimal-end (behind-word (goal.at.put_bytes-requires c).After-put_bytes-number))

pub returns : goal.returns
unfolding word_line line_feed
returns c =
    let inside : c.args.at ≤ length c.args.out.now = omega arith in
    put_then inside
    (put_then inside c.put_bytes-number.ensures c.put_decimal-end.ensures)
    c.put_bytes.ensures
