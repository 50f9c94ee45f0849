-- `worked::add_multiple` meets its contract. The loop's invariant: the multiple has been added at the first j places, where those in
-- front of `from` count as done, since x is 0 there; the other numbers are as they were.
use mathlib.Core.Path.{◌≡◌}
use Prim.Native.Nat.{◌+◌}
use native.Mathlib.Omega.{arith}
use lib.ListN.{length}
use Rattle.matrix_echelon.proofs.WorkedMultiples.{sum_at_lem, added_at, added_front, spanned_more}
use Rattle.matrix_echelon.proofs.worked.add_multiple.Goals as goal

pub loop-j-init : goal.loop-j-init
loop-j-init c = added_front c.requires

pub loop-j-preserved : goal.loop-j-preserved
loop-j-preserved c =
    let l = c.loop-j in
    let old = l.invariant.behind (c.args.at + l.j) (omega arith) in
    spanned_more l.invariant (omega (arith, c.requires.inside))
    (sum_at_lem c.args.p c.args.c c.args.x.now c.args.at c.args.e.now l.j _ old)

pub returns : goal.returns
unfolding added_at
returns c =
    let l = c.loop-j in
    let e : l.j ≡ length c.args.x.now = omega (arith, c.requires.leading.within) in
    let w = rw e at l.invariant in
    record { same_length = w.long; each = w.passed; before = w.front; behind = w.behind }
