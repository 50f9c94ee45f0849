-- `signed::in_range` meets its contract: a record that the first test finds is below -low, and any other lies in the range
-- exactly if the second test passes.
use Prim.Native.Nat.{◌-◌}
use native.Mathlib.Omega.{arith}
use borrow.Author.Rules.{rules}
use lib.Signed.{le_z_yes}
use mir.Syntax.{w32}
use mir.ValLaws.{to_z-of_z}
use Rattle.algebra.proofs.Answers.{tells_no}
use Rattle.signed.proofs.Words.{cast_word, negated_fits, below_negated, from_negated, tells_test}
use Rattle.signed.proofs.in_range.Goals as goal

pub overflow_sub-low : goal.overflow_sub-low
overflow_sub-low c = negated_fits c.args.low (omega arith)

pub returns-then-record-low : goal.returns-then-record-low
returns-then-record-low c =
    let a = c.args in
    let z = a.«record» in
    tells_no (λ r. below_negated z a.low c.ranges.«record» (omega arith) c.if-record-low.true r.least)

pub returns : goal.returns
returns c =
    let a = c.args in
    let z = a.«record» in
    let f = c.ranges.«record» in
    rw (to_z-of_z w32 z f, cast_word (a.p - 1 - a.low) (omega arith))
    (tells_test (λ r. search rules)
    (λ t. record { least = from_negated z a.low f (omega arith) c.if-record-low.false; greatest = le_z_yes t }))
