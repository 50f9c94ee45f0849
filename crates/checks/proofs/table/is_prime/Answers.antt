-- `checks::table::is_prime` meets its contract. The loop's invariant: no number below the start of the next part divides p.
use mathlib.Core.Path.{◌≡◌, subst}
use Prim.Native.Nat.{ℕ, ◌<◌}
use native.Mathlib.Numerals.{add-one}
use native.Mathlib.Omega.{arith}
use lib.ListN.{get_or}
use Rattle.algebra.proofs.Answers.{tells_yes, tells_no}
use Rattle.checks.specs.Prime.{NoneBelow}
use Rattle.checks.specs.Inverses.{start}
use Rattle.checks.proofs.Trial.{undivided, past_root}
use Rattle.checks.proofs.Covered.{part_first, part_rises, part_passed, part_strikes}
use Rattle.checks.proofs.table.is_prime.Goals as goal

pub loop-part-init : goal.loop-part-init
unfolding start
loop-part-init c = (omega arith, c.requires.none)

pub nonzero_div-most : goal.nonzero_div-most
nonzero_div-most c = omega (arith, part_first _ _ c.inverses-words.ensures)

pub returns-then-most-start : goal.returns-then-most-start
returns-then-most-start c =
    let first = part_first _ _ c.inverses-words.ensures in
    tells_yes
    (undivided (get_or c.inverses-words.result 0 0) _ (omega arith) (omega arith) (omega arith) (omega arith)
    (rw first c.loop-part.invariant.1))

pub returns-then-strikes : goal.returns-then-strikes
returns-then-strikes c =
    let words = c.inverses-words in
    let above : 1 < get_or words.result 0 0 = omega (arith, part_first _ _ words.ensures) in
    tells_no (part_strikes _ _ _ (omega arith) (omega arith) above c.if-most-start.false words.ensures (c.strikes.ensures.0 c.if-strikes.true))

pub loop-part-preserved : goal.loop-part-preserved
loop-part-preserved c =
    let words = c.inverses-words in
    let not = c.strikes.ensures.1 c.if-strikes.false in
    rw add-one (
      omega (arith, part_rises _ _ words.ensures),
      part_passed _ _ _ (omega arith) (omega arith) c.loop-part.invariant.0 words.ensures not c.loop-part.invariant.1,
    )

-- the table leads past the root of every modulus
pub returns : goal.returns
unfolding start
returns c =
    let l = c.loop-part in
    let all : l.part ≡ 128 = omega arith in
    let low : NoneBelow 46507 c.args.p = subst (λ (k : ℕ). NoneBelow (start k) c.args.p) all l.invariant.1 in
    tells_yes (undivided 46507 _ (omega arith) (past_root 46507 _ (omega arith) (omega arith)) (omega arith) (omega arith) low)
