-- `checks::table::strikes` meets its contract. The loop's invariant: no entry that was passed has a low product.
use mathlib.Core.Path.{◌≡◌, ap, ◌∙◌}
use Prim.Native.Nat.{◌+◌, ◌-◌, ◌*◌, ◌%◌}
use native.Mathlib.Omega.{arith}
use borrow.Author.Count.{below_more}
use lib.ListN.{get_or, drop}
use lib.Seq.{get_or-take, get_or-drop}
use Rattle.algebra.proofs.Answers.{tells_yes, tells_no}
use Rattle.checks.specs.Inverses.{word_base}
use Rattle.checks.proofs.table.strikes.Goals as goal
use Rattle.checks.proofs.table.strikes.Goals.{After-wrapped}

-- the product of a turn is that of the entry behind as many entries and the start
product : (c : After-wrapped) → c.wrapped.result ≡ c.args.p * get_or c.args.words.now (1 + c.loop-v.v-index) 0 % word_base
product c =
    let words = c.args.words.now in
    let i = c.loop-v.v-index in
    c.wrapped.ensures
    ∙ ap (λ v. c.args.p * v % word_base) (get_or-take 38 (drop 1 words) i 0 (omega arith) ∙ get_or-drop 1 words i 0)

pub returns-then-wrapped-most : goal.returns-then-wrapped-most
returns-then-wrapped-most c =
    let low = product (goal.at.returns-then-wrapped-most c).After-wrapped in
    tells_yes (record { place = 1 + c.loop-v.v-index; past_start = omega arith; inside = omega arith; low = omega arith })

pub loop-v-preserved : goal.loop-v-preserved
loop-v-preserved c =
    let high = product (goal.at.loop-v-preserved c).After-wrapped in
    below_more _ c.loop-v.v-index c.loop-v.invariant (omega arith)

pub returns : goal.returns
returns c =
    tells_no
    (λ s. let place : 1 + (s.place - 1) ≡ s.place = omega (arith, s.past_start) in
    omega (arith, s.low, rw place at (c.loop-v.invariant (s.place - 1) (omega (arith, s.inside)))))
