-- `frame_calls::seal` meets its contract: each return is by the first check that fails, and past the checks the values are written.
use Rattle.checks.proofs.PassedOn.{refused_on}
use mathlib.Core.Path.{◌≡◌, sym, ap, ap₂, ◌∙◌}
use Prim.Native.Nat.{◌*◌, ◌<◌}
use native.Mathlib.Omega.{arith}
use lib.ListN.{length}
use Rattle.algebra.proofs.Answers.{guard_left, guard_taken}
use Rattle.checks.specs.Told.{results}
use Rattle.checks.specs.Outcome.{outcome}
use Rattle.checks.specs.InOrder.{AllHold}
use Rattle.checks.specs.Sizes.{frame_sizes}
use Rattle.checks.proofs.InOrder.{none_left, fails_here, given, ◌then◌, ◌and_then◌}
use Rattle.words.specs.Words.{Below}
use Rattle.frame.specs.Sealing.{Records, sealed}
use Rattle.frame.proofs.SealSums.{few_words}
use Rattle.frame.proofs.Calls.{seal_no_sizes, seal_refused, seal_done}
use Rattle.frame_calls.proofs.seal.Goals as goal
use Rattle.frame_calls.proofs.seal.Goals.{Else-multipliers-n, Else-not-all_below, Else-not-all_records, Else-p-low, Else-records-n, Else-values-s, In_ok-frame_sizes}

-- what each check leaves
sized : (c : In_ok-frame_sizes) → let a = c.args in AllHold (frame_sizes a.p a.n a.s)
sized c = c.in_ok-frame_sizes.ensures

recorded : (c : Else-records-n) → let a = c.args in length a.records.now ≡ a.n * a.s
recorded c = c.if-records-n.false

counted : (c : Else-multipliers-n) → let a = c.args in length a.multipliers.now ≡ a.n
counted c = c.if-multipliers-n.false

valued : (c : Else-values-s) → let a = c.args in length a.values.now ≡ a.s
valued c = c.if-values-s.false

below : (c : Else-not-all_below) → let a = c.args in Below a.p a.multipliers.now
below c = guard_left c.all_below.ensures c.if-not-all_below.false-raw

low_below : (c : Else-p-low) → let a = c.args in a.low < a.p
low_below c = omega arith

in_range : (c : Else-not-all_records) → let a = c.args in
    Records a.p a.low a.records.now
in_range c = guard_left c.all_records.ensures c.if-not-all_records.false-raw

pub returns-in_err-frame_sizes : goal.returns-in_err-frame_sizes
returns-in_err-frame_sizes c = rw (refused_on c.from_residual.result c.from_residual.ensures.1) (seal_no_sizes _ _ _ _ _ _ _ (c.in_err-frame_sizes.ensures))

pub overflow_mul-n : goal.overflow_mul-n
overflow_mul-n c =
    let a = c.args in
    let hs = given (sized (goal.at.overflow_mul-n c).In_ok-frame_sizes) in
    omega (arith, few_words a.n a.s hs.1.0.1 hs.1.1.0.1)

pub returns-then-records-n : goal.returns-then-records-n
returns-then-records-n c = seal_refused _ _ _ _ _ _ _ (sized (goal.at.returns-then-records-n c).In_ok-frame_sizes) (fails_here c.if-records-n.true)

pub returns-then-multipliers-n : goal.returns-then-multipliers-n
returns-then-multipliers-n c = seal_refused _ _ _ _ _ _ _ (sized (goal.at.returns-then-multipliers-n c).In_ok-frame_sizes) (recorded (goal.at.returns-then-multipliers-n c).Else-records-n then fails_here c.if-multipliers-n.true)

pub returns-then-values-s : goal.returns-then-values-s
returns-then-values-s c = seal_refused _ _ _ _ _ _ _ (sized (goal.at.returns-then-values-s c).In_ok-frame_sizes) (recorded (goal.at.returns-then-values-s c).Else-records-n then counted (goal.at.returns-then-values-s c).Else-multipliers-n then fails_here c.if-values-s.true)

pub returns-then-not-all_below : goal.returns-then-not-all_below
returns-then-not-all_below c =
    let bad = guard_taken c.all_below.ensures c.if-not-all_below.true-raw in
    seal_refused _ _ _ _ _ _ _ (sized (goal.at.returns-then-not-all_below c).In_ok-frame_sizes) (recorded (goal.at.returns-then-not-all_below c).Else-records-n then counted (goal.at.returns-then-not-all_below c).Else-multipliers-n then valued (goal.at.returns-then-not-all_below c).Else-values-s then fails_here bad)

pub returns-then-p-low : goal.returns-then-p-low
returns-then-p-low c = seal_refused _ _ _ _ _ _ _ (sized (goal.at.returns-then-p-low c).In_ok-frame_sizes) (recorded (goal.at.returns-then-p-low c).Else-records-n then counted (goal.at.returns-then-p-low c).Else-multipliers-n then valued (goal.at.returns-then-p-low c).Else-values-s then below (goal.at.returns-then-p-low c).Else-not-all_below then fails_here (λ l. omega arith))

pub all_records-requires : goal.all_records-requires
all_records-requires c = (omega (arith, low_below (goal.at.all_records-requires c).Else-p-low), (given (sized (goal.at.all_records-requires c).In_ok-frame_sizes)).0.in_range)

pub returns-then-not-all_records : goal.returns-then-not-all_records
returns-then-not-all_records c =
    let bad = guard_taken c.all_records.ensures c.if-not-all_records.true-raw in
    seal_refused _ _ _ _ _ _ _ (sized (goal.at.returns-then-not-all_records c).In_ok-frame_sizes) (recorded (goal.at.returns-then-not-all_records c).Else-records-n then counted (goal.at.returns-then-not-all_records c).Else-multipliers-n then valued (goal.at.returns-then-not-all_records c).Else-values-s then below (goal.at.returns-then-not-all_records c).Else-not-all_below then low_below (goal.at.returns-then-not-all_records c).Else-p-low then fails_here bad)

pub put_values-requires : goal.put_values-requires
put_values-requires c =
    let hs = given (sized (goal.at.put_values-requires c).In_ok-frame_sizes) in (
      low_below (goal.at.put_values-requires c).Else-p-low,
      hs.0.in_range,
      in_range (goal.at.put_values-requires c).Else-not-all_records,
      omega (arith, valued (goal.at.put_values-requires c).Else-values-s, hs.1.1.0.1),
      omega (arith, counted (goal.at.put_values-requires c).Else-multipliers-n, hs.1.0.1),
      recorded (goal.at.put_values-requires c).Else-records-n ∙ ap₂ (λ m t. m * t) (sym (counted (goal.at.put_values-requires c).Else-multipliers-n)) (sym (valued (goal.at.put_values-requires c).Else-values-s)),
    )

pub returns : goal.returns
returns c =
    let a = c.args in
    ap (outcome (results a.s))
    (c.put_values.ensures ∙ ap₂ (λ m t. sealed a.p m t a.records.now a.multipliers.now) (counted (goal.at.returns c).Else-multipliers-n) (valued (goal.at.returns c).Else-values-s))
    ∙ seal_done _ _ _ _ _ _ _ (sized (goal.at.returns c).In_ok-frame_sizes)
    (recorded (goal.at.returns c).Else-records-n and_then counted (goal.at.returns c).Else-multipliers-n and_then valued (goal.at.returns c).Else-values-s and_then below (goal.at.returns c).Else-not-all_below and_then low_below (goal.at.returns c).Else-p-low and_then in_range (goal.at.returns c).Else-not-all_records and_then none_left)
