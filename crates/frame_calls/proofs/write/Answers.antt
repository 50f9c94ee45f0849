-- `frame_calls::write` meets its contract: each return is by the first check that fails, and past the checks the frame is written.
use Rattle.checks.proofs.PassedOn.{refused_on}
use mathlib.Core.Path.{◌≡◌, sym, ap, ◌∙◌}
use native.Mathlib.Nat.{zero-add}
use native.Mathlib.Omega.{arith}
use lib.ListN.{length}
use Rattle.algebra.proofs.Answers.{guard_left, guard_taken}
use Rattle.checks.specs.InOrder.{AllHold}
use Rattle.checks.specs.Sizes.{frame_sizes}
use Rattle.checks.proofs.InOrder.{none_left, fails_here, given, ◌then◌, ◌and_then◌}
use Rattle.words.specs.Words.{Below}
use Rattle.frame.specs.Format.{longest}
use Rattle.frame.proofs.Lengths.{longest_frame}
use Rattle.frame.proofs.Calls.{write_no_sizes, write_refused, write_done}
use Rattle.frame_calls.proofs.write.Goals as goal
use Rattle.frame_calls.proofs.write.Goals.{Else-bytes-longest, Else-multipliers-n, Else-not-all_below, Else-not-all_below-2, Else-values-s, In_ok-frame_sizes}

-- what each check leaves
sized : (c : In_ok-frame_sizes) → let a = c.args in AllHold (frame_sizes a.p a.n a.s)
sized c = c.in_ok-frame_sizes.ensures

counted : (c : Else-multipliers-n) → let a = c.args in length a.multipliers.now ≡ a.n
counted c = c.if-multipliers-n.false

valued : (c : Else-values-s) → let a = c.args in length a.values.now ≡ a.s
valued c = c.if-values-s.false

room : (c : Else-bytes-longest) → let a = c.args in length a.bytes.now ≡ longest a.s
room c = c.if-bytes-longest.false ∙ c.longest.ensures

below : (c : Else-not-all_below) → let a = c.args in Below a.p a.multipliers.now
below c = guard_left c.all_below.ensures c.if-not-all_below.false-raw

values_below : (c : Else-not-all_below-2) → let a = c.args in Below a.p a.values.now
values_below c = guard_left c.all_below-2.ensures c.if-not-all_below-2.false-raw

pub returns-in_err-frame_sizes : goal.returns-in_err-frame_sizes
returns-in_err-frame_sizes c = rw (refused_on c.from_residual.result c.from_residual.ensures.1) (write_no_sizes _ _ _ _ _ _ (c.in_err-frame_sizes.ensures))

pub returns-then-multipliers-n : goal.returns-then-multipliers-n
returns-then-multipliers-n c = write_refused _ _ _ _ _ _ (sized (goal.at.returns-then-multipliers-n c).In_ok-frame_sizes) (fails_here c.if-multipliers-n.true)

pub returns-then-values-s : goal.returns-then-values-s
returns-then-values-s c = write_refused _ _ _ _ _ _ (sized (goal.at.returns-then-values-s c).In_ok-frame_sizes) (counted (goal.at.returns-then-values-s c).Else-multipliers-n then fails_here c.if-values-s.true)

pub longest-requires : goal.longest-requires
longest-requires c = (given (sized (goal.at.longest-requires c).In_ok-frame_sizes)).1.1.0.1

pub returns-then-bytes-longest : goal.returns-then-bytes-longest
returns-then-bytes-longest c = write_refused _ _ _ _ _ _ (sized (goal.at.returns-then-bytes-longest c).In_ok-frame_sizes) (counted (goal.at.returns-then-bytes-longest c).Else-multipliers-n then valued (goal.at.returns-then-bytes-longest c).Else-values-s then fails_here (λ r. c.if-bytes-longest.true (r ∙ sym c.longest.ensures)))

pub returns-then-not-all_below : goal.returns-then-not-all_below
returns-then-not-all_below c =
    let bad = guard_taken c.all_below.ensures c.if-not-all_below.true-raw in
    write_refused _ _ _ _ _ _ (sized (goal.at.returns-then-not-all_below c).In_ok-frame_sizes) (counted (goal.at.returns-then-not-all_below c).Else-multipliers-n then valued (goal.at.returns-then-not-all_below c).Else-values-s then room (goal.at.returns-then-not-all_below c).Else-bytes-longest then fails_here bad)

pub returns-then-not-all_below-2 : goal.returns-then-not-all_below-2
returns-then-not-all_below-2 c =
    let bad = guard_taken c.all_below-2.ensures c.if-not-all_below-2.true-raw in
    write_refused _ _ _ _ _ _ (sized (goal.at.returns-then-not-all_below-2 c).In_ok-frame_sizes) (counted (goal.at.returns-then-not-all_below-2 c).Else-multipliers-n then valued (goal.at.returns-then-not-all_below-2 c).Else-values-s then room (goal.at.returns-then-not-all_below-2 c).Else-bytes-longest then below (goal.at.returns-then-not-all_below-2 c).Else-not-all_below then fails_here bad)

pub write_frame-requires : goal.write_frame-requires
write_frame-requires c =
    let hs = given (sized (goal.at.write_frame-requires c).In_ok-frame_sizes) in
    (hs.1.0.0, hs.1.0.1, counted (goal.at.write_frame-requires c).Else-multipliers-n, omega (arith, valued (goal.at.write_frame-requires c).Else-values-s, hs.1.1.0.1), room (goal.at.write_frame-requires c).Else-bytes-longest ∙ ap longest (sym (valued (goal.at.write_frame-requires c).Else-values-s)))

pub overflow_cast-result : goal.overflow_cast-result
unfolding longest
overflow_cast-result c =
    let a = c.args in
    let hs = given (sized (goal.at.overflow_cast-result c).In_ok-frame_sizes) in
    omega (
      arith,
      c.write_frame.ensures.end,
      longest_frame a.p a.n a.s a.multipliers.now a.values.now (counted (goal.at.overflow_cast-result c).Else-multipliers-n) (valued (goal.at.overflow_cast-result c).Else-values-s) hs.1.0.1,
      hs.1.1.0.1,
    )

pub returns : goal.returns
returns c =
    rw (c.write_frame.ensures.end, c.write_frame.ensures.memory, zero-add)
    (write_done _ _ _ _ _ _ (sized (goal.at.returns c).In_ok-frame_sizes)
    (counted (goal.at.returns c).Else-multipliers-n and_then valued (goal.at.returns c).Else-values-s and_then room (goal.at.returns c).Else-bytes-longest and_then below (goal.at.returns c).Else-not-all_below and_then values_below (goal.at.returns c).Else-not-all_below-2 and_then none_left))
