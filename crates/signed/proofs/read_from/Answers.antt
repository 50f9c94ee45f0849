-- `signed::read_from` meets its contract: below the bound the answer is v itself, from there on the negation of p - v.
use mathlib.Core.Path.{sym, ◌∙◌}
use Prim.Native.Nat.{◌-◌}
use native.Mathlib.Omega.{arith}
use Rattle.signed.proofs.Readings.{read_up, read_down}
use Rattle.signed.proofs.Words.{cast_word, negated_fits, negated_word}
use Rattle.signed.proofs.read_from.Goals as goal

pub overflow_sub-result-else-v-p : goal.overflow_sub-result-else-v-p
overflow_sub-result-else-v-p c = let a = c.args in negated_fits (a.p - a.v) (omega arith)

pub returns-then-v-p : goal.returns-then-v-p
returns-then-v-p c = let a = c.args in cast_word a.v (omega arith) ∙ sym (read_up a.p a.low a.v (omega arith))

pub returns-else-v-p : goal.returns-else-v-p
returns-else-v-p c =
    let a = c.args in
    negated_word (a.p - a.v) (omega arith) ∙ sym (read_down a.p a.low a.v (omega arith) (omega arith))
