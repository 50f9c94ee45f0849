-- `matrix_mul::rows::add_four` meets its contract. The loop's invariant: the first j numbers have the four products added, the others are
-- as they were.
use mathlib.Core.Path.{ap}
use Prim.Native.Nat.{◌%◌}
use native.Mathlib.Omega.{arith}
use Rattle.std.proofs.Common.{rules}
use Rattle.field.specs.Residue.{reduce}
use Rattle.matrix_mul.specs.Rows.{summed_number}
use Rattle.field.proofs.Limbs.{word_fits}
use Rattle.words.proofs.Walk.{walked_more}
use Rattle.matrix_mul.proofs.rows.add_four.Goals as goal

pub overflow_add-x : goal.overflow_add-x
overflow_add-x c = word_fits _ _ c.four_at.ensures.1 (search rules)

pub loop-j-preserved : goal.loop-j-preserved
unfolding summed_number reduce
loop-j-preserved c =
    let l = c.loop-j in
    let e = c.four_at.ensures.0 in
    let old = l.invariant.left l.j (omega arith) in
    walked_more l.j _ _ _ _ l.invariant (omega arith) (ap (λ n. n % c.args.p) (omega (arith, e, old)))
