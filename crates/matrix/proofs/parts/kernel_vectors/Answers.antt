-- `matrix::parts::kernel_vectors` meets its contract. The loop's invariant: k vectors fill the front of the basis, those of the
-- columns passed that have no pivot, for every D and A that the rows belong to.
use mathlib.Core.Path.{◌≡◌, sym, ap, ◌∙◌}
use Prim.Native.Nat.{◌+◌, ◌*◌, ◌≤◌}
use native.Mathlib.Omega.{arith}
use lib.ListN.{length}
use Rattle.checks.specs.Largest.{largest}
use Rattle.algebra.specs.Quasiinverse.{count}
use Rattle.field.specs.Written.{marked}
use Rattle.field.proofs.Written.{marked_no, marked_yes}
use Rattle.matrix.proofs.Memory.{table_most}
use Rattle.matrix.proofs.Vectors.{filled_none, filled_skip, filled_vector, filled_room, filled_next, filled_long, filled_all}
use Rattle.matrix.proofs.parts.kernel_vectors.Goals as goal
use Rattle.matrix.proofs.parts.kernel_vectors.Goals.{At-loop-c, In-loop-c}
use Rattle.matrix.proofs.parts.kernel_vectors.Goals.{else-at-c-eq0, then-at-c-eq0}

pub loop-c-init : goal.loop-c-init
loop-c-init c h = filled_none _ _ _ _ _ _

square : (c : At-loop-c) → (c.args.n) * (c.args.n) ≤ largest * largest
square c = table_most (c.args.n) (c.args.n) c.requires.0.n_most c.requires.0.n_most

-- the basis keeps its length, has room for the k vectors and, in a turn, for the next one
long : (c : At-loop-c) → length c.loop-c.basis ≡ (c.args.n) * (c.args.n)
long c = filled_long _ _ _ _ _ (c.loop-c.invariant c.requires.0) c.requires.1 c.loop-c.auto.c-end

room : (c : At-loop-c) → c.loop-c.k * (c.args.n) ≤ (c.args.n) * (c.args.n)
room c = filled_room _ _ _ _ _ (c.loop-c.invariant c.requires.0) c.loop-c.auto.c-end

next : (c : In-loop-c) → c.loop-c.k * (c.args.n) + (c.args.n) ≤ (c.args.n) * (c.args.n)
next c = filled_next _ _ _ _ _ (c.loop-c.invariant c.requires.0) c.loop-c-test.true

pub overflow_mul-from : goal.overflow_mul-from
overflow_mul-from c = omega (arith, next (goal.at.overflow_mul-from c).In-loop-c, square (goal.at.overflow_mul-from c).At-loop-c)

pub overflow_add-end : goal.overflow_add-end
overflow_add-end c = omega (arith, next (goal.at.overflow_add-end c).In-loop-c, square (goal.at.overflow_add-end c).At-loop-c)

pub offset_bounds-basis-from : goal.offset_bounds-basis-from
offset_bounds-basis-from c = omega (arith, next (goal.at.offset_bounds-basis-from c).In-loop-c, square (goal.at.offset_bounds-basis-from c).At-loop-c)

pub slice_bounds-kernel_vector-end : goal.slice_bounds-kernel_vector-end
slice_bounds-kernel_vector-end c = omega (arith, next (goal.at.slice_bounds-kernel_vector-end c).In-loop-c, long (goal.at.slice_bounds-kernel_vector-end c).At-loop-c)

pub loop-c-preserved : goal.loop-c-preserved
loop-c-preserved c h =
    let l = c.loop-c in
    elim c.if-at-c-eq0.branch [
      | then-at-c-eq0 w ↦ rw (w.basis-is, w.k-is) (filled_vector _ _ _ _ _ (l.invariant h) _ (marked_no _ _ w.if-at-c-eq0.true) (w.kernel_vector.ensures h))
      | else-at-c-eq0 w ↦ rw (w.basis-is, w.k-is) (filled_skip _ _ _ _ _ (l.invariant h) (marked_yes _ _ w.if-at-c-eq0.false))
    ]

pub overflow_mul-rest : goal.overflow_mul-rest
overflow_mul-rest c = omega (arith, room (goal.at.overflow_mul-rest c).At-loop-c, square (goal.at.overflow_mul-rest c).At-loop-c)

pub offset_bounds-basis-rest : goal.offset_bounds-basis-rest
offset_bounds-basis-rest c = omega (arith, room (goal.at.offset_bounds-basis-rest c).At-loop-c, square (goal.at.offset_bounds-basis-rest c).At-loop-c)

pub slice_bounds-clear-count : goal.slice_bounds-clear-count
slice_bounds-clear-count c = omega (arith, room (goal.at.slice_bounds-clear-count c).At-loop-c, long (goal.at.slice_bounds-clear-count c).At-loop-c)

pub slice_bounds-clear-start : goal.slice_bounds-clear-start
slice_bounds-clear-start c = omega (arith, room (goal.at.slice_bounds-clear-start c).At-loop-c, long (goal.at.slice_bounds-clear-start c).At-loop-c)

pub overflow_cast-result : goal.overflow_cast-result
overflow_cast-result c = omega (arith, (c.loop-c.invariant c.requires.0).counted, c.requires.0.n_most)

pub returns : goal.returns
returns c h =
    let l = c.loop-c in
    let z = c.clear in
    let e : l.c ≡ c.args.n = omega arith in
    record {
      filled = filled_all _ _ _ _ _ z.new.xs (l.invariant h) e c.requires.1 z.ensures.0 z.ensures.1;
      many = ap (λ i. l.k + count i (marked c.args.at.now)) (sym e) ∙ (l.invariant h).counted ∙ e;
    }
