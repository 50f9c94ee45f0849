-- `clash::select` meets its contract: the position that was found is the definition's, and so are the marks.
use mathlib.Core.Path.{◌≡◌, sym, ap, ◌∙◌}
use Prim.Native.Nat.{ℕ, ◌<◌}
use native.Mathlib.Omega.{arith}
use lib.ListN.{length, take, set, length-set}
use lib.Seq.{length-take-le}
use Rattle.algebra.specs.Quasiinverse.{count}
use Rattle.checks.specs.Told.{results}
use Rattle.checks.specs.Outcome.{outcome}
use Rattle.words.proofs.Zeros.{zeros_written}
use Rattle.field.specs.Written.{marks_of, marked}
use Rattle.matrix_echelon.proofs.Grids.{room_fresh}
use Rattle.clash.proofs.Clashes.{contradiction_found}
use Rattle.clash.proofs.Rows.{put_whole}
use Rattle.clash.proofs.Turned.{none_selected, some_selected}
use Rattle.clash.proofs.select.Goals as goal
use Rattle.clash.proofs.select.Goals.{After-combination-by, After-put, Else-y-m}

pub first_contradiction-y-requires : goal.first_contradiction-y-requires
first_contradiction-y-requires c =
    let k = c.requires.0 in
    (k, room_fresh _ _ k.is_modulus c.filled-e.ensures c.filled-pivots.ensures)

pub returns-then-y-m : goal.returns-then-y-m
returns-then-y-m c ok =
    ap (outcome (results 0)) (zeros_written _ _ (c.clear.ensures.0 ∙ c.requires.1) c.clear.ensures.1)
    ∙ none_selected _ ok _ _ _ _ _ (c.first_contradiction-y.ensures.0 ok) c.if-y-m.true

row : (c : Else-y-m) → c.first_contradiction-y.result < c.args.m
row c =
    let a = c.args in
    let ok = c.requires.0.is_modulus in
    omega (
      arith,
      c.first_contradiction-y.ensures.0 ok,
      (contradiction_found a.p ok a.m a.n a.s a.log.now).within,
    )

pub combination-by-requires : goal.combination-by-requires
combination-by-requires c = (c.requires.0, row (goal.at.combination-by-requires c).Else-y-m, c.first_contradiction-y.ensures.1)

many : (c : After-combination-by) → length (take c.args.m c.combination-by.result) ≡ c.args.m
many c = length-take-le _ _ (omega (arith, c.combination-by.ensures.0, c.requires.0.m_most))

pub slice_bounds-by-end : goal.slice_bounds-by-end
slice_bounds-by-end c = omega (arith, c.combination-by.ensures.0, c.requires.0.m_most)

pub slice_bounds-put-end : goal.slice_bounds-put-end
slice_bounds-put-end c = sym (many (goal.at.slice_bounds-put-end c).After-combination-by)

pub put-requires : goal.put-requires
put-requires c = omega (arith, many (goal.at.put-requires c).After-combination-by, c.requires.1)

whole : (c : After-put) → (many : length (take c.args.m c.combination-by.result) ≡ c.args.m) → (c.put.new.out) ≡ (take c.args.m c.combination-by.result)
whole c many = put_whole (take c.args.m c.combination-by.result) c.args.marks.now (c.put.new.out) (many ∙ sym c.requires.1) c.put.ensures

long : (c : After-put) → (whole : (c.put.new.out) ≡ (take c.args.m c.combination-by.result)) → (many : length (take c.args.m c.combination-by.result) ≡ c.args.m) → length (c.put.new.out) ≡ c.args.m
long c whole many = ap length (whole) ∙ many

pub offset_bounds-marks-y : goal.offset_bounds-marks-y
offset_bounds-marks-y c = omega (arith, row (goal.at.offset_bounds-marks-y c).Else-y-m, c.requires.0.m_most)

pub bounds-marks-y : goal.bounds-marks-y
bounds-marks-y c = omega (arith, row (goal.at.bounds-marks-y c).Else-y-m, long (goal.at.bounds-marks-y c).After-put (whole (goal.at.bounds-marks-y c).After-put (many (goal.at.bounds-marks-y c).After-combination-by)) (many (goal.at.bounds-marks-y c).After-combination-by))

pub mark_nonzero-requires : goal.mark_nonzero-requires
mark_nonzero-requires c = rw (length-set, long (goal.at.mark_nonzero-requires c).After-put (whole (goal.at.mark_nonzero-requires c).After-put (many (goal.at.mark_nonzero-requires c).After-combination-by)) (many (goal.at.mark_nonzero-requires c).After-combination-by)) c.requires.0.m_most

pub shape_of-marks : goal.shape_of-marks
shape_of-marks c = c.mark_nonzero.auto.u ∙ length-set {A = ℕ} (c.put.new.out) _ _ ∙ long (goal.at.shape_of-marks c).After-put (whole (goal.at.shape_of-marks c).After-put (many (goal.at.shape_of-marks c).After-combination-by)) (many (goal.at.shape_of-marks c).After-combination-by) ∙ sym c.requires.1

pub returns : goal.returns
returns c ok =
    let size : length (set (c.put.new.out) c.first_contradiction-y.result 1) ≡ c.args.m = length-set (c.put.new.out) c.first_contradiction-y.result 1 ∙ long (goal.at.returns c).After-put (whole (goal.at.returns c).After-put (many (goal.at.returns c).After-combination-by)) (many (goal.at.returns c).After-combination-by) in
    let n = c.mark_nonzero in
    some_selected _ ok _ _ _ _ _ (c.first_contradiction-y.ensures.0 ok) (row (goal.at.returns c).Else-y-m) (c.put.new.out) (whole (goal.at.returns c).After-put (many (goal.at.returns c).After-combination-by) ∙ c.combination-by.ensures.1 ok) _ _
    (n.ensures.0 ∙ ap (λ l. marks_of l (marked (set (c.put.new.out) c.first_contradiction-y.result 1))) size) (n.ensures.1 ∙ ap (λ l. count l (marked (set (c.put.new.out) c.first_contradiction-y.result 1))) size)
