-- `matrix_echelon::group::clear_pivots` meets its contract. The loop's invariant: the row has multiples of the first g worked rows
-- added, and is 0 at their pivots; g is a multiple of four.
use mathlib.Core.Path.{◌≡◌, refl}
use Prim.Native.Nat.{ℕ, ◌+◌, ◌*◌, ◌/◌, ◌≤◌}
use mathlib.Core.List.{List}
use Rattle.algebra.specs.Echelon.{ClearedTo}
use Rattle.words.specs.Lengths.{longest_row}
use Rattle.matrix_echelon.specs.Group.{row_in, worked_rows, pivots_of, Clearable, PivotsCleared}
use native.Mathlib.Omega.{arith}
use Rattle.algebra.proofs.Cleared as cleared
use Rattle.field.specs.Residue.{residues}
use Rattle.field.proofs.Field.{residues_ring}
use Rattle.matrix_mul.specs.declared.limbs.Limbs.{Limbs}
use Rattle.matrix_echelon.proofs.Groups.{LimbsWithin, limbs_fresh, limbs_ready, limbs_more, four_inside, nothing_before, group_cleared}
use Rattle.matrix_echelon.proofs.Groups.{one_not_zero}
use Rattle.matrix_echelon.proofs.group.clear_pivots.Goals as goal
use Rattle.matrix_echelon.proofs.group.clear_pivots.Goals.{After-add_rows}

pub loop-g-init : goal.loop-g-init
loop-g-init c = (
  omega arith,
  omega arith,
  limbs_fresh c.requires,
  cleared.cleared_none (residues c.args.powers.p) (residues_ring c.args.powers.p (omega (arith, c.requires.proper)))
      (one_not_zero c.args.powers.p c.requires.proper) (λ j h. refl),
)

pub group-four-requires : goal.group-four-requires
group-four-requires c = (
  omega (arith, c.loop-g-test.true, c.requires.pivots_in.few),
  limbs_ready (omega (arith, c.loop-g-test.true, c.requires.pivots_in.few)) c.requires.pivots_in.narrow c.loop-g.invariant.2,
)

pub add_rows-requires : goal.add_rows-requires
add_rows-requires c = (
  limbs_ready (omega (arith, c.loop-g-test.true, c.requires.pivots_in.few)) c.requires.pivots_in.narrow c.loop-g.invariant.2,
  four_inside c.args.powers.p c.args.e.now _ c.args.powers.positive c.args.powers.in_range c.requires.room c.group-four.ensures,
  nothing_before c.args.powers.p c.args.e.now _ c.args.powers.positive c.args.powers.in_range c.requires.room c.group-four.ensures
      c.least-from.ensures.within c.least-from.ensures.none c.requires.leading,
)

-- one group more
turn : (c : After-add_rows) →
    let a = c.args in
    let l = c.loop-g in
    LimbsWithin (l.g / 4 + 1 + 1) a.width c.add_rows.new.self
    × ClearedTo (residues a.powers.p) (4 * (l.g / 4 + 1)) 0 a.width (λ i. row_in a.powers.p a.limbs.now) a.rank
    (worked_rows a.powers.p a.e.now a.width) (pivots_of a.pivots.now) (row_in a.powers.p c.add_rows.new.self)
turn c =
    let a = c.args in
    let l = c.loop-g in (
      limbs_more a.powers.p a.e.now _ a.powers.positive a.powers.in_range c.requires.room c.group-four.ensures l.invariant.2
          c.add_rows.ensures,
      group_cleared a.powers.p a.e.now _ a.powers.positive a.powers.in_range c.requires.room c.group-four.ensures c.requires.proper
          (l.g / 4) l.invariant.0 c.requires.cleared l.invariant.3 c.add_rows.ensures,
    )

pub loop-g-preserved : goal.loop-g-preserved
loop-g-preserved c =
    let l = c.loop-g in
    let more : (l.g + 4) / 4 ≡ l.g / 4 + 1 = omega (arith, l.invariant.0) in
    let t = turn (goal.at.loop-g-preserved c).After-add_rows in
    rw more (omega (arith, l.invariant.0), omega arith, t.0, t.1)

-- all rows are added, in no turn or in the last one
all-cleared : {p width r n : ℕ} {e pivots : List ℕ} {s s' : Limbs} → Clearable p width r e pivots s → n ≤ longest_row → r ≤ 4 * n
    → LimbsWithin (n + 1) width s'
    → ClearedTo (residues p) (4 * n) 0 width (λ i. row_in p s) r (worked_rows p e width) (pivots_of pivots) (row_in p s')
    → PivotsCleared p width r e pivots s s'
all-cleared {p} can few all limbs done =
    record {
      cleared =
          cleared.cleared_all (residues p) (residues_ring p (omega (arith, can.proper))) (one_not_zero p can.proper) all done;
      ready = limbs_ready (omega arith) can.pivots_in.narrow limbs;
    }

pub returns : goal.returns
returns c =
    let l = c.loop-g in
    all-cleared c.requires (omega (arith, c.requires.pivots_in.few, l.invariant.1)) (omega (arith, c.loop-g-test.false, l.invariant.0)) l.invariant.2 l.invariant.3

pub returns-2 : goal.returns-2
returns-2 c =
    let l = c.loop-g in
    let t = turn (goal.at.returns-2 c).After-add_rows in
    all-cleared c.requires (omega (arith, c.requires.pivots_in.few, l.invariant.1)) (omega (arith, l.invariant.0)) t.0 t.1
