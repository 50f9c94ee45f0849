-- `matrix_echelon::group::row_limbs` meets its contract: the numbers of the table stay while the carried ones are written behind them.
use mathlib.Core.Path.{◌≡◌, ◌∙◌}
use mathlib.Core.List.{List}
use Prim.Native.Nat.{ℕ, ◌+◌, ◌-◌, ◌<◌}
use native.Mathlib.Decide.{dec_lt}
use native.Mathlib.Omega.{arith}
use lib.ListN.{get_or}
use Rattle.field.specs.Limbs.{limb_base}
use Rattle.matrix_mul.specs.declared.limbs.Limbs.{Limbs}
use Rattle.matrix_echelon.specs.declared.Grid.{Grid}
use Rattle.matrix_echelon.specs.Group.{NumbersRead, CarriedRead, RowRead}
use Rattle.matrix_echelon.proofs.group.row_limbs.Goals as goal

row_read : {g : Grid} {i : ℕ} {a w : List ℕ} {step carried : ℕ} {before s s' : Limbs} → NumbersRead g i a before s
    → CarriedRead g.columns i w step carried s s' → RowRead g i a w step carried before s'
row_read {g} {carried = carried} {s' = s'} t c =
    record {
      each = λ j h. c.front j h ∙ t.each j h;
      behind = c.each;
      small = λ j h. small j h (dec_lt j g.columns);
      high = c.high ∙ t.high;
    }
  where
    small : (j : ℕ) → j < g.columns + carried → Dec (j < g.columns) → get_or s'.lo j 0 < limb_base
    small j h (yes b) = rw (c.front j b) (t.small j b)
    small j h (no b) =
        let place : j ≡ g.columns + (j - g.columns) = omega arith in
        rw place (c.small (j - g.columns) (omega arith))

pub returns : goal.returns
returns c = row_read c.table_limbs.ensures c.carried_limbs.ensures
