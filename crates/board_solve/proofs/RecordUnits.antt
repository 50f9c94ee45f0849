-- The numbers of a unit row, and that a row of numbers is the unit row exactly if their residues are.
use mathlib.Core.Path.{◌≡◌, refl, sym, ap, ◌∙◌}
use mathlib.Core.Bool.{Bool, true, false}
use Prim.Native.Nat.{ℕ, ◌<◌}
use native.Mathlib.Omega.{arith}
use lib.Dec.{eqb}
use borrow.Author.Tests.{eq-eqb, ne_eqb}
use Rattle.algebra.specs.Choice.{choose}
use Rattle.algebra.specs.Matrix.{Vector, unit}
use Rattle.field.specs.Residue.{reduce, residues}
use Rattle.field.proofs.Residues.{residue_path, reduce_small}
use Rattle.board_solve.specs.Records.{unit_number}

-- the unit row of j has 1 at j, and 0 at another place
pub unit_here : (j t : ℕ) → t ≡ j → unit_number j t ≡ 1
unit_here j t e = ap (λ b. choose {A = ℕ} b 1 0) (eq-eqb j t (sym e))

pub unit_elsewhere : (j t : ℕ) → (t ≡ j → ⊥) → unit_number j t ≡ 0
unit_elsewhere j t f = ap (λ b. choose {A = ℕ} b 1 0) (ne_eqb j t (λ e. f (sym e)))

-- modulo p the unit row has the same numbers, since 1 is below p
unit_value : (p j t : ℕ) → 1 < p → (unit (residues p) j t).value ≡ unit_number j t
unfolding unit
unit_value p j t h = by_test (eqb j t)
  where
    by_test : (b : Bool) → (choose b (reduce p 1) (reduce p 0)).value ≡ choose b 1 0
    by_test true = reduce_small p 1 h
    by_test false = reduce_small p 0 (omega arith)

-- it is not zeros
pub unit_not_zero : (p j : ℕ) → 1 < p → reduce p 0 ≡ unit (residues p) j j → ⊥
unit_not_zero p j h e =
    let v : ◌≡◌ {A = ℕ} 0 1 =
    sym (reduce_small p 0 (omega arith)) ∙ ap (λ a. a.value) e ∙ unit_value p j j h ∙ unit_here j j refl in
    absurd (omega arith)

-- y are the values of the first n residues of x
module _
    (p n j : ℕ)
    (y : ℕ → ℕ)
    (x : Vector (residues p))
    (proper : 1 < p)
    (same : (c : ℕ) → c < n → y c ≡ (x c).value)
  where
    pub numbers_to_residues : ((c : ℕ) → c < n → y c ≡ unit_number j c) → (c : ℕ) → c < n → x c ≡ unit (residues p) j c
    numbers_to_residues row c h = residue_path (sym (same c h) ∙ row c h ∙ sym (unit_value p j c proper))

    pub residues_to_numbers : ((c : ℕ) → c < n → x c ≡ unit (residues p) j c) → (c : ℕ) → c < n → y c ≡ unit_number j c
    residues_to_numbers row c h = same c h ∙ ap (λ a. a.value) (row c h) ∙ unit_value p j c proper
