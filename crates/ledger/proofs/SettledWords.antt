-- The multipliers alone say which records are settled, and for all words or for none: record j is settled exactly if the unit row of j is
-- a combination of the standing rows, whatever the values and however many words a record has; and one word is settled exactly if the
-- record is. By the row of 1 - DA that decides for every right side (algebra/proofs/Settled.antt).
use mathlib.Core.Path.{sym, ◌∙◌}
use mathlib.Core.Logic.{◌↔◌}
use mathlib.Core.List.{List}
use Prim.Native.Nat.{ℕ, ◌≤◌, ◌<◌}
use lib.ListN.{length}
use Rattle.algebra.specs.Ring.{IsField}
use Rattle.algebra.specs.Matrix.{unit, apply}
use Rattle.algebra.specs.Span.{IsCombination}
use Rattle.algebra.proofs.Settled.{unit_agrees, agreeing_unit, agree_in_column}
use Rattle.checks.specs.Prime.{IsModulus}
use Rattle.field.specs.Residue.{residues}
use Rattle.field.proofs.Field.{residues_field}
use Rattle.ledger.specs.Ledger.{Entry, Settled, SettledWord, multiplier_rows, value_table}
use Rattle.ledger.specs.Proper.{Proper}
use Rattle.ledger.proofs.LedgerLaws.{standing_met}

module _ (p : ℕ) (ok : IsModulus p) (n s : ℕ) (es : List Entry) (proper : Proper p n s es) (some : 1 ≤ s) (j : ℕ) (l : j < n) where
  F : IsField (residues p)
  F = residues_field p ok.prime

  -- the unit row of j is a combination of the standing rows
  abbrev pub UnitSpanned : Type 0
  UnitSpanned = IsCombination (residues p) (length es) n (multiplier_rows p es) (unit (residues p) j)

  pub settled_unit : Settled p n s es j → UnitSpanned
  unfolding apply multiplier_rows value_table
  settled_unit e =
      let (x, met) = standing_met p ok n s es proper in
      agreeing_unit (residues p) F (length es) n (multiplier_rows p es) (λ i. value_table p es i 0) j l (λ t. x t 0) (λ i h. met i h 0 some) (x j 0)
      (agree_in_column (residues p) F (length es) n s (multiplier_rows p es) (value_table p es) j x met (x j) (λ y m. e y x m met) 0 some)

  unit_word : UnitSpanned → (w : ℕ) → SettledWord p n es w j
  unfolding apply multiplier_rows value_table
  unit_word c w x y a b =
      let agrees = unit_agrees (residues p) F (length es) n (multiplier_rows p es) (λ i. value_table p es i w) j l c in
      agrees x a ∙ sym (agrees y b)

  unit_settled : UnitSpanned → Settled p n s es j
  unit_settled c x y a b w h = unit_word c w (λ t. x t w) (λ t. y t w) (λ i k. a i k w h) (λ i k. b i k w h)

  -- settled exactly if the multipliers say so
  pub settled_by_multipliers : Settled p n s es j ↔ UnitSpanned
  settled_by_multipliers = (settled_unit, unit_settled)

  -- one word is settled exactly if the record is: all its words or none
  pub word_settled_exactly : (w : ℕ) → w < s → SettledWord p n es w j ↔ Settled p n s es j
  unfolding apply multiplier_rows value_table
  word_settled_exactly w h = (λ e. unit_settled (own e), λ e. unit_word (settled_unit e) w)
    where
      own : SettledWord p n es w j → UnitSpanned
      own e =
          let (x, met) = standing_met p ok n s es proper in
          agreeing_unit (residues p) F (length es) n (multiplier_rows p es) (λ i. value_table p es i w) j l (λ t. x t w) (λ i k. met i k w h) (x j w)
          (λ y a. e y (λ t. x t w) a (λ i k. met i k w h))
