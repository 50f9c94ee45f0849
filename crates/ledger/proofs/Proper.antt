-- Every step of the ledger keeps it proper: a frame that is appended has n multipliers and s values below p, as reading found
-- them, and its row is no combination of the others, so that the longer rows are independent and at most n; a withdrawal
-- leaves a front of the rows.
use mathlib.Core.Path.{◌≡◌}
use mathlib.Core.List.{List, [], ◌∷◌, ◌++◌}
use Prim.Native.Nat.{ℕ, suc, ◌-◌, ◌≤◌, ◌<◌}
use native.Mathlib.Nat.{sub-le, not-suc-le-zero}
use native.Mathlib.Omega.{arith}
use lib.ListN.{length, get_or, take}
use lib.Seq.{length-take-le, get_or-take}
use Rattle.algebra.specs.Matrix.{Matrix}
use Rattle.algebra.specs.Span.{Independent}
use Rattle.checks.specs.Prime.{IsModulus}
use Rattle.field.specs.Residue.{reduce, residues}
use Rattle.field.proofs.Field.{residues_field, residues_ring}
use Rattle.frame.proofs.Round.{Numbers, accepted_numbers}
use Rattle.ledger.specs.Ledger.{Entry, entry, no_entry, Ledger, ledger, InSpan, multiplier_rows}
use Rattle.checks.specs.Outcome.{Outcome}
use Rattle.ledger.specs.History.{Call, ledger_step}
use Rattle.ledger.specs.Proper.{Proper}
use Rattle.ledger.proofs.EntryMore.{length_more, entry_before, entry_last, each_more}
use Rattle.ledger.proofs.LedgerSteps.{Took, new, repeat, conflict, refusal, took, Withdrew, dropped, overlong, withdrew}
use Rattle.algebra.proofs.Alike.{independent_alike}
use Rattle.ledger.proofs.RankRows.{front_independent, append_independent, independent_most}
use Rattle.algebra.proofs.Alike.{Alike, combination_alike, alike_back}

-- the empty ledger is proper
pub empty_proper : (p n s : ℕ) → Proper p n s []
empty_proper p n s =
    record {
      fits = omega arith;
      wide = λ i h. absurd (not-suc-le-zero h);
      below = λ i j h l. absurd (not-suc-le-zero h);
      values_long = λ i h. absurd (not-suc-le-zero h);
      value_below = λ i w h l. absurd (not-suc-le-zero h);
      independent = λ u c t h. absurd (not-suc-le-zero h);
    }

module _ (p n s : ℕ) (es : List Entry) (proper : Proper p n s es) where
  -- a frame whose multipliers are no combination of the rows is appended to a proper ledger
  module _ (ok : IsModulus p) (xs vs : List ℕ) (numbers : Numbers p n s xs vs) (new : InSpan p n es xs → ⊥) where
    rows : Matrix (residues p)
    rows = multiplier_rows p (es ++ (entry xs vs ∷ []))

    before : Alike (residues p) (length es) n (multiplier_rows p es) rows
    unfolding multiplier_rows rows
    before i j h l = rw (entry_before es (entry xs vs) i h)

    last : (j : ℕ) → j < n → rows (length es) j ≡ reduce p (get_or xs j 0)
    unfolding multiplier_rows rows
    last j l = rw (entry_last es (entry xs vs))

    longer : Independent (residues p) (suc (length es)) n rows
    longer =
        append_independent (residues p) (residues_field p ok.prime) (length es) n rows
        (independent_alike (residues p) (length es) n (multiplier_rows p es) rows before proper.independent)
        (λ c. new
        (combination_alike (residues p) rows (multiplier_rows p es) (alike_back (residues p) (multiplier_rows p es) rows before)
        (rows (length es)) (λ j. reduce p (get_or xs j 0)) last c))

    pub append_proper : Proper p n s (es ++ (entry xs vs ∷ []))
    unfolding rows
    append_proper =
        record {
          fits =
              rw (length_more es (entry xs vs))
              (independent_most (residues p) (residues_field p ok.prime) (suc (length es)) n rows longer);
          wide = each_more es (entry xs vs) (λ e. length e.multipliers ≡ n) proper.wide numbers.long;
          below = λ i j h l.
              each_more es (entry xs vs) (λ e. get_or e.multipliers j 0 < p) (λ k b. proper.below k j b l)
              (numbers.below j (rw numbers.long l)) i h;
          values_long = each_more es (entry xs vs) (λ e. length e.values ≡ s) proper.values_long numbers.values_long;
          value_below = λ i w h l.
              each_more es (entry xs vs) (λ e. get_or e.values w 0 < p) (λ k b. proper.value_below k w b l)
              (numbers.values_below w (rw numbers.values_long l)) i h;
          independent = rw (length_more es (entry xs vs)) longer;
        }

  -- a front of a proper ledger is proper
  pub front_proper : (k : ℕ) → 0 < p → k ≤ length es → Proper p n s (take k es)
  unfolding multiplier_rows
  front_proper k positive h =
      record {
        fits = rw long (omega (arith, proper.fits));
        wide = λ i b. rw (same i b) (proper.wide i (within i b));
        below = λ i j b l. rw (same i b) (proper.below i j (within i b) l);
        values_long = λ i b. rw (same i b) (proper.values_long i (within i b));
        value_below = λ i w b l. rw (same i b) (proper.value_below i w (within i b) l);
        independent =
            rw long
            (independent_alike (residues p) k n (multiplier_rows p es) (multiplier_rows p (take k es)) alike
            (front_independent (residues p) (residues_ring p positive) k (length es) n (multiplier_rows p es) h proper.independent));
      }
    where
      long : length (take k es) ≡ k
      long = length-take-le k es h

      within : (i : ℕ) → i < length (take k es) → i < length es
      within i b = omega (arith, long)

      same : (i : ℕ) → i < length (take k es) → get_or (take k es) i no_entry ≡ get_or es i no_entry
      same i b = get_or-take k es i no_entry (rw long at b)

      alike : Alike (residues p) k n (multiplier_rows p es) (multiplier_rows p (take k es))
      alike i j b l = rw (get_or-take k es i no_entry b)

  -- ---- every step keeps a ledger proper
  module _ (ok : IsModulus p) where
    took_proper : (frame mix : List ℕ) {r : Outcome (Ledger × List ℕ)} → Took p ok n s (ledger es) frame mix r
        → Proper p n s r.lent.0.entries
    took_proper frame mix (new xs vs e free) = append_proper ok xs vs (accepted_numbers p n s frame xs vs (omega (arith, ok.prime.two_or_more)) e) free
    took_proper frame mix (repeat xs vs e c g) = proper
    took_proper frame mix (conflict xs vs e c g) = proper
    took_proper frame mix (refusal k h) = proper

    withdrew_proper : (t : ℕ) {r : Outcome Ledger} → Withdrew (ledger es) t r → Proper p n s r.lent.entries
    withdrew_proper t (dropped h) = front_proper (length es - t) (omega (arith, ok.prime.two_or_more)) (sub-le (length es) t)
    withdrew_proper t overlong = proper

    pub step_proper : (c : Call) → Proper p n s (ledger_step p ok n s (ledger es) c).state.entries
    unfolding ledger_step
    step_proper (Call.take frame mix) = took_proper frame mix (took p ok n s (ledger es) frame mix)
    step_proper (Call.withdraw t) = withdrew_proper t (withdrew (ledger es) t)
    step_proper (Call.show low marks numbers) = proper
