-- What take answers, case by case: refusal 11 and 3, what reading refuses, or what the ledger does with the numbers that reading
-- found. What `read_frame` answers tells what it found.
use mathlib.Core.Path.{◌≡◌, refl, sym, ap, ap₂, ◌∙◌}
use mathlib.Core.List.{List, ◌++◌}
use Prim.Native.Nat.{ℕ, ◌<◌}
use native.Mathlib.Omega.{arith}
use lib.ListN.{length, take, drop}
use lib.Seq.{take_at}
use Rattle.checks.specs.declared.Refusal.{Refusal}
use Rattle.checks.specs.declared.Refusal.TheVariants.{Length}
use Rattle.checks.specs.Told.{refused, results, result_told}
use Rattle.std.specs.Prelude.{Result, Ok, Err}
use Rattle.words.specs.Words.{Below}
use Rattle.checks.specs.Outcome.{Outcome, outcome, untouched}
use Rattle.checks.proofs.Refusals.{refusal_number_lem}
use Rattle.frame.specs.Reading.{Found, accepted, rejected, read_frame}
use Rattle.frame.specs.Calls.{read_outcome}
use Rattle.ledger.specs.Ledger.{Ledger}
use Rattle.ledger.specs.Steps.{ledger_take}
use Rattle.ledger.specs.Board.{IsBoard, modulus_word, size_word, values_word, entries_of, ledger_of}
use Rattle.ledger.specs.Calls.{laid_out, take_call}
use Rattle.ledger.proofs.Parse.{board_layout}
use Rattle.frame.proofs.Round.{Numbers, accepted_numbers}
use Rattle.ledger.proofs.LedgerSteps.{take_length_first}
use Rattle.ledger.proofs.LedgerLaws.{take_rejected, take_accepted_lem}
use Rattle.ledger.proofs.WordsCalls.{take_on_board}
use Rattle.board_solve.specs.Combination.{RowFor}
use Rattle.board_solve.specs.Taking.{TakesRow}

-- ---- what reading found

-- where r is what `read_frame` answers: words tell that the numbers were accepted which stand in the memory lent
module _ (s : ℕ) (lent : List ℕ × List ℕ) (written values : List ℕ) (r : Result ℕ Refusal) (f : Found)
    (told : outcome (result_told r) (written, values) ≡ read_outcome s lent f) where
  pub found_words : (t : ℕ) → r ≡ Ok t → f ≡ accepted written values
  unfolding read_outcome
  found_words t e = go f (ap (λ (a : Result ℕ Refusal). outcome (result_told a) (written, values)) (sym e) ∙ told)
    where
      go : (g : Found) → outcome (results t) (written, values) ≡ read_outcome s lent g → g ≡ accepted written values
      go (accepted xs vs) h =
          ap₂ accepted (sym (ap (λ (o : Outcome (List ℕ × List ℕ)). o.lent.0) h)) (sym (ap (λ (o : Outcome (List ℕ × List ℕ)). o.lent.1) h))
      go (rejected k) h = absurd (omega (arith, refusal_number_lem k, ap (λ (o : Outcome (List ℕ × List ℕ)). o.told.number) h))

  -- and a refusal is that of what was rejected
  pub found_refusal : (k : Refusal) → r ≡ Err k → (l : Refusal) × (f ≡ rejected l) × (refused k ≡ refused l)
  unfolding read_outcome
  found_refusal k e = go f (ap (λ (a : Result ℕ Refusal). outcome (result_told a) (written, values)) (sym e) ∙ told)
    where
      go : (g : Found) → outcome (refused k) (written, values) ≡ read_outcome s lent g
          → (l : Refusal) × (g ≡ rejected l) × (refused k ≡ refused l)
      go (accepted xs vs) h = absurd (omega (arith, refusal_number_lem k, ap (λ (o : Outcome (List ℕ × List ℕ)). o.told.number) h))
      go (rejected l) h = (l, refl, ap (λ (o : Outcome (List ℕ × List ℕ)). o.told) h)

-- words tell that n multipliers and s values below p were found
pub numbers_found : (p n s : ℕ) (frame : List ℕ) (lent : List ℕ × List ℕ) (written values : List ℕ) (r : Result ℕ Refusal) → 0 < p
    → outcome (result_told r) (written, values) ≡ read_outcome s lent (read_frame p n s frame) → (t : ℕ) → r ≡ Ok t
    → Numbers p n s written values
numbers_found p n s frame lent written values r positive told t e =
    accepted_numbers p n s frame written values positive (found_words s lent written values r (read_frame p n s frame) told t e)

-- what is written stands in the front of the memory lent
module _ (n : ℕ) (written : List ℕ) (long : length written ≡ n) (room : List ℕ) where
  row_front : take n (written ++ drop n room) ≡ written
  row_front = take_at written (drop n room) n long

  pub row_long : length (take n (written ++ drop n room)) ≡ n
  row_long = ap length row_front ∙ long

-- and the numbers found are what `take_row` asks
module _ (ws written values : List ℕ) (x : Numbers (modulus_word ws) (size_word ws) (values_word ws) written values) (room : List ℕ) where
  pub row_for : RowFor ws (take (size_word ws) (written ++ drop (size_word ws) room))
  row_for =
      record {
        long = row_long (size_word ws) written x.long room;
        below = λ j h. rw (row_front (size_word ws) written x.long room) (x.below j (omega (arith, x.long)));
      }

  pub values_for : Below (modulus_word ws) (take (values_word ws) (values ++ drop (values_word ws) room))
  values_for = rw (row_front (values_word ws) values x.values_long room) x.values_below

-- ---- the call

module _ (ws : List ℕ) (b : IsBoard ws) (frame mix : List ℕ) where
  abbrev step : Outcome (Ledger × List ℕ)
  step = ledger_take (modulus_word ws) b.prime (size_word ws) (values_word ws) (ledger_of ws) frame mix

  -- the answer from the ledger's step, and one that refuses
  by_step : (r : Outcome (Ledger × List ℕ)) → step ≡ r → laid_out (modulus_word ws) (size_word ws) (values_word ws) r ≡ take_call ws frame mix
  by_step r e = sym (take_on_board ws b frame mix ∙ ap (laid_out (modulus_word ws) (size_word ws) (values_word ws)) e)

  by_refusal : (k : Refusal) → step ≡ untouched (ledger_of ws, mix) k → untouched (ws, mix) k ≡ take_call ws frame mix
  by_refusal k e = ap (λ cs. untouched {M = List ℕ × List ℕ} (cs, mix) k) (sym (board_layout ws b)) ∙ by_step _ e

  -- 3
  pub take_no_length : (length mix ≡ size_word ws → ⊥) → untouched (ws, mix) Length ≡ take_call ws frame mix
  take_no_length h = by_refusal Length (take_length_first (modulus_word ws) b.prime (size_word ws) (values_word ws) (ledger_of ws) frame mix h)

  module _ (l : length mix ≡ size_word ws) (lent : List ℕ × List ℕ) (written values : List ℕ) (r : Result ℕ Refusal)
      (told : outcome (result_told r) (written, values)
      ≡ read_outcome (values_word ws) lent (read_frame (modulus_word ws) (size_word ws) (values_word ws) frame)) where
    abbrev found : Found
    found = read_frame (modulus_word ws) (size_word ws) (values_word ws) frame

    -- what reading refuses
    pub take_unread : (k : Refusal) → r ≡ Err k → untouched (ws, mix) k ≡ take_call ws frame mix
    take_unread k e =
        let (j, rejects, same) = found_refusal (values_word ws) lent written values r found told k e in
        ap (λ t. outcome {M = List ℕ × List ℕ} t (ws, mix)) same
        ∙ by_refusal j (take_rejected (modulus_word ws) b.prime (size_word ws) (values_word ws) (entries_of ws) frame mix j l rejects)

    -- the numbers that it found decide, by what `take_row` leaves
    pub take_read : (t : ℕ) → r ≡ Ok t → (room values_room : List ℕ) (left : Outcome (List ℕ × List ℕ))
        → TakesRow ws (take (size_word ws) (written ++ drop (size_word ws) room)) (take (values_word ws) (values ++ drop (values_word ws) values_room)) mix left
        → left ≡ take_call ws frame mix
    take_read t e room values_room left h =
        let accepts = found_words (values_word ws) lent written values r found told t e in
        let x = accepted_numbers (modulus_word ws) (size_word ws) (values_word ws) frame written values positive accepts in
        (rw (row_front (size_word ws) written x.long room, row_front (values_word ws) values x.values_long values_room) at (h b.prime))
        ∙ by_step _ (take_accepted_lem (modulus_word ws) b.prime (size_word ws) (values_word ws) (entries_of ws) frame mix written values l accepts)
      where
        positive : 0 < modulus_word ws
        positive = omega (arith, b.prime.prime.two_or_more)
