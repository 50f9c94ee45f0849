-- What `relay_row` leaves is the ledger's part of the call: where `find` tells no combination, refusal 15 with the memory as it was; else
-- the candidate is the mix, and the frame is that of the wanted row with the candidate's combination of the values.
use mathlib.Core.Path.{◌≡◌, refl, sym, ap, ap₂, ◌∙◌}
use mathlib.Core.Bool.{true, false}
use mathlib.Core.List.{List}
use Prim.Native.Nat.{ℕ, ◌≤◌, ◌<◌}
use native.Mathlib.Nat.{zero-add}
use native.Mathlib.Omega.{arith}
use lib.ListN.{length, get_or, take}
use Rattle.checks.specs.declared.Refusal.TheVariants.{NotInSpan}
use Rattle.checks.specs.Outcome.{outcome, untouched}
use Rattle.checks.specs.Told.{results}
use Rattle.words.specs.Words.{Below}
use Rattle.codec.specs.Placed.{Put, placed}
use Rattle.field.specs.Residue.{Residue}
use Rattle.field.proofs.Written.{is_tabulate}
use Rattle.frame.specs.Format.{longest, frame_of}
use Rattle.frame.proofs.Lengths.{longest_frame}
use Rattle.ledger.specs.Board.{IsBoard, modulus_word, size_word, values_word, entries_of, ledger_of}
use Rattle.ledger.proofs.Parse.{board_proper}
use Rattle.board_solve.specs.Combination.{residues_of, Combination}
use Rattle.board_solve.specs.Taking as taking
use Rattle.board_solve.proofs.Take.{mix_words_lem, added_values}
use Rattle.relay.specs.Calls.{combined_value, combined_values, relayed}
use Rattle.relay_calls.specs.Parts.{Relayable, RelaysRow}
use Rattle.relay.proofs.Order.{relay_no_span}
use Rattle.relay.proofs.RelayLaws.{relay_done}

module _ (ws wanted c mix bytes : List ℕ) (H : Relayable ws wanted c mix bytes) where
  board : IsBoard ws
  board = H.findable.candidate.inverse.board

  below : Below (modulus_word ws) wanted
  below j h = H.findable.row.below j (rw H.findable.row.long at h)

  -- 15: the checks before it hold
  pub none_outcome : Combination ws wanted c false → RelaysRow ws wanted mix bytes (untouched (mix, bytes) NotInSpan)
  none_outcome C ok =
      sym
      (relay_no_span (modulus_word ws) ok (size_word ws) (values_word ws) (ledger_of ws) wanted mix bytes
      H.findable.row.long H.mix_long H.bytes_long below (C.differs refl))

  -- the frame with the values v is at most as long as the bytes
  pub frame_most : (v : List ℕ) → length v ≡ values_word ws → length (frame_of (modulus_word ws) (length wanted) wanted v) ≤ longest (values_word ws)
  frame_most v long =
      longest_frame (modulus_word ws) (length wanted) (values_word ws) wanted v refl long (omega (arith, H.findable.row.long, board.size.1))

  module _ (C : Combination ws wanted c true) where
    -- the candidate as residues
    abbrev u : ℕ → Residue (modulus_word ws)
    u = residues_of (modulus_word ws) c

    -- numbers that are the candidate's combination of the values, word by word
    values_written : (v : List ℕ) → length v ≡ values_word ws → ((w : ℕ) → w < values_word ws → get_or v w 0 ≡ (taking.combined_value ws c w).value)
        → v ≡ combined_values (modulus_word ws) (size_word ws) (values_word ws) (entries_of ws) u
    unfolding combined_value
    values_written v long each =
        is_tabulate (values_word ws) _ v long
        (λ w h.
        each w h
        ∙ ap (λ (a : Residue (modulus_word ws)). a.value) (added_values ws wanted board H.findable.row c C w h))

    -- with them, the candidate in the mix and the frame in front of the bytes
    pub some_outcome : (v : List ℕ) → length v ≡ values_word ws → ((w : ℕ) → w < values_word ws → get_or v w 0 ≡ (taking.combined_value ws c w).value)
        → (filled after : List ℕ) (k : ℕ) → filled ≡ take (size_word ws) c
        → Put 0 (frame_of (modulus_word ws) (length wanted) wanted v) bytes after k
        → RelaysRow ws wanted mix bytes (outcome (results k) (filled, after))
    unfolding relayed
    some_outcome v long each filled after k mixed put ok =
        ap₂ (λ m a. outcome {M = List ℕ × List ℕ} (results m) (filled, a)) (put.end ∙ zero-add _) put.memory
        ∙ ap₂ (λ n vs. outcome {M = List ℕ × List ℕ} (results (length (F n vs))) (filled, placed 0 (F n vs) bytes)) H.findable.row.long
        (values_written v long each)
        ∙ ap
        (λ m. outcome (results (length (F (size_word ws) values))) (m, placed 0 (F (size_word ws) values) bytes))
        (mixed ∙ mix_words_lem ws wanted board H.findable.row c C)
        ∙ sym
        (relay_done (modulus_word ws) ok (size_word ws) (values_word ws) (entries_of ws) (board_proper ws board) wanted mix bytes
        H.findable.row.long H.mix_long H.bytes_long below (u, C.combines refl))
      where
        F : ℕ → List ℕ → List ℕ
        F n vs = frame_of (modulus_word ws) n wanted vs

        values : List ℕ
        values = combined_values (modulus_word ws) (size_word ws) (values_word ws) (entries_of ws) u
