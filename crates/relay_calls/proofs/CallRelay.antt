-- What relay answers, as the code's returns have it: refusal 11 off a board; on one 3 or 4, with the memory as it was, or the outcome of the
-- ledger that the words hold. By the laws of the call in relay/proofs/Order.antt.
use mathlib.Core.Path.{◌≡◌, sym, ◌∙◌}
use mathlib.Core.List.{List}
use Prim.Native.Nat.{ℕ}
use lib.ListN.{length}
use Rattle.checks.specs.declared.Refusal.TheVariants.{Length, Number, NotBoard}
use Rattle.checks.specs.Outcome.{Outcome, untouched}
use Rattle.words.specs.Words.{Below}
use Rattle.frame.specs.Format.{longest}
use Rattle.ledger.specs.Board.{IsBoard, modulus_word, size_word, values_word, ledger_of}
use Rattle.relay.specs.Calls.{ledger_relay, relay_call}
use Rattle.relay.proofs.Order.{relay_no_board, relay_on_board, relay_length, relay_number}

pub off_board : (ws wanted mix bytes : List ℕ) → (IsBoard ws → ⊥) → untouched (mix, bytes) NotBoard ≡ relay_call ws wanted mix bytes
off_board ws wanted mix bytes bad = sym (relay_no_board ws wanted mix bytes bad)

module _ (ws : List ℕ) (b : IsBoard ws) (wanted mix bytes : List ℕ) where
  pub by_ledger : (o : Outcome (List ℕ × List ℕ))
      → o ≡ ledger_relay (modulus_word ws) b.prime (size_word ws) (values_word ws) (ledger_of ws) wanted mix bytes → o ≡ relay_call ws wanted mix bytes
  by_ledger o e = e ∙ sym (relay_on_board ws wanted mix bytes b)

  pub other_length : (length wanted ≡ size_word ws → length mix ≡ size_word ws → length bytes ≡ longest (values_word ws) → ⊥)
      → untouched (mix, bytes) Length ≡ relay_call ws wanted mix bytes
  other_length bad =
      by_ledger _ (sym (relay_length (modulus_word ws) b.prime (size_word ws) (values_word ws) (ledger_of ws) wanted mix bytes bad))

  pub other_number : length wanted ≡ size_word ws → length mix ≡ size_word ws → length bytes ≡ longest (values_word ws)
      → (Below (modulus_word ws) wanted → ⊥) → untouched (mix, bytes) Number ≡ relay_call ws wanted mix bytes
  other_number wide long room bad =
      by_ledger _ (sym (relay_number (modulus_word ws) b.prime (size_word ws) (values_word ws) (ledger_of ws) wanted mix bytes wide long room bad))
