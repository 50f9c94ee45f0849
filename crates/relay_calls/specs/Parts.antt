-- What the parts of relay ask and leave: the leaves' contracts, not document 02's.
use Rattle.std.specs.Prelude.{◌≡◌, List, ℕ, length}
use Rattle.checks.specs.Outcome.{Outcome}
use Rattle.checks.specs.Prime.{IsModulus}
use Rattle.frame.specs.Format.{longest}
use Rattle.ledger.specs.Board.{modulus_word, size_word, values_word, ledger_of}
use Rattle.board_solve.specs.Combination.{Findable}
use Rattle.relay.specs.Calls.{ledger_relay}

-- a board, a wanted row for it with the only combination that it can be, and what is lent for writing, as long as it is asked to be
pub record Relayable (ws wanted c mix bytes : List ℕ) : Type 0 where
  pub findable : Findable ws wanted c
  pub mix_long : length mix ≡ size_word ws
  pub bytes_long : length bytes ≡ longest (values_word ws)

-- the outcome is that of the ledger which the words hold, whatever proof that the modulus is one
abbrev pub RelaysRow : (ws wanted mix bytes : List ℕ) → Outcome (List ℕ × List ℕ) → Type 0
RelaysRow ws wanted mix bytes r =
    (ok : IsModulus (modulus_word ws)) → r ≡ ledger_relay (modulus_word ws) ok (size_word ws) (values_word ws) (ledger_of ws) wanted mix bytes
