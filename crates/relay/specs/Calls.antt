-- Document 02, #107: what relay answers and leaves in lent memory, for every input. "Given a board and that row, write, as writing does, the
-- one frame that the standing rows combine to, with the combination in a lent mix of n words; refuse exactly if there is none." That what
-- is defined here does so is shown in proofs/, for `RelayDone` of Promises.antt. (The field calls such a box a recoding node.)
use Rattle.std.specs.Prelude.{List, ℕ, length}
use Rattle.algebra.specs.Matrix.{Vector, sum}
use Rattle.checks.specs.declared.Refusal.{Refusal}
use Rattle.checks.specs.declared.Refusal.TheVariants.{Length, Number, NotInSpan}
use Rattle.checks.specs.Told.{results}
use Rattle.checks.specs.Outcome.{Outcome, outcome, untouched}
use Rattle.checks.specs.InOrder.{Checks, passed, ◌else◌, ◌⨾◌, in_order}
use Rattle.checks.specs.Prime.{IsModulus}
use Rattle.checks.specs.Decide.{long?}
use Rattle.words.specs.Decide.{below?}
use Rattle.codec.specs.Placed.{placed}
use Rattle.field.specs.Residue.{residues, ◌⊗◌}
use Rattle.field.specs.Written.{tabulate, numbers}
use Rattle.frame.specs.Format.{longest, frame_of}
use Rattle.ledger.specs.Ledger.{Entry, Ledger, value_table}
use Rattle.ledger.specs.Steps.{mix_words}
use Rattle.ledger.specs.Board.{modulus_word, size_word, values_word, ledger_of}
use Rattle.ledger.specs.Calls.{board_checks}
use Rattle.ledger.specs.Decide.{in_span?}

module _ (p n s : ℕ) (es : List Entry) where
  -- the combination u of the standing frames' values, word by word
  unfoldable pub combined_value : Vector (residues p) → Vector (residues p)
  combined_value u w = sum (residues p) (length es) (λ t. u t ⊗ value_table p es t w)

  abbrev pub combined_values : Vector (residues p) → List ℕ
  combined_values u = numbers s (combined_value u)

  -- the frame of the wanted row, which u combines the standing rows to, with their values combined alike
  abbrev pub relayed_frame : List ℕ → Vector (residues p) → List ℕ
  relayed_frame wanted u = frame_of p n wanted (combined_values u)

  -- "write, as writing does": the frame to the front of the lent bytes, its length for an answer; "with the combination in a lent mix"
  unfoldable pub relayed : (wanted bytes : List ℕ) → Vector (residues p) → Outcome (List ℕ × List ℕ)
  relayed wanted bytes u =
      outcome (results (length (relayed_frame wanted u))) (mix_words p n es u, placed 0 (relayed_frame wanted u) bytes)

-- "Checks: 11, 3, 4, then the new one." Behind 11: the lengths of the wanted row, the mix and the bytes; the wanted numbers; and 15, "the
-- wanted row is no combination", which gives the combination where there is one
abbrev pub relay_checks : (p : ℕ) → IsModulus p → (n s : ℕ) → List Entry → (wanted mix bytes : List ℕ) → Checks Refusal
relay_checks p ok n s es wanted mix bytes =
    long? wanted n else Length
    ⨾ long? mix n else Length
    ⨾ long? bytes (longest s) else Length
    ⨾ below? p wanted else Number
    ⨾ in_span? p ok n es wanted else NotInSpan
    ⨾ passed

-- the ledger's part: it is only read
unfoldable pub ledger_relay : (p : ℕ) → IsModulus p → (n s : ℕ) → Ledger → (wanted mix bytes : List ℕ) → Outcome (List ℕ × List ℕ)
ledger_relay p ok n s l wanted mix bytes =
    in_order (relay_checks p ok n s l.entries wanted mix bytes)
    (λ (_, (_, (_, (_, (combination, _))))). relayed p n s l.entries wanted bytes combination.0)
    (untouched (mix, bytes))

-- on words: 11, then the ledger that they hold
unfoldable pub relay_call : (ws wanted mix bytes : List ℕ) → Outcome (List ℕ × List ℕ)
relay_call ws wanted mix bytes =
    in_order (board_checks ws)
    (λ hs. ledger_relay (modulus_word ws) hs.0.prime (size_word ws) (values_word ws) (ledger_of ws) wanted mix bytes)
    (untouched (mix, bytes))
