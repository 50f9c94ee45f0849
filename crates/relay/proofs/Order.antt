-- 02, #107: "Checks: 11, 3, 4, then the new one", said of the call: 11 refuses whatever else is lent, then 3 whatever the numbers are, then
-- 4, then 15, all with the mix and the bytes untouched; all else is accepted. On the words of a board the call is that of the ledger which
-- they hold.
use mathlib.Core.Path.{◌≡◌, ap, ap₂, ◌∙◌}
use mathlib.Core.List.{List}
use Prim.Native.Nat.{ℕ}
use native.Mathlib.Omega.{arith}
use lib.ListN.{length}
use Rattle.checks.specs.declared.Refusal.TheVariants.{Length, Number, NotBoard, NotInSpan}
use Rattle.checks.specs.Refusal.{IsRefusal}
use Rattle.checks.specs.Largest.{FrameSize, WordCount}
use Rattle.checks.specs.Prime.{IsModulus}
use Rattle.checks.specs.Outcome.{Outcome, untouched}
use Rattle.checks.specs.InOrder.{AllHold}
use Rattle.checks.proofs.Modulus.{modulus_prop}
use Rattle.checks.proofs.InOrder.{none_left, fails_here, ◌then◌, ◌and_then◌, or_later, in_order_refused, in_order_accepted, in_order_done}
use Rattle.words.specs.Words.{Below}
use Rattle.frame.specs.Format.{longest}
use Rattle.ledger.specs.Ledger.{Entry, Ledger, ledger, InSpan}
use Rattle.ledger.specs.Proper.{Proper}
use Rattle.ledger.specs.Board.{IsBoard, modulus_word, size_word, values_word, ledger_of, layout}
use Rattle.ledger.proofs.LayoutBoard.{layout_board, layout_entries, wide_entries}
use Rattle.relay.specs.Calls.{relay_checks, relayed, ledger_relay, relay_call}

module _ (ws wanted mix bytes : List ℕ) where
  -- 11, whatever else is lent
  pub relay_no_board : (IsBoard ws → ⊥) → relay_call ws wanted mix bytes ≡ untouched (mix, bytes) NotBoard
  unfolding relay_call
  relay_no_board bad = in_order_refused _ _ (fails_here bad)

  -- on a board: the ledger's
  pub relay_on_board : (b : IsBoard ws)
      → relay_call ws wanted mix bytes ≡ ledger_relay (modulus_word ws) b.prime (size_word ws) (values_word ws) (ledger_of ws) wanted mix bytes
  unfolding relay_call
  relay_on_board b =
      in_order_done _ _ _ (b and_then none_left)
      (λ hs.
      ap (λ ok. ledger_relay (modulus_word ws) ok (size_word ws) (values_word ws) (ledger_of ws) wanted mix bytes)
      (modulus_prop (modulus_word ws) hs.0.prime b.prime))

-- on the layout of a proper ledger: that ledger's
pub relay_at_layout : (p n s : ℕ) (es : List Entry) (ok : IsModulus p) → FrameSize n → WordCount s → Proper p n s es → (wanted mix bytes : List ℕ)
    → relay_call (layout p n s es) wanted mix bytes ≡ ledger_relay p ok n s (ledger es) wanted mix bytes
unfolding layout
relay_at_layout p n s es ok size words proper wanted mix bytes =
    relay_on_board (layout p n s es) wanted mix bytes (layout_board p n s es ok size words proper)
    ∙ ap₂ (λ k ds. ledger_relay p k n s (ledger ds) wanted mix bytes) (modulus_prop p _ ok)
    (layout_entries p n s es (wide_entries p n s es proper))

module _ (p : ℕ) (ok : IsModulus p) (n s : ℕ) (l : Ledger) (wanted mix bytes : List ℕ) where
  -- 3, of the wanted row, the mix or the bytes, whatever the numbers are
  pub relay_length : (length wanted ≡ n → length mix ≡ n → length bytes ≡ longest s → ⊥)
      → ledger_relay p ok n s l wanted mix bytes ≡ untouched (mix, bytes) Length
  unfolding ledger_relay
  relay_length bad = in_order_refused _ _ (or_later (λ h. or_later (λ m. fails_here (bad h m))))

  module _ (wanted_long : length wanted ≡ n) (mix_long : length mix ≡ n) (bytes_long : length bytes ≡ longest s) where
    -- 4, whether the row is a combination or not
    pub relay_number : (Below p wanted → ⊥) → ledger_relay p ok n s l wanted mix bytes ≡ untouched (mix, bytes) Number
    unfolding ledger_relay
    relay_number bad = in_order_refused _ _ (wanted_long then mix_long then bytes_long then fails_here bad)

    -- 15
    pub relay_no_span : Below p wanted → (InSpan p n l.entries wanted → ⊥)
        → ledger_relay p ok n s l wanted mix bytes ≡ untouched (mix, bytes) NotInSpan
    unfolding ledger_relay
    relay_no_span below none = in_order_refused _ _ (wanted_long then mix_long then bytes_long then below then fails_here none)

  -- all else is accepted
  pub relay_accepted : AllHold (relay_checks p ok n s l.entries wanted mix bytes)
      → IsRefusal (ledger_relay p ok n s l wanted mix bytes).told.number → ⊥
  unfolding ledger_relay relayed
  relay_accepted all =
      in_order_accepted _ _ (λ (o : Outcome (List ℕ × List ℕ)). IsRefusal o.told.number → ⊥) all (λ hs h. omega arith)
