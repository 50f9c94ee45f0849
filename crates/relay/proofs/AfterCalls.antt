-- Relay through demand 3: on the board that a list of calls has left it is the ledger's relay, and between the box's ledger and the office's
-- nothing leaks.
use mathlib.Core.Path.{◌≡◌, ap, ◌∙◌, subst}
use mathlib.Core.List.{List}
use Prim.Native.Nat.{ℕ}
use Rattle.checks.specs.Prime.{IsModulus}
use Rattle.ledger.specs.Ledger.{ledger}
use Rattle.ledger.specs.Board.{IsBoard, layout}
use Rattle.ledger.specs.Calls.{open_call}
use Rattle.ledger.specs.History.{Call, After}
use Rattle.ledger.specs.Demand3.{standing, words_after}
use Rattle.ledger.proofs.LayoutBoard.{layout_board, layout_entries, wide_entries}
use Rattle.ledger.proofs.Histories.{open_accepted}
use Rattle.ledger.proofs.Demand3.{demand_3, standing_proper}
use Rattle.relay.specs.Calls.{ledger_relay, relay_call}
use Rattle.relay.specs.Office.{FedBy, NeverShows}
use Rattle.relay.proofs.Order.{relay_at_layout}
use Rattle.relay.proofs.Office.{nothing_leaks}

module _ (p : ℕ) (ok : IsModulus p) (n s : ℕ) (ws : List ℕ) (opened : (open_call p n s ws).told.number ≡ 0) (own : List Call) where
  -- the words that the calls have left
  pub words_laid : words_after p n s ws own ≡ layout p n s (standing p ok n s own)
  words_laid = ap (λ (a : After (List ℕ)). a.state) (demand_3 p ok n s ws opened own).as_ledger

  -- relay on them is that of the ledger that was fed the same calls
  pub relay_after : (wanted mix bytes : List ℕ)
      → relay_call (words_after p n s ws own) wanted mix bytes ≡ ledger_relay p ok n s (ledger (standing p ok n s own)) wanted mix bytes
  relay_after wanted mix bytes =
      let opening = open_accepted p n s ws opened in
      ap (λ box. relay_call box wanted mix bytes) words_laid
      ∙ relay_at_layout p n s (standing p ok n s own) ok opening.size opening.words (standing_proper p ok n s ws opened own) wanted mix bytes

  -- "An office ledger opened with the same p, n and s, and fed only such frames from one unchanged state of the box, never shows a record that
  -- the box's own ledger leaves open."
  pub never_shows : (ws' : List ℕ) → (open_call p n s ws').told.number ≡ 0 → (cs : List Call) → FedBy (words_after p n s ws own) cs
      → NeverShows p ok n s own ws' cs
  unfolding layout
  never_shows ws' opened' cs fed t low marks numbers e f j h unsettled =
      let st = standing p ok n s own in
      let proper = standing_proper p ok n s ws opened own in
      let opening = open_accepted p n s ws opened in
      let board : IsBoard (layout p n s st) = layout_board p n s st ok opening.size opening.words proper in
      (nothing_leaks (layout p n s st) board ws' opened' cs (subst (λ box. FedBy box cs) words_laid fed)).never_shown t low marks numbers e f j h
      (rw (layout_entries p n s st (wide_entries p n s st proper)) unsettled)
