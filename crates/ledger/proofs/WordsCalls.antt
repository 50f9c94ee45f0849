-- The calls on words, by cases: words that are no board are refused by 11, whatever else the call is given, and a board is the
-- ledger's step on the entries that the words hold. On the layout of a proper ledger a call is the ledger's step. The proof that
-- the modulus is one does not matter.
use mathlib.Core.Path.{◌≡◌, refl, ap, ap₂, ◌∙◌}
use mathlib.Core.List.{List}
use Prim.Native.Nat.{ℕ}
use lib.IntN.{ℤ}
use Rattle.checks.specs.declared.Refusal.TheVariants.{NotBoard}
use Rattle.checks.specs.InOrder.{AllHold, FirstFailing}
use Rattle.checks.specs.Outcome.{untouched}
use Rattle.checks.specs.Prime.{IsModulus}
use Rattle.checks.specs.Largest.{FrameSize, WordCount}
use Rattle.checks.proofs.Modulus.{modulus_prop}
use Rattle.checks.proofs.InOrder.{none_left, fails_here, in_order_done, in_order_refused, ◌and_then◌}
use Rattle.ledger.specs.Ledger.{Entry, ledger}
use Rattle.ledger.specs.Steps.{ledger_take, ledger_withdraw, ledger_show}
use Rattle.ledger.specs.Board.{modulus_word, size_word, values_word, layout, ledger_of, IsBoard}
use Rattle.ledger.specs.Calls.{board_checks, laid_out, take_call, words_of, withdraw_call, show_call}
use Rattle.ledger.specs.Proper.{Proper}
use Rattle.ledger.proofs.LayoutBoard.{layout_entries, wide_entries, layout_board}

module _ (ws : List ℕ) (none : IsBoard ws → ⊥) where
  off_board : FirstFailing (board_checks ws) NotBoard
  off_board = fails_here none

  pub take_off_board : (frame mix : List ℕ) → take_call ws frame mix ≡ untouched (ws, mix) NotBoard
  unfolding take_call
  take_off_board frame mix = in_order_refused _ _ off_board

  pub withdraw_off_board : (t : ℕ) → withdraw_call ws t ≡ untouched ws NotBoard
  unfolding withdraw_call
  withdraw_off_board t = in_order_refused _ _ off_board

  pub show_off_board : (low : ℕ) (marks : List ℕ) (zs : List ℤ) → show_call ws low marks zs ≡ untouched (marks, zs) NotBoard
  unfolding show_call
  show_off_board low marks zs = in_order_refused _ _ off_board

module _ (ws : List ℕ) (b : IsBoard ws) where
  on_board_lem : AllHold (board_checks ws)
  on_board_lem = b and_then none_left

  pub take_on_board : (frame mix : List ℕ)
      → take_call ws frame mix
      ≡ laid_out (modulus_word ws) (size_word ws) (values_word ws) (ledger_take (modulus_word ws) b.prime (size_word ws) (values_word ws) (ledger_of ws) frame mix)
  unfolding take_call
  take_on_board frame mix =
      in_order_done _ _ _ on_board_lem
      (λ hs.
      ap (λ ok. laid_out (modulus_word ws) (size_word ws) (values_word ws) (ledger_take (modulus_word ws) ok (size_word ws) (values_word ws) (ledger_of ws) frame mix))
      (modulus_prop (modulus_word ws) hs.0.prime b.prime))

  pub withdraw_on_board : (t : ℕ) → withdraw_call ws t ≡ words_of (modulus_word ws) (size_word ws) (values_word ws) (ledger_withdraw (ledger_of ws) t)
  unfolding withdraw_call
  withdraw_on_board t = in_order_done _ _ _ on_board_lem (λ _. refl)

  pub show_on_board : (low : ℕ) (marks : List ℕ) (zs : List ℤ)
      → show_call ws low marks zs ≡ ledger_show (modulus_word ws) b.prime (size_word ws) (values_word ws) (ledger_of ws) low marks zs
  unfolding show_call
  show_on_board low marks zs =
      in_order_done _ _ _ on_board_lem
      (λ hs.
      ap (λ ok. ledger_show (modulus_word ws) ok (size_word ws) (values_word ws) (ledger_of ws) low marks zs)
      (modulus_prop (modulus_word ws) hs.0.prime b.prime))

-- ---- on the layout of a proper ledger

module _ (p n s : ℕ) (es : List Entry) (ok : IsModulus p) (size : FrameSize n) (words : WordCount s) (P : Proper p n s es)
  where
    pub take_at_layout : (frame mix : List ℕ)
        → take_call (layout p n s es) frame mix ≡ laid_out p n s (ledger_take p ok n s (ledger es) frame mix)
    unfolding layout
    take_at_layout frame mix =
        take_on_board (layout p n s es) (layout_board p n s es ok size words P) frame mix
        ∙ ap₂ (λ k ds. laid_out p n s (ledger_take p k n s (ledger ds) frame mix)) (modulus_prop p _ ok) (layout_entries p n s es (wide_entries p n s es P))

    pub withdraw_at_layout : (t : ℕ) → withdraw_call (layout p n s es) t ≡ words_of p n s (ledger_withdraw (ledger es) t)
    unfolding layout
    withdraw_at_layout t =
        withdraw_on_board (layout p n s es) (layout_board p n s es ok size words P) t
        ∙ ap (λ ds. words_of p n s (ledger_withdraw (ledger ds) t)) (layout_entries p n s es (wide_entries p n s es P))

    pub show_at_layout : (low : ℕ) (marks : List ℕ) (zs : List ℤ)
        → show_call (layout p n s es) low marks zs ≡ ledger_show p ok n s (ledger es) low marks zs
    unfolding layout
    show_at_layout low marks zs =
        show_on_board (layout p n s es) (layout_board p n s es ok size words P) low marks zs
        ∙ ap₂ (λ k ds. ledger_show p k n s (ledger ds) low marks zs) (modulus_prop p _ ok) (layout_entries p n s es (wide_entries p n s es P))
