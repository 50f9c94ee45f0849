-- What withdraw answers: refusal 11 and 10, or the words with the last rows dropped, which are the layout of the entries that stay.
use mathlib.Core.Path.{◌≡◌, sym, ap, ◌∙◌, subst₂}
use mathlib.Core.List.{List}
use Prim.Native.Nat.{ℕ, ◌-◌, ◌≤◌, ◌<◌}
use native.Mathlib.Omega.{arith}
use lib.ListN.{take}
use Rattle.checks.specs.declared.Refusal.TheVariants.{Withdrawal}
use Rattle.checks.specs.Told.{results}
use Rattle.checks.specs.Outcome.{outcome, untouched}
use Rattle.checks.proofs.InOrder.{none_left, fails_here, in_order_done, in_order_refused, ◌and_then◌}
use Rattle.ledger.specs.Ledger.{ledger}
use Rattle.ledger.specs.Steps.{ledger_withdraw}
use Rattle.ledger.specs.Board.{IsBoard, modulus_word, size_word, count_word, values_word, layout, entries_of, ledger_of}
use Rattle.ledger.specs.Calls.{words_of, withdraw_call}
use Rattle.ledger.specs.Changes.{Dropped}
use Rattle.ledger.proofs.Parse.{words_count, board_layout, board_wide}
use Rattle.ledger.proofs.LayoutChanges.{dropped_layout}
use Rattle.ledger.proofs.WordsCalls.{withdraw_on_board}

module _ (ws : List ℕ) (b : IsBoard ws) (t : ℕ) where
  -- 10
  pub withdraw_too_many : count_word ws < t → untouched ws Withdrawal ≡ withdraw_call ws t
  unfolding ledger_withdraw
  withdraw_too_many h =
      ap (λ xs. untouched xs Withdrawal) (sym (board_layout ws b))
      ∙ sym
      (withdraw_on_board ws b t
      ∙ ap (words_of (modulus_word ws) (size_word ws) (values_word ws)) (in_order_refused _ _ (fails_here (λ l. omega (arith, words_count ws)))))

  module _ (few : t ≤ count_word ws) where
    -- the entries that stay
    step : ledger_withdraw (ledger_of ws) t ≡ outcome (results (count_word ws - t)) (ledger (take (count_word ws - t) (entries_of ws)))
    unfolding ledger_withdraw
    step =
        in_order_done _ _ _ ((omega (arith, words_count ws)) and_then none_left)
        (λ _. ap (λ k. outcome (results (k - t)) (ledger (take (k - t) (entries_of ws)))) (words_count ws))

    pub withdraw_done : (cs : List ℕ) → Dropped (size_word ws) (values_word ws) (count_word ws) (count_word ws - t) ws cs
        → outcome (results (count_word ws - t)) cs ≡ withdraw_call ws t
    withdraw_done cs d =
        ap (outcome (results (count_word ws - t))) kept
        ∙ sym (withdraw_on_board ws b t ∙ ap (words_of (modulus_word ws) (size_word ws) (values_word ws)) step)
      where
        kept : cs ≡ layout (modulus_word ws) (size_word ws) (values_word ws) (take (count_word ws - t) (entries_of ws))
        kept =
            dropped_layout (modulus_word ws) (size_word ws) (values_word ws) (entries_of ws) (count_word ws - t) cs (board_wide ws b)
            (omega (arith, words_count ws, b.count)) (omega (arith, words_count ws))
            (subst₂ (λ k before. Dropped (size_word ws) (values_word ws) k (count_word ws - t) before cs) (sym (words_count ws)) (sym (board_layout ws b)) d)
