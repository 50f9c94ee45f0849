-- What show answers: refusal 11, 3 and 4, or the marks and numbers of the ledger with n minus the count.
use mathlib.Core.Path.{◌≡◌, sym, ap, ap₂, ◌∙◌}
use mathlib.Core.List.{List}
use Prim.Native.Nat.{ℕ, ◌*◌, ◌-◌, ◌≤◌, ◌<◌}
use native.Mathlib.Omega.{arith}
use lib.IntN.{ℤ}
use lib.ListN.{length}
use Rattle.checks.specs.declared.Refusal.{Refusal}
use Rattle.checks.specs.declared.Refusal.TheVariants.{Length, Number}
use Rattle.checks.specs.InOrder.{FirstFailing}
use Rattle.checks.specs.Told.{results}
use Rattle.checks.specs.Outcome.{outcome, untouched}
use Rattle.checks.proofs.InOrder.{fails_here, in_order_refused, ◌then◌}
use Rattle.field.specs.Written.{tabulate}
use Rattle.ledger.specs.Steps.{record_by_record, shown_mark, shown_number, show_checks, ledger_show}
use Rattle.ledger.specs.Board.{IsBoard, modulus_word, size_word, count_word, values_word, entries_of}
use Rattle.ledger.specs.Calls.{show_call}
use Rattle.ledger.proofs.Parse.{words_count, board_proper}
use Rattle.ledger.proofs.LedgerLaws.{show_accepted}
use Rattle.ledger.proofs.WordsCalls.{show_on_board}

module _ (ws : List ℕ) (b : IsBoard ws) (low : ℕ) (marks : List ℕ) (zs : List ℤ) where
  -- 3 and 4
  by_check : {k : Refusal} → FirstFailing (show_checks (modulus_word ws) (size_word ws) (values_word ws) low marks zs) k
      → untouched (marks, zs) k ≡ show_call ws low marks zs
  unfolding ledger_show
  by_check f = sym (show_on_board ws b low marks zs ∙ in_order_refused _ _ f)

  pub show_no_marks : (length marks ≡ size_word ws → ⊥) → untouched (marks, zs) Length ≡ show_call ws low marks zs
  show_no_marks h = by_check (fails_here h)

  module _ (l : length marks ≡ size_word ws) where
    pub show_no_numbers : (length zs ≡ size_word ws * values_word ws → ⊥) → untouched (marks, zs) Length ≡ show_call ws low marks zs
    show_no_numbers h = by_check (l then fails_here h)

    pub show_no_low : length zs ≡ size_word ws * values_word ws → modulus_word ws ≤ low → untouched (marks, zs) Number ≡ show_call ws low marks zs
    show_no_low h m = by_check (l then h then fails_here (λ c. omega arith))

    -- the marks ms and the numbers ns are the ledger's
    pub show_done : length zs ≡ size_word ws * values_word ws → low < modulus_word ws → (ms : List ℕ) (ns : List ℤ)
        → ms ≡ tabulate (size_word ws) (shown_mark (modulus_word ws) b.prime (size_word ws) (values_word ws) (entries_of ws))
        → ns ≡ record_by_record (size_word ws) (values_word ws) (shown_number (modulus_word ws) b.prime (size_word ws) (values_word ws) (entries_of ws) low)
        → outcome (results (size_word ws - count_word ws)) (ms, ns) ≡ show_call ws low marks zs
    show_done h m ms ns e f =
        ap (λ k. outcome (results (size_word ws - k)) (ms, ns)) (sym (words_count ws))
        ∙ ap₂ (λ xs ys. outcome (results (size_word ws - length (entries_of ws))) (xs, ys)) e f
        ∙ sym
        (show_on_board ws b low marks zs
        ∙ show_accepted (modulus_word ws) b.prime (size_word ws) (values_word ws) (entries_of ws) (board_proper ws b) low marks zs l h m)
