-- What open, take, withdraw and show answer and leave in lent memory, for every input. A call on words that are a board is
-- the ledger's step on the entries that they hold, laid out again; on other words it is refusal 11, before any check of the step.
use Rattle.std.specs.Prelude.{List, [], ℕ, ℤ}
use Rattle.checks.specs.declared.Refusal.{Refusal}
use Rattle.checks.specs.declared.Refusal.TheVariants.{Length, NotBoard}
use Rattle.checks.specs.InOrder.{Checks, passed, ◌else◌, ◌⨾◌, then_checks, in_order}
use Rattle.checks.specs.Told.{done}
use Rattle.checks.specs.Outcome.{Outcome, outcome, untouched}
use Rattle.checks.specs.Decide.{long?}
use Rattle.checks.specs.Sizes.{frame_sizes}
use Rattle.ledger.specs.Ledger.{Ledger}
use Rattle.ledger.specs.Steps.{ledger_take, ledger_withdraw, ledger_show}
use Rattle.ledger.specs.Board.{board_length, modulus_word, size_word, values_word, layout, board_of, ledger_of}
use Rattle.ledger.specs.Decide.{board?}

-- ---- open: 1, 2, 12, 3, then writes a fresh board

abbrev pub open_checks : (p n s : ℕ) (ws : List ℕ) → Checks Refusal
open_checks p n s ws = then_checks (frame_sizes p n s) (λ _. long? ws (board_length n s) else Length ⨾ passed)

unfoldable pub open_call : (p n s : ℕ) → List ℕ → Outcome (List ℕ)
open_call p n s ws = in_order (open_checks p n s ws) (λ _. outcome done (layout p n s [])) (untouched ws)

-- ---- the calls on a board: 11, then the ledger's step

abbrev pub board_checks : List ℕ → Checks Refusal
board_checks ws = board? ws else NotBoard ⨾ passed

-- the outcome of a step, with the ledger laid out
abbrev pub laid_out : (p n s : ℕ) → Outcome (Ledger × List ℕ) → Outcome (List ℕ × List ℕ)
laid_out p n s r = outcome r.told (board_of p n s r.lent.0, r.lent.1)

unfoldable pub take_call : (ws frame mix : List ℕ) → Outcome (List ℕ × List ℕ)
take_call ws frame mix =
    in_order (board_checks ws)
    (λ hs.
    laid_out (modulus_word ws) (size_word ws) (values_word ws)
    (ledger_take (modulus_word ws) hs.0.prime (size_word ws) (values_word ws) (ledger_of ws) frame mix))
    (untouched (ws, mix))

abbrev pub words_of : (p n s : ℕ) → Outcome Ledger → Outcome (List ℕ)
words_of p n s r = outcome r.told (board_of p n s r.lent)

unfoldable pub withdraw_call : (ws : List ℕ) (t : ℕ) → Outcome (List ℕ)
withdraw_call ws t =
    in_order (board_checks ws) (λ _. words_of (modulus_word ws) (size_word ws) (values_word ws) (ledger_withdraw (ledger_of ws) t))
    (untouched ws)

unfoldable pub show_call : (ws : List ℕ) (low : ℕ) (marks : List ℕ) (zs : List ℤ) → Outcome (List ℕ × List ℤ)
show_call ws low marks zs =
    in_order (board_checks ws) (λ hs. ledger_show (modulus_word ws) hs.0.prime (size_word ws) (values_word ws) (ledger_of ws) low marks zs)
    (untouched (marks, zs))
