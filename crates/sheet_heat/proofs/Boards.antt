-- A board of one word a record stays one: open writes one where it is accepted, and take leaves one. On it, show with marks and numbers of the
-- board's own n is not refused, and nothing of what is lent to it comes through.
use mathlib.Core.Path.{◌≡◌, sym, ap, ◌∙◌, subst}
use mathlib.Core.List.{List, []}
use Prim.Native.Nat.{ℕ, ◌*◌, ◌-◌, ◌<◌}
use native.Mathlib.Nat.{mul-one}
use native.Mathlib.Omega.{arith}
use lib.IntN.{ℤ}
use lib.ListN.{length}
use Rattle.checks.specs.Told.{results}
use Rattle.checks.specs.Outcome.{Outcome, outcome}
use Rattle.field.specs.Written.{tabulate}
use Rattle.signed.specs.Balanced.{balanced_low}
use Rattle.signed.proofs.Balanced.{balanced_low_below}
use Rattle.ledger.specs.Steps.{ledger_take, record_by_record, shown_mark, shown_number}
use Rattle.ledger.specs.History.{Call, ledger_step}
use Rattle.ledger.specs.Board.{modulus_word, size_word, values_word, entries_of, ledger_of}
use Rattle.ledger.specs.Calls.{open_call, take_call, show_call}
use Rattle.ledger.proofs.LayoutBoard.{layout_words, layout_board}
use Rattle.ledger.proofs.Parse.{board_proper}
use Rattle.ledger.proofs.Proper.{empty_proper, step_proper}
use Rattle.ledger.proofs.LedgerLaws.{show_accepted}
use Rattle.ledger.proofs.WordsCalls.{take_on_board, show_on_board}
use Rattle.ledger.proofs.Histories.{open_accepted}
use Rattle.sheet_heat.specs.Sheet.{sheet_words}
use Rattle.sheet_heat.specs.Calls.{SheetBoard}

pub opened_board : (p n : ℕ) (ws : List ℕ) → (open_call p n sheet_words ws).told.number ≡ 0 → SheetBoard (open_call p n sheet_words ws).lent
opened_board p n ws e =
    let a = open_accepted p n sheet_words ws e in
    subst SheetBoard (sym a.board)
    (layout_board p n sheet_words [] a.prime a.size a.words (empty_proper p n sheet_words), layout_words p n sheet_words [])

pub take_keeps_board : (ws frame mix : List ℕ) → SheetBoard ws → SheetBoard (take_call ws frame mix).lent.0
unfolding ledger_step
take_keeps_board ws frame mix (b, one) =
    let p = modulus_word ws in
    let n = size_word ws in
    let s = values_word ws in
    let es = (ledger_take p b.prime n s (ledger_of ws) frame mix).lent.0.entries in
    subst SheetBoard (sym (ap (λ (r : Outcome (List ℕ × List ℕ)). r.lent.0) (take_on_board ws b frame mix))) (
      layout_board p n s es b.prime b.size b.words (step_proper p n s (entries_of ws) (board_proper ws b) b.prime (Call.take frame mix)),
      layout_words p n s es ∙ one,
    )

-- what show comes to on a board
pub show_board : (ws : List ℕ) (b : SheetBoard ws) (low : ℕ) (marks : List ℕ) (zs : List ℤ) → low < modulus_word ws
    → length marks ≡ size_word ws → length zs ≡ size_word ws →
    let n = size_word ws in
    let s = values_word ws in
    let es = entries_of ws in
    show_call ws low marks zs
    ≡ outcome (results (n - length es))
    (tabulate n (shown_mark (modulus_word ws) b.0.prime n s es), record_by_record n s (shown_number (modulus_word ws) b.0.prime n s es low))
show_board ws (b, one) low marks zs m h l =
    let n = size_word ws in
    let s = values_word ws in
    let many : length zs ≡ n * s = l ∙ sym (ap (λ k. n * k) one ∙ mul-one n) in
    show_on_board ws b low marks zs ∙ show_accepted (modulus_word ws) b.prime n s (entries_of ws) (board_proper ws b) low marks zs h many m

-- so it does not depend on what was lent
pub show_same : (ws : List ℕ) (b : SheetBoard ws) (low : ℕ) (marks ks : List ℕ) (zs ys : List ℤ) → low < modulus_word ws
    → length marks ≡ size_word ws → length zs ≡ size_word ws → length ks ≡ size_word ws → length ys ≡ size_word ws
    → show_call ws low marks zs ≡ show_call ws low ks ys
show_same ws b low marks ks zs ys r h l g m = show_board ws b low marks zs r h l ∙ sym (show_board ws b low ks ys r g m)

-- the old low end is below the modulus of a board
pub board_low : {ws : List ℕ} → SheetBoard ws → balanced_low (modulus_word ws) < modulus_word ws
board_low {ws} (b, one) = balanced_low_below (modulus_word ws) (omega (arith, b.prime.prime.two_or_more))
