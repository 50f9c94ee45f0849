-- What the code writes is what the calls come to: a frame's line by take; the ending, the records' lines one behind the other and then
-- the missing line, by show. Show is not refused on a board, so that there is no other text.
use mathlib.Core.Path.{◌≡◌, refl, sym, ap, ◌∙◌, subst}
use mathlib.Core.List.{List, ◌++◌}
use Prim.Native.Nat.{ℕ, ◌+◌}
use native.Mathlib.Omega.{arith}
use native.Mathlib.Numerals.{add-one}
use lib.IntN.{ℤ, pos}
use lib.ListN.{length, get_or, replicate, length-replicate}
use Rattle.checks.specs.declared.Refusal.{Refusal}
use Rattle.checks.specs.Told.{Told, refused, results}
use Rattle.checks.specs.Outcome.{Outcome, outcome}
use Rattle.checks.proofs.Refusals.{refusal_number_lem}
use Rattle.codec.specs.Placed.{Put}
use Rattle.codec.proofs.Placed.{placed_none, put_then}
use Rattle.signed.specs.Balanced.{balanced_low}
use Rattle.ledger.specs.Board.{modulus_word, size_word, count_word}
use Rattle.ledger.specs.Calls.{take_call, show_call}
use Rattle.sheet_text.specs.Lines.{frame_line, record_line, record_lines, missing_line}
use Rattle.sheet_text.specs.Written.{Printed}
use Rattle.sheet_text.proofs.Written.{put_line}
use Rattle.sheet_heat.specs.Sheet.{ending_from}
use Rattle.sheet_heat.specs.Calls.{taken_line, FrameWritten, ending_of, SheetBoard}
use Rattle.sheet_heat.proofs.Boards.{take_keeps_board, show_board, show_same, board_low}

-- ---- a frame

pub frame_written : {ws frame mix out ws' mix' out' : List ℕ} {t : Told} {answer : ℕ} → outcome t (ws', mix') ≡ take_call ws frame mix
    → Printed (frame_line t (count_word ws')) out out' answer → FrameWritten ws frame mix out ws' mix' out' answer
unfolding taken_line
frame_written {out = out} {out' = out'} {answer = answer} e p =
    record {
      board_left = ap (λ (r : Outcome (List ℕ × List ℕ)). r.lent.0) e;
      mix_left = ap (λ (r : Outcome (List ℕ × List ℕ)). r.lent.1) e;
      line = subst (λ (r : Outcome (List ℕ × List ℕ)). Printed (frame_line r.told (count_word r.lent.0)) out out' answer) e p;
    }

-- and the board stays one
pub frame_keeps_board : {ws frame mix out ws' mix' out' : List ℕ} {answer : ℕ} → FrameWritten ws frame mix out ws' mix' out' answer
    → SheetBoard ws → SheetBoard ws'
frame_keeps_board {ws} {frame} {mix} w b = subst SheetBoard (sym w.board_left) (take_keeps_board ws frame mix b)

-- ---- the ending

-- no record's line stands yet
pub record_lines_none : (marks : List ℕ) (zs : List ℤ) (out : List ℕ) → Put 0 (record_lines 0 marks zs) out out 0
unfolding record_lines
record_lines_none marks zs out = record { memory = sym (placed_none 0 out); end = refl }

-- one record's line more
pub record_lines_more : (k : ℕ) (marks : List ℕ) (zs : List ℤ) {out ys ws : List ℕ} {at end : ℕ}
    → Put 0 (record_lines k marks zs) out ys at → Put at (record_line k (get_or marks k 0) (get_or zs k (pos 0))) ys ws end
    → Put 0 (record_lines (k + 1) marks zs) out ws end
unfolding record_lines
record_lines_more k marks zs p q = rw add-one (put_then (omega arith) p q)

-- the memory as it is lent makes no difference
pub ending_lent : (ws : List ℕ) → SheetBoard ws → (marks : List ℕ) (zs : List ℤ) → length marks ≡ size_word ws → length zs ≡ size_word ws
    → ending_of ws ≡ ending_from (size_word ws) (show_call ws (balanced_low (modulus_word ws)) marks zs)
unfolding ending_of
ending_lent ws b marks zs h l =
    let n = size_word ws in
    ap (ending_from n)
    (show_same ws b (balanced_low (modulus_word ws)) (replicate n 0) marks (replicate n (pos 0)) zs (board_low b) (length-replicate n 0) (length-replicate n (pos 0)) h l)

-- what show told and left is the ending
pub ending_shown : (ws : List ℕ) → SheetBoard ws → (marks ks : List ℕ) (zs ys : List ℤ) (missing : ℕ)
    → length marks ≡ size_word ws → length zs ≡ size_word ws
    → outcome (results missing) (ks, ys) ≡ show_call ws (balanced_low (modulus_word ws)) marks zs
    → ending_of ws ≡ record_lines (size_word ws) ks ys ++ missing_line missing
unfolding ending_from
ending_shown ws b marks ks zs ys missing h l e = ending_lent ws b marks zs h l ∙ ap (ending_from (size_word ws)) (sym e)

-- so the lines written are it
pub ending_written : {ws : List ℕ} → SheetBoard ws → (marks : List ℕ) (zs : List ℤ) {ks : List ℕ} {ys : List ℤ} {missing : ℕ}
    → length marks ≡ size_word ws → length zs ≡ size_word ws → length ks ≡ size_word ws
    → outcome (results missing) (ks, ys) ≡ show_call ws (balanced_low (modulus_word ws)) marks zs
    → {out mid out' : List ℕ} {at answer : ℕ} → Put 0 (record_lines (length ks) ks ys) out mid at → Put at (missing_line missing) mid out' answer
    → Printed (ending_of ws) out out' answer
ending_written {ws} b marks zs {ks} {ys} {missing} h l g e p q =
    rw (ending_shown ws b marks ks zs ys missing h l e, ← g) (put_line (put_then (omega arith) p q))

-- and it told no refusal
pub show_not_refused : (ws : List ℕ) → SheetBoard ws → (marks ks : List ℕ) (zs ys : List ℤ) (k : Refusal)
    → length marks ≡ size_word ws → length zs ≡ size_word ws
    → outcome (refused k) (ks, ys) ≡ show_call ws (balanced_low (modulus_word ws)) marks zs → ⊥
show_not_refused ws b marks ks zs ys k h l e =
    omega (arith, refusal_number_lem k, ap (λ (r : Outcome (List ℕ × List ℤ)). r.told.number) (e ∙ show_board ws b (balanced_low (modulus_word ws)) marks zs (board_low b) h l))
