-- What the calls write of a sheet, over the very functions that the contracts of `board_calls` and `sheet_text` name: a frame's
-- line, the ending, and all that a program writes which reads, calls these and writes.
use Rattle.std.specs.Prelude.{◌≡◌, List, [], ◌∷◌, ◌++◌, ℕ, zero, suc, eqb, ℤ, pos, nat_abs, length, take, drop, replicate}
use Rattle.algebra.specs.Choice.{choose}
use Rattle.checks.specs.Told.{Told}
use Rattle.signed.specs.Balanced.{balanced_low}
use Rattle.ledger.specs.Board.{modulus_word, size_word, count_word, values_word, IsBoard}
use Rattle.ledger.specs.Calls.{open_call, take_call, show_call}
use Rattle.sheet_text.specs.Lines.{frame_line, refused_line}
use Rattle.sheet_text.specs.Written.{Printed}
use Rattle.sheet_text.specs.Input.{header_call, frame_start, frame_body}
use Rattle.sheet_heat.specs.Sheet.{sheet_words, cut_line, carried, ending_from}

-- the line of a frame: what take tells, and the count that it leaves
unfoldable pub taken_line : (ws frame mix : List ℕ) → List ℕ
taken_line ws frame mix = let taken = take_call ws frame mix in frame_line taken.told (count_word taken.lent.0)

-- the board and the mix are as take leaves them, and the frame's line stands at the front of the buffer
pub record FrameWritten (ws frame mix out ws' mix' out' : List ℕ) (answer : ℕ) : Type 0 where
  pub board_left : ws' ≡ (take_call ws frame mix).lent.0
  pub mix_left : mix' ≡ (take_call ws frame mix).lent.1
  pub line : Printed (taken_line ws frame mix) out out' answer

-- the records and the missing line of a board, with the old low end; what is lent to show is any marks and numbers of the board's own n
unfoldable pub ending_of : List ℕ → List ℕ
ending_of ws =
    let n = size_word ws in ending_from n (show_call ws (balanced_low (modulus_word ws)) (replicate n 0) (replicate n (pos 0)))

-- the board of a sheet: one word a record
abbrev pub SheetBoard : List ℕ → Type 0
SheetBoard ws = IsBoard ws × (values_word ws ≡ sheet_words)

-- ---- a program that reads, calls and writes

-- going on by what is told of the input (`frame_told`): 0 with no value is its end, 0 with a value the length of a frame, else it is cut
abbrev by_value : {A : Type 0} → List ℤ → A → (ℕ → A) → A
by_value [] end frame = end
by_value (z ∷ zs) end frame = frame (nat_abs z)

abbrev pub by_input : {A : Type 0} → Told → (end cut : A) → (ℕ → A) → A
by_input t end cut frame = choose (eqb t.number 0) (by_value t.values end frame) cut

-- the frames of the bytes, one after the other and no more than the budget: the two bytes of a length, or as many as came, then
-- those of the frame, or as many as came; each take is lent the board and the mix as the last one left them
unfoldable pub frames_by_calls : (budget : ℕ) → (ws mix bytes : List ℕ) → List ℕ
frames_by_calls zero ws mix bytes = ending_of ws
frames_by_calls (suc k) ws mix bytes =
    let cut = cut_line ++ ending_of ws in
    let rest = drop 2 bytes in
    by_input (frame_start (take 2 bytes)) (ending_of ws) cut
    (λ size.
    let frame = take size rest in
    let taken = take_call ws frame mix in
    by_input (frame_body size (length frame)) cut cut
    (λ _. taken_line ws frame mix ++ frames_by_calls k taken.lent.0 taken.lent.1 (drop size rest)))

-- the whole input: the header, or as much of it as came, then open, then the frames. What is lent for n records, the words of a board
-- and a mix, has any contents.
unfoldable pub sheet_by_calls : (board mix : ℕ → List ℕ) (budget : ℕ) → List ℕ → List ℕ
sheet_by_calls board mix budget input =
    let header = header_call (take 5 input) in
    let n = carried 1 header in
    let opened = open_call (carried 0 header) n sheet_words (board n) in
    choose (eqb header.number 0)
    (choose (eqb opened.told.number 0)
    (frames_by_calls budget opened.lent (mix n) (drop 5 input))
    (refused_line opened.told.number))
    cut_line
