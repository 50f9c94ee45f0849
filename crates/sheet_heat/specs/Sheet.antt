-- 01, "The sheet program and the C side": the sheet, from the bytes of the whole input to the bytes of the whole output, over the
-- ledger. "The program reads standard input: p in four bytes, n in one, then frames, each after its length in two bytes; p and
-- lengths have the most significant byte first." `proofs/SheetLaws.antt` has its equations without the bound on the frames.
use Rattle.std.specs.Prelude.{List, [], ◌∷◌, ◌++◌, ℕ, zero, suc, ltb, ℤ, pos, nat_abs, length, get_or, take, drop, replicate}
use Rattle.algebra.specs.Choice.{choose}
use Rattle.checks.specs.Refusal.{refusal_number}
use Rattle.checks.specs.InOrder.{in_order}
use Rattle.checks.specs.Told.{Told}
use Rattle.checks.specs.Outcome.{Outcome}
use Rattle.checks.specs.Prime.{IsModulus}
use Rattle.checks.specs.Sizes.{frame_sizes}
use Rattle.codec.specs.BigEndian.{number_from, number_at}
use Rattle.signed.specs.Balanced.{balanced_low}
use Rattle.ledger.specs.Ledger.{Ledger, ledger}
use Rattle.ledger.specs.Steps.{ledger_take, ledger_show}
use Rattle.sheet_text.specs.Lines.{frame_line, refused_line, record_lines, missing_line}

-- "The sheet program and 01's cases have s = 1." (02, #103)
abbrev pub sheet_words : ℕ
sheet_words = 1

-- the line of a cut header, and of a cut frame
abbrev pub cut_line : List ℕ
cut_line = refused_line 6

-- the value at a place of those that an answer carries
abbrev pub carried : ℕ → Told → ℕ
carried i t = nat_abs (get_or t.values i (pos 0))

-- "Then each record's position, a space, and its signed number or `unknown`; last `missing M`": of n records, by what show comes to
unfoldable pub ending_from : ℕ → Outcome (List ℕ × List ℤ) → List ℕ
ending_from n shown = record_lines n shown.lent.0 shown.lent.1 ++ missing_line (carried 0 shown.told)

module _ (p : ℕ) (ok : IsModulus p) (n : ℕ) where
  -- the records and the missing line of a ledger; what is lent to show is any n marks and n numbers. 02, #106: "The sheet program passes
  -- the old L", with which records are read as 01 says (signed/specs/Balanced.antt).
  unfoldable pub ledger_ending : Ledger → List ℕ
  ledger_ending l = ending_from n (ledger_show p ok n sheet_words l (balanced_low p) (replicate n 0) (replicate n (pos 0)))

  -- "a last frame cut in its length or its bytes is one `refused 6` line, then the records and the missing line"
  unfoldable pub cut_ending : Ledger → List ℕ
  cut_ending l = cut_line ++ ledger_ending l

  -- a frame that the ledger takes, with any mix of n words
  unfoldable pub ledger_takes : Ledger → List ℕ → Outcome (Ledger × List ℕ)
  ledger_takes l frame = ledger_take p ok n sheet_words l frame (replicate n 0)

  abbrev pub ledger_after : Ledger → List ℕ → Ledger
  ledger_after l frame = (ledger_takes l frame).lent.0

  -- its line: what take tells, "K the count afterwards"
  unfoldable pub ledger_line : Ledger → List ℕ → List ℕ
  ledger_line l frame = frame_line (ledger_takes l frame).told (length (ledger_after l frame).entries)

  -- what is printed for the bytes behind the header, from a ledger on, of so many frames at most: the line of each frame, and the ending
  -- where no byte is left or a frame is cut
  unfoldable pub lines_within : ℕ → Ledger → List ℕ → List ℕ
  lines_within zero l bytes = ledger_ending l
  lines_within (suc k) l [] = ledger_ending l
  lines_within (suc k) l (high ∷ []) = cut_ending l
  lines_within (suc k) l (high ∷ low ∷ rest) =
      let size = number_from 0 (high ∷ low ∷ []) in
      let frame = take size rest in
      choose (ltb (length rest) size)
      (cut_ending l)
      (ledger_line l frame ++ lines_within k (ledger_after l frame) (drop size rest))

  -- every frame has two bytes at least, so that there are no more frames than bytes
  abbrev pub lines_from : Ledger → List ℕ → List ℕ
  lines_from l bytes = lines_within (length bytes) l bytes

-- "a refused open the line `refused N` alone": the board lent has the right length and s is 1, so that open's checks are 1 and 2
unfoldable pub heat_of : (p n : ℕ) → List ℕ → List ℕ
heat_of p n bytes = in_order (frame_sizes p n sheet_words) (λ given. lines_from p given.0 n (ledger []) bytes) (λ kind. refused_line (refusal_number kind))

-- "A cut header prints the line `refused 6` alone"
unfoldable pub sheet_of : List ℕ → List ℕ
sheet_of input = choose (ltb (length input) 5) cut_line (heat_of (number_at 4 input 0) (get_or input 4 0) (drop 5 input))
