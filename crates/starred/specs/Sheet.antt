-- 01, "The sheet program and the C side": the example of the sheet, from the bytes that come in to the bytes that are printed. "With
-- p = 7, n = 3 and the frames (1 2 0) 5, (0 1 3) 4, (1 3 3) 2, (1 3 3) 3, (0 0 1) 6 it prints all of" nine lines. A stream has no number of
-- words: "The sheet program and 01's cases have s = 1." (02, #103)
use Rattle.std.specs.Prelude.{◌≡◌, List, [], ◌∷◌, ◌++◌, ℕ, length}
use Rattle.codec.specs.BigEndian.{bytes_of}
use Rattle.sheet_text.specs.Text.{ascii}
use Rattle.sheet_heat.specs.Sheet.{sheet_of}
use Rattle.starred.specs.Heat.{HeatFrame, HeatExample, sheet_heat, unsettled_heat}

-- what the sheet reads of a heat: "p in four bytes, n in one, then frames, each after its length in two bytes"
unfoldable pub frames_stream : List HeatFrame → List ℕ
frames_stream [] = []
frames_stream (f ∷ fs) = bytes_of 2 (length f.bytes) ++ (f.bytes ++ frames_stream fs)

unfoldable pub stream_of : HeatExample → List ℕ
stream_of h = bytes_of 4 h.modulus ++ (h.size ∷ frames_stream h.frames)

-- a heat of one word a record, and what is printed of it
pub record SheetExample : Type 0 where
  pub heat : HeatExample
  pub printed : List ℕ

-- 01's nine lines
unfoldable pub nine_lines : SheetExample
nine_lines = record { heat = sheet_heat; printed = ascii "new 1\nnew 2\nrepeat 2\nconflict 2\nnew 3\n0 -2\n1 0\n2 -1\nmissing 0\n" }

-- of the heat that settles no record
unfoldable pub unknown_lines : SheetExample
unknown_lines = record { heat = unsettled_heat; printed = ascii "new 1\nnew 2\n0 unknown\n1 unknown\n2 unknown\nmissing 1\n" }

unfoldable pub sheet_examples : List SheetExample
sheet_examples = nine_lines ∷ unknown_lines ∷ []

-- the sheet of the heat is what is printed, to the byte
abbrev pub Prints : SheetExample → Type 0
Prints e = sheet_of (stream_of e.heat) ≡ e.printed
