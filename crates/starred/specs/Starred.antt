-- 01, "Examples": all starred examples, of tables, frames and boards, as one list in the document's order, and what it is for one
-- to hold: an equation of the definitions that the calls' contracts name. The tables and frames stand in their own crates.
use Rattle.std.specs.Prelude.{◌≡◌, List, [], ◌∷◌, ◌++◌, map, ℕ, length}
use Rattle.checks.specs.Outcome.{outcome}
use Rattle.matrix.specs.Examples.{TableExample, table_examples, Holds as TableHolds}
use Rattle.frame.specs.Examples.{FrameExample, frame_examples, FrameHolds}
use Rattle.ledger.specs.Board.{board_length, layout}
use Rattle.ledger.specs.Calls.{open_call, take_call}
use Rattle.starred.specs.Heat.{repeat, conflict, HeatFrame, told, mix_after, entry_of, kept}

-- a frame on a fresh board for records of so many words
pub record BoardExample : Type 0 where
  pub modulus : ℕ
  pub size : ℕ
  pub words : ℕ
  pub taken : HeatFrame

-- "n = 3, p = 7: `00 00000000` on a fresh board is a repeat, and with value 1 it gives 9"; "the cases with p = 7 are recut to this
-- width" (02, #111), one byte: `00 00` and `00 01`; "01's cases have s = 1" (02, #103)
unfoldable pub board_examples : List BoardExample
board_examples =
    record {
      modulus = 7;
      size = 3;
      words = 1;
      taken =
          record {
            bytes = 0x00 ∷ 0x00 ∷ [];
            multipliers = 0 ∷ 0 ∷ 0 ∷ [];
            values = 0 ∷ [];
            answer = repeat 0 (0 ∷ 0 ∷ 0 ∷ []);
          };
    }
    ∷ record {
      modulus = 7;
      size = 3;
      words = 1;
      taken =
          record {
            bytes = 0x00 ∷ 0x01 ∷ [];
            multipliers = 0 ∷ 0 ∷ 0 ∷ [];
            values = 1 ∷ [];
            answer = conflict (0 ∷ 0 ∷ 0 ∷ []);
          };
    }
    ∷ []

-- a starred example
pub data Starred : Type 0 where
  table : TableExample → Starred
  frame : FrameExample → Starred
  board : BoardExample → Starred

-- all of them, as the document has them
unfoldable pub starred : List Starred
starred = map table table_examples ++ (map frame frame_examples ++ map board board_examples)

-- on the board that open wrote the frame is answered so, whatever the memory lent to open and to take holds; what is then laid out is
-- the frame if it is new, otherwise a fresh board still
abbrev pub BoardHolds : BoardExample → Type 0
BoardHolds e =
    (ws mix : List ℕ) → length ws ≡ board_length e.size e.words → length mix ≡ e.size
    → take_call (open_call e.modulus e.size e.words ws).lent e.taken.bytes mix
    ≡ outcome (told e.taken.answer)
    (layout e.modulus e.size e.words (kept e.taken.answer (entry_of e.taken)), mix_after e.taken.answer mix)

abbrev pub Holds : Starred → Type 0
Holds (table e) = TableHolds e
Holds (frame e) = FrameHolds e
Holds (board e) = BoardHolds e
