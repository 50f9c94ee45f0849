-- Heats from open to show, as data, and what it is for one to hold of the definitions that the calls' contracts name. 01, "The
-- sheet program and the C side": "With p = 7, n = 3 and the frames (1 2 0) 5, (0 1 3) 4, (1 3 3) 2, (1 3 3) 3, (0 0 1) 6 it prints
-- all of: `new 1`, `new 2`, `repeat 2`, `conflict 2`, `new 3`, `0 -2`, `1 0`, `2 -1`, `missing 0`." A number of these frames has one byte
-- (02, #111), and a record one word: "The sheet program and 01's cases have s = 1." (02, #103). Heats with three words a record follow.
use Rattle.std.specs.Prelude.{◌≡◌, List, [], ◌∷◌, ◌++◌, ℕ, suc, ◌*◌, ℤ, pos, negsuc, length}
use Rattle.checks.specs.declared.Refusal.TheVariants.{Conflict}
use Rattle.checks.specs.Told.{Told, done, refused, results}
use Rattle.signed.specs.Balanced.{balanced_low}
use Rattle.ledger.specs.Ledger.{Entry, entry}
use Rattle.ledger.specs.Board.{board_length, layout}
use Rattle.ledger.specs.Steps.{new_told, repeat_told}
use Rattle.ledger.specs.Calls.{open_call}
use Rattle.ledger.specs.History.{Call, Reply, reply, after, board_run}

-- ---- heats

-- what take answers: new or repeat with the count, or a conflict; beside the last two the mix that it writes
pub data Answer : Type 0 where
  new : (count : ℕ) → Answer
  repeat : (count : ℕ) (mix : List ℕ) → Answer
  conflict : (mix : List ℕ) → Answer

-- a frame's bytes, the multipliers and the values that they read as, and its answer
pub record HeatFrame : Type 0 where
  pub bytes : List ℕ
  pub multipliers : List ℕ
  pub values : List ℕ
  pub answer : Answer

-- the modulus, the number of records and the words of each; the frames in the order in which they come; then the marks that show gives,
-- its numbers, record after record, and the missing count
pub record HeatExample : Type 0 where
  pub modulus : ℕ
  pub size : ℕ
  pub words : ℕ
  pub frames : List HeatFrame
  pub marks : List ℕ
  pub numbers : List ℤ
  pub missing : ℕ

-- (1 2 0) 5 and (0 1 3) 4
unfoldable pub first_frames : List HeatFrame
first_frames =
    record {
      bytes = 0x03 ∷ 1 ∷ 2 ∷ 5 ∷ [];
      multipliers = 1 ∷ 2 ∷ 0 ∷ [];
      values = 5 ∷ [];
      answer = new 1;
    }
    ∷ record {
      bytes = 0x06 ∷ 1 ∷ 3 ∷ 4 ∷ [];
      multipliers = 0 ∷ 1 ∷ 3 ∷ [];
      values = 4 ∷ [];
      answer = new 2;
    }
    ∷ []

-- 01's heat; 1 3 3 is the sum of the first two rows, 2 the sum of their values
unfoldable pub sheet_heat : HeatExample
sheet_heat =
    record {
      modulus = 7;
      size = 3;
      words = 1;
      frames =
          first_frames
          ++ (record {
            bytes = 0x07 ∷ 1 ∷ 3 ∷ 3 ∷ 2 ∷ [];
            multipliers = 1 ∷ 3 ∷ 3 ∷ [];
            values = 2 ∷ [];
            answer = repeat 2 (1 ∷ 1 ∷ 0 ∷ []);
          }
          ∷ record {
            bytes = 0x07 ∷ 1 ∷ 3 ∷ 3 ∷ 3 ∷ [];
            multipliers = 1 ∷ 3 ∷ 3 ∷ [];
            values = 3 ∷ [];
            answer = conflict (1 ∷ 1 ∷ 0 ∷ []);
          }
          ∷ record {
            bytes = 0x04 ∷ 1 ∷ 6 ∷ [];
            multipliers = 0 ∷ 0 ∷ 1 ∷ [];
            values = 6 ∷ [];
            answer = new 3;
          }
          ∷ []);
      marks = 1 ∷ 1 ∷ 1 ∷ [];
      numbers = negsuc 1 ∷ pos 0 ∷ negsuc 0 ∷ [];
      missing = 0;
    }

-- 01, "Three ways to a wrong sheet": "With (1 2 0), (0 1 3) columns 0 and 1 are in I, and no record is settled."
unfoldable pub unsettled_heat : HeatExample
unsettled_heat =
    record {
      modulus = 7;
      size = 3;
      words = 1;
      frames = first_frames;
      marks = 0 ∷ 0 ∷ 0 ∷ [];
      numbers = pos 0 ∷ pos 0 ∷ pos 0 ∷ [];
      missing = 1;
    }

-- 02, #103: "Splits and reaction times travel with the finish." Three words a record: the finish and the split, against the pace line,
-- and the reaction time, below 0 where the swimmer left too early. Modulo 251 the records are (-12 5 64), (31 -3 71) and (104 40 -4). A
-- frame has one multiplier for each record and one value for each word: (1 2 1) 154 39 202 and (3 2 1) 130 49 79.
unfoldable pub split_frames : List HeatFrame
split_frames =
    record { bytes = 0x07 ∷ 1 ∷ 2 ∷ 1 ∷ 154 ∷ 39 ∷ 202 ∷ []; multipliers = 1 ∷ 2 ∷ 1 ∷ []; values = 154 ∷ 39 ∷ 202 ∷ []; answer = new 1 }
    ∷ record { bytes = 0x07 ∷ 3 ∷ 2 ∷ 1 ∷ 130 ∷ 49 ∷ 79 ∷ []; multipliers = 3 ∷ 2 ∷ 1 ∷ []; values = 130 ∷ 49 ∷ 79 ∷ []; answer = new 2 }
    ∷ []

-- 4 4 2 is the sum of the two rows, 33 88 30 the sum of their values. "A frame is a repeat only if all s values agree": with 31 as its last
-- value it is a conflict, though the values of finish and split agree. The last frame settles all records.
unfoldable pub splits_heat : HeatExample
splits_heat =
    record {
      modulus = 251;
      size = 3;
      words = 3;
      frames =
          split_frames
          ++ (record { bytes = 0x07 ∷ 4 ∷ 4 ∷ 2 ∷ 33 ∷ 88 ∷ 30 ∷ []; multipliers = 4 ∷ 4 ∷ 2 ∷ []; values = 33 ∷ 88 ∷ 30 ∷ []; answer = repeat 2 (1 ∷ 1 ∷ 0 ∷ []) }
          ∷ record { bytes = 0x07 ∷ 4 ∷ 4 ∷ 2 ∷ 33 ∷ 88 ∷ 31 ∷ []; multipliers = 4 ∷ 4 ∷ 2 ∷ []; values = 33 ∷ 88 ∷ 31 ∷ []; answer = conflict (1 ∷ 1 ∷ 0 ∷ []) }
          ∷ record { bytes = 0x02 ∷ 1 ∷ 31 ∷ 248 ∷ 71 ∷ []; multipliers = 0 ∷ 1 ∷ 0 ∷ []; values = 31 ∷ 248 ∷ 71 ∷ []; answer = new 3 }
          ∷ []);
      marks = 1 ∷ 1 ∷ 1 ∷ [];
      numbers = negsuc 11 ∷ pos 5 ∷ pos 64 ∷ pos 31 ∷ negsuc 2 ∷ pos 71 ∷ pos 104 ∷ pos 40 ∷ negsuc 3 ∷ [];
      missing = 0;
    }

-- the first two of these frames differ in record 0's multiplier alone: that record is settled, in all its words, and the other two in none
unfoldable pub first_splits_heat : HeatExample
first_splits_heat =
    record {
      modulus = 251;
      size = 3;
      words = 3;
      frames = split_frames;
      marks = 1 ∷ 0 ∷ 0 ∷ [];
      numbers = negsuc 11 ∷ pos 5 ∷ pos 64 ∷ pos 0 ∷ pos 0 ∷ pos 0 ∷ pos 0 ∷ pos 0 ∷ pos 0 ∷ [];
      missing = 1;
    }

unfoldable pub heat_examples : List HeatExample
heat_examples = sheet_heat ∷ unsettled_heat ∷ splits_heat ∷ first_splits_heat ∷ []

-- ---- what it is for a heat to hold

-- what is told of a frame so answered, what becomes of the mix lent to it, and what of the frame then stands
abbrev pub told : Answer → Told
told (new count) = new_told count
told (repeat count mix) = repeat_told count
told (conflict mix) = refused Conflict

abbrev pub mix_after : Answer → List ℕ → List ℕ
mix_after (new count) lent = lent
mix_after (repeat count mix) lent = mix
mix_after (conflict mix) lent = mix

abbrev pub entry_of : HeatFrame → Entry
entry_of f = entry f.multipliers f.values

abbrev pub kept : Answer → Entry → List Entry
kept (new count) e = e ∷ []
kept (repeat count mix) e = []
kept (conflict mix) e = []

-- the takes of the frames, the first with the mix lent 0, the next with lent 1, and so on; their replies; and the entries that
-- stand after them
unfoldable pub takes : List HeatFrame → (lent : ℕ → List ℕ) → List Call
takes [] lent = []
takes (f ∷ fs) lent = Call.take f.bytes (lent 0) ∷ takes fs (λ i. lent (suc i))

unfoldable pub replies : List HeatFrame → (lent : ℕ → List ℕ) → List Reply
replies [] lent = []
replies (f ∷ fs) lent = reply (told f.answer) (mix_after f.answer (lent 0)) [] ∷ replies fs (λ i. lent (suc i))

unfoldable pub kept_entries : List HeatFrame → List Entry
kept_entries [] = []
kept_entries (f ∷ fs) = kept f.answer (entry_of f) ++ kept_entries fs

-- memory lent to open, to the takes and to show, of the lengths named
pub record HeatRoom (n s : ℕ) (ws : List ℕ) (mixes : ℕ → List ℕ) (marks : List ℕ) (numbers : List ℤ) : Type 0 where
  pub ws_long : length ws ≡ board_length n s
  pub mixes_long : (i : ℕ) → length (mixes i) ≡ n
  pub marks_long : length marks ≡ n
  pub numbers_long : length numbers ≡ n * s

-- open is done, and the frames and a show after it are answered, and leave the board and the memory lent to them, as the heat says,
-- whatever the lent memory holds. 02, #106: "The old reading is L = (p - 1)/2 rounded down, and the cases in 01 are read with that."; the
-- other heats are too.
pub record HeatHolds (h : HeatExample) : Type 0 where
  pub opens : (ws : List ℕ) → length ws ≡ board_length h.size h.words → (open_call h.modulus h.size h.words ws).told ≡ done
  pub goes : (ws : List ℕ) (mixes : ℕ → List ℕ) (marks : List ℕ) (numbers : List ℤ) → HeatRoom h.size h.words ws mixes marks numbers
      → board_run (open_call h.modulus h.size h.words ws).lent
      (takes h.frames mixes ++ (Call.show (balanced_low h.modulus) marks numbers ∷ []))
      ≡ after (layout h.modulus h.size h.words (kept_entries h.frames))
      (replies h.frames mixes ++ (reply (results h.missing) h.marks h.numbers ∷ []))
