-- What the parts of the program do to the bytes that the reader has left and to those that the writer holds, where these are known; and
-- what is still to be written for the bytes that are left.
use Rattle.std.specs.Prelude.{◌≡◌, List, ◌++◌, ℕ, suc, ltb, Bool, length, take, drop, ◌≤◌, Option, None, Some, IfSome, ⊤}
use Rattle.std.specs.Io.KnownBytes.{Appends}
use Rattle.algebra.specs.Choice.{choose}
use Rattle.ledger.specs.Calls.{take_call}
use Rattle.sheet_heat.specs.Sheet.{cut_line}
use Rattle.sheet_heat.specs.Calls.{taken_line, ending_of, frames_by_calls}

-- the frames that the program takes at most, 2^64 - 1; no line sends as many
abbrev pub budget : ℕ
budget = 18446744073709551615

-- the bytes that the reader had left and has left, where it knows them
abbrev pub Reads : (known left : Option (List ℕ)) → (List ℕ → List ℕ → Type 0) → Type 0
Reads None left P = ⊤
Reads (Some xs) None P = ⊥
Reads (Some xs) (Some ys) P = P xs ys

-- the text that the writer holds more, where it knows what it holds
abbrev pub Writes : (held holds : Option (List ℕ)) → (List ℕ → Type 0) → Type 0
Writes held holds P = (text : List ℕ) × Appends held holds text × P text

-- what is still to be written of k frames more: for the bytes that are left, or the ending where no frame follows
abbrev pub to_write : (more : Bool) (k : ℕ) (ws mix bytes : List ℕ) → List ℕ
to_write more k ws mix bytes = choose more (frames_by_calls k ws mix bytes) (ending_of ws)

-- what is written for a frame of that size, from its bytes on, and for k more
unfoldable pub frame_by_calls : (k : ℕ) (ws mix : List ℕ) (size : ℕ) (bytes : List ℕ) → List ℕ
frame_by_calls k ws mix size bytes =
    let frame = take size bytes in
    let taken = take_call ws frame mix in
    choose (ltb (length frame) size)
    (cut_line ++ ending_of ws)
    (taken_line ws frame mix ++ frames_by_calls k taken.lent.0 taken.lent.1 (drop size bytes))

-- the text is written for that frame, and more is to write
abbrev pub FrameText : (ws mix : List ℕ) (size : ℕ) (bytes text : List ℕ) (more : Bool) (ws' mix' left : List ℕ) → Type 0
FrameText ws mix size bytes text more ws' mix' left =
    (k : ℕ) → frame_by_calls k ws mix size bytes ≡ text ++ to_write more k ws' mix' left

-- the same of the next frame, from its length on
abbrev pub NextText : (ws mix bytes text : List ℕ) (more : Bool) (ws' mix' left : List ℕ) → Type 0
NextText ws mix bytes text more ws' mix' left =
    (k : ℕ) → frames_by_calls (suc k) ws mix bytes ≡ text ++ to_write more k ws' mix' left

-- the text is written for all frames of the bytes, and the ending is to write
abbrev pub AllText : (ws mix bytes text ws' : List ℕ) → Type 0
AllText ws mix bytes text ws' = frames_by_calls budget ws mix bytes ≡ text ++ ending_of ws'

-- where the reader knows the bytes that it has, no more of them than the budget, the writer holds what is to be printed for them
abbrev pub Prints : (known held holds : Option (List ℕ)) → (List ℕ → List ℕ) → Type 0
Prints known held holds text = IfSome known (λ bytes. length bytes ≤ budget → Appends held holds (text bytes))
