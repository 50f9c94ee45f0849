-- Clash beside the board, for the referee: beyond document 02. What a 9 of take says of frames, when a log has a frame, and what a fresh
-- board answers to the frames of a log, taken one after the other. The theorems are in proofs/AfterConflict.antt and FreshBoard.antt.
use Rattle.std.specs.Prelude.{◌≡◌, List, [], ◌∷◌, ◌++◌, ℕ, zero, suc, ◌<◌, length, get_or}
use Rattle.algebra.specs.Choice.{choose}
use Rattle.checks.specs.declared.Refusal.TheVariants.{Conflict}
use Rattle.checks.specs.Prime.{IsModulus}
use Rattle.checks.specs.Told.{refused}
use Rattle.frame.specs.Format.{frame_of}
use Rattle.frame.specs.Reading.{accepted, read_frame}
use Rattle.ledger.specs.Ledger.{Entry, entry, no_entry, Assignment, Meets, MeetsAll}
use Rattle.ledger.specs.Board.{board_length, layout}
use Rattle.ledger.specs.Calls.{open_call, take_call}
use Rattle.clash.specs.Calls.{frames_of, log_rows}

-- the frame reads as multipliers and values, and no assignment meets it and all standing frames
pub record Conflicts (p n s : ℕ) (es : List Entry) (frame : List ℕ) : Type 0 where
  pub multipliers : List ℕ
  pub values : List ℕ
  pub read : read_frame p n s frame ≡ accepted multipliers values
  pub none : (x : Assignment p) → MeetsAll p n s es x → Meets p n s (entry multipliers values) x → ⊥

-- a frame is in a log
abbrev pub Logs : (m n s : ℕ) (log : List ℕ) → Entry → Type 0
Logs m n s log e = (i : ℕ) × ((i < m) × (get_or (frames_of m n s log) i no_entry ≡ e))

module _ (p : ℕ) (ok : IsModulus p) (m n s : ℕ) (log : List ℕ) where
  -- frame t of a log, and the bytes that are written for it
  abbrev pub frame_at : ℕ → Entry
  frame_at t = get_or (frames_of m n s log) t no_entry

  abbrev pub sent_at : ℕ → List ℕ
  sent_at t = frame_of p n (frame_at t).multipliers (frame_at t).values

  -- the frames of J among the first t, in their order, and the words of a board on which they stand
  unfoldable pub standing_at : ℕ → List Entry
  standing_at zero = []
  standing_at (suc t) = choose (log_rows p ok m n s log t) (standing_at t ++ (frame_at t ∷ [])) (standing_at t)

  abbrev pub board_at : ℕ → List ℕ
  board_at t = layout p n s (standing_at t)

  -- a board from open takes the first y frames one after the other, as new those of J and as repeats the others, and refuses frame y by 9
  pub record TakenTo (y : ℕ) : Type 0 where
    pub opened : (ws : List ℕ) → length ws ≡ board_length n s → (open_call p n s ws).lent ≡ board_at 0
    pub earlier :
        (t : ℕ) → t < y → (mix : List ℕ) → length mix ≡ n
        → ((take_call (board_at t) (sent_at t) mix).told.number ≡ choose (log_rows p ok m n s log t) 0 100)
        × ((take_call (board_at t) (sent_at t) mix).lent.0 ≡ board_at (suc t))
    pub last : (mix : List ℕ) → length mix ≡ n → (take_call (board_at y) (sent_at y) mix).told ≡ refused Conflict
