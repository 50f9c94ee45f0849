-- What document 02, #107, promises of relay, said of the outcome o of a call on the words of a board: of what it tells, and of the mix and
-- the bytes that it leaves. Frames, assignments and meeting are the ledger's own. That the call keeps these promises is shown in
-- proofs/RelayCall.antt.
use Rattle.std.specs.Prelude.{◌≡◌, ◌↔◌, List, ℕ, ◌≤◌, length, take, drop}
use Rattle.checks.specs.Told.{results}
use Rattle.checks.specs.Outcome.{Outcome, outcome}
use Rattle.words.specs.Words.{Below}
use Rattle.frame.specs.Format.{longest}
use Rattle.frame.specs.Calls.{write_call}
use Rattle.ledger.specs.Ledger.{Entry, entry, Assignment, Meets, MeetsAll, InSpan}
use Rattle.ledger.specs.Steps.{repeat_told}
use Rattle.ledger.specs.Board.{IsBoard, modulus_word, size_word, values_word, entries_of}
use Rattle.ledger.specs.Calls.{take_call}
use Rattle.ledger.specs.Answers.{IsMix}
use Rattle.ledger.specs.Honest.{ReadsAs}

-- what the frames es say of a frame: every assignment that meets them meets it
abbrev pub Implied : (p n s : ℕ) → List Entry → Entry → Type 0
Implied p n s es e = (x : Assignment p) → MeetsAll p n s es x → Meets p n s e x

module _ (ws wanted mix bytes : List ℕ) where
  -- what is lent for a board's relay, as far as 3 and 4 ask
  pub record Lent : Type 0 where
    pub wanted_long : length wanted ≡ size_word ws
    pub mix_long : length mix ≡ size_word ws
    pub bytes_long : length bytes ≡ longest (values_word ws)
    pub below : Below (modulus_word ws) wanted

  -- "refuse exactly if there is none", by "15, the wanted row is no combination; nothing is written"
  pub record RelayJudges (o : Outcome (List ℕ × List ℕ)) : Type 0 where
    pub fifteen_exactly :
        (o.told.number ≡ 15)
        ↔ (IsBoard ws × (Lent × (InSpan (modulus_word ws) (size_word ws) (entries_of ws) wanted → ⊥)))
    pub done_exactly : (200 ≤ o.told.number) ↔ (IsBoard ws × (Lent × InSpan (modulus_word ws) (size_word ws) (entries_of ws) wanted))
    pub else_untouched : (200 ≤ o.told.number → ⊥) → o.lent ≡ (mix, bytes)

  -- what a relay that is not refused tells and leaves, where the box's frames are es
  pub record RelayDone (o : Outcome (List ℕ × List ℕ)) : Type 0 where
    -- the frame's length, and its values
    pub k : ℕ
    pub values : List ℕ
    pub told : o.told ≡ results k
    -- "with the combination in a lent mix of n words": the only one, then zeros
    pub mix_is : IsMix (modulus_word ws) (size_word ws) (entries_of ws) wanted o.lent.0
    -- "write, as writing does": what the call write tells and leaves for the wanted row and the values; bytes after the frame keep
    pub written : write_call (modulus_word ws) (size_word ws) (values_word ws) wanted values bytes ≡ outcome (results k) o.lent.1
    pub behind : drop k o.lent.1 ≡ drop k bytes
    -- reading the frame gives the wanted row, and the values
    pub reads : ReadsAs (modulus_word ws) (size_word ws) (values_word ws) (take k o.lent.1) wanted values
    -- "the one frame": every assignment that meets the box's frames meets it, and of the frames with the wanted row no other one
    pub implied : Implied (modulus_word ws) (size_word ws) (values_word ws) (entries_of ws) (entry wanted values)
    pub only : (frame vs : List ℕ) → Below 256 frame → ReadsAs (modulus_word ws) (size_word ws) (values_word ws) frame wanted vs
        → Implied (modulus_word ws) (size_word ws) (values_word ws) (entries_of ws) (entry wanted vs) → frame ≡ take k o.lent.1
    -- the box's own board answers it repeat, with the same mix
    pub repeats : (lent : List ℕ) → length lent ≡ size_word ws
        → take_call ws (take k o.lent.1) lent ≡ outcome (repeat_told (length (entries_of ws))) (ws, o.lent.0)
