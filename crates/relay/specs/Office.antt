-- Nothing leaks. 02, #107: "An office ledger opened with the same p, n and s, and fed only such frames from one unchanged state of the box,
-- never shows a record that the box's own ledger leaves open." Said of the words of two boards and of the calls on the office's: take,
-- withdraw and show in any order, each answered as the call's contract says. The theorems are in proofs/Office.antt.
use Rattle.std.specs.Prelude.{◌≡◌, ◌⊎◌, ℕ, ◌*◌, ◌<◌, ℤ, pos, length, get_or, take}
use mathlib.Core.List.{List, Memᴰ}
use Rattle.checks.specs.Prime.{IsModulus}
use Rattle.checks.specs.Refusal.{IsRefusal}
use Rattle.checks.specs.Told.{results}
use Rattle.frame.specs.Sealing.{word_of}
use Rattle.ledger.specs.Ledger.{Settled, Assignment, MeetsAll}
use Rattle.ledger.specs.Board.{modulus_word, size_word, values_word, entries_of}
use Rattle.ledger.specs.Calls.{show_call}
use Rattle.ledger.specs.History.{Call, show}
use Rattle.ledger.specs.History as calls
use Rattle.ledger.specs.Turns.{Turn}
use Rattle.ledger.specs.Demand3.{standing, words_after, reply_at}
use Rattle.relay.specs.Calls.{relay_call}

-- a frame that the box sends, its words being box: the front of the bytes that a relay left, as long as it told
pub record Sent (box frame : List ℕ) : Type 0 where
  pub wanted : List ℕ
  pub mix : List ℕ
  pub bytes : List ℕ
  pub k : ℕ
  pub done : (relay_call box wanted mix bytes).told ≡ results k
  pub front : frame ≡ take k (relay_call box wanted mix bytes).lent.1

-- "fed only such frames from one unchanged state of the box": every frame taken is one, in whatever order, however often, with any calls
-- between
abbrev pub FedBy : (box : List ℕ) → List Call → Type 0
FedBy box cs = (frame mix : List ℕ) → Memᴰ (calls.take frame mix) cs → Sent box frame

-- the box leaves record j open: not all assignments that meet its frames agree on it
abbrev pub LeavesOpen : (box : List ℕ) → ℕ → Type 0
LeavesOpen box j = Settled (modulus_word box) (size_word box) (values_word box) (entries_of box) j → ⊥

module _ (box ws : List ℕ) where
  -- what a call of a list replies, on the board that open wrote into ws for the box's p, n and s
  abbrev pub office_reply : {cs : List Call} → Turn cs → calls.Reply
  office_reply t = reply_at (modulus_word box) (size_word box) (values_word box) ws t

  -- the words of that board after the list
  abbrev pub office_words : List Call → List ℕ
  office_words cs = words_after (modulus_word box) (size_word box) (values_word box) ws cs

  -- what holds of every such list
  pub record NothingLeaks (cs : List Call) : Type 0 where
    -- "never shows a record that the box's own ledger leaves open": no show of the list marks it, and each of its numbers is 0
    pub never_shown : (t : Turn cs) (low : ℕ) (marks : List ℕ) (numbers : List ℤ) → t.call ≡ show low marks numbers
        → (IsRefusal (office_reply t).told.number → ⊥) → (j : ℕ) → j < size_word box → LeavesOpen box j
        → (get_or (office_reply t).words j 0 ≡ 0)
        × ((w : ℕ) → w < values_word box → word_of (values_word box) (office_reply t).numbers j w ≡ pos 0)
    -- and what it marks, the box's own show marks, with the same numbers
    pub shown_alike : (t : Turn cs) (low : ℕ) (marks : List ℕ) (numbers : List ℤ) → t.call ≡ show low marks numbers
        → (IsRefusal (office_reply t).told.number → ⊥) → (j : ℕ) → j < size_word box → get_or (office_reply t).words j 0 ≡ 1
        → (own-marks : List ℕ) (own-numbers : List ℤ) → length own-marks ≡ size_word box → length own-numbers ≡ size_word box * values_word box
        → (get_or (show_call box low own-marks own-numbers).lent.0 j 0 ≡ 1)
        × ((w : ℕ) → w < values_word box
        → word_of (values_word box) (show_call box low own-marks own-numbers).lent.1 j w ≡ word_of (values_word box) (office_reply t).numbers j w)
    -- of the words that the list leaves: every assignment that meets the box's frames meets those that stand in the office
    pub office_met : (x : Assignment (modulus_word box)) → MeetsAll (modulus_word box) (size_word box) (values_word box) (entries_of box) x
        → MeetsAll (modulus_word box) (size_word box) (values_word box) (entries_of (office_words cs)) x
    -- no frame of the box is refused: with a mix of n words it is new, 0, or a repeat, 100
    pub taken : (t : Turn cs) (frame mix : List ℕ) → t.call ≡ calls.take frame mix → length mix ≡ size_word box
        → ((office_reply t).told.number ≡ 0) ⊎ ((office_reply t).told.number ≡ 100)

  -- beyond the request: nothing is lost either. A show of the office that misses no more than the box's own show is the same, mark for mark and
  -- number for number
  pub record NothingLost (cs : List Call) : Type 0 where
    pub shown_whole : (t : Turn cs) (low : ℕ) (marks : List ℕ) (numbers : List ℤ) → t.call ≡ show low marks numbers
        → (IsRefusal (office_reply t).told.number → ⊥)
        → (own-marks : List ℕ) (own-numbers : List ℤ) → length own-marks ≡ size_word box → length own-numbers ≡ size_word box * values_word box
        → (office_reply t).told ≡ (show_call box low own-marks own-numbers).told
        → ((office_reply t).words ≡ (show_call box low own-marks own-numbers).lent.0)
        × ((office_reply t).numbers ≡ (show_call box low own-marks own-numbers).lent.1)

-- the request's sentence between two ledgers, each that of calls from an open with p, n and s: the box's of the calls own, the office's of the
-- calls cs on the board that open wrote into ws
abbrev pub NeverShows : (p : ℕ) → IsModulus p → (n s : ℕ) → (own : List Call) (ws : List ℕ) (cs : List Call) → Type 0
NeverShows p ok n s own ws cs =
    (t : Turn cs) (low : ℕ) (marks : List ℕ) (numbers : List ℤ) → t.call ≡ show low marks numbers
    → (IsRefusal (reply_at p n s ws t).told.number → ⊥) → (j : ℕ) → j < n → (Settled p n s (standing p ok n s own) j → ⊥)
    → (get_or (reply_at p n s ws t).words j 0 ≡ 0) × ((w : ℕ) → w < s → word_of s (reply_at p n s ws t).numbers j w ≡ pos 0)
