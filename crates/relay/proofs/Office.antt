-- Nothing leaks: what a sent frame reads as is met by every assignment that meets the box's frames, so these assignments meet what stands in
-- the office after every list of calls. Then all that the office agrees on the box agrees on, and shows alike; by demand 3 it is so of the
-- board's words and replies.
use mathlib.Core.Path.{◌≡◌, sym, ap, ◌∙◌, subst}
use mathlib.Core.Logic.{◌⊎◌, inl, inr}
use mathlib.Core.List.Memᴰ
use mathlib.Core.List.{List, Memᴰ}
use Prim.Native.Nat.{ℕ, ◌*◌, ◌<◌}
use native.Mathlib.Omega.{arith}
use lib.IntN.{ℤ, pos}
use lib.ListN.{length, get_or, take, replicate, length-replicate}
use Rattle.checks.specs.Refusal.{IsRefusal}
use Rattle.checks.specs.Told.{Told}
use Rattle.checks.specs.Outcome.{Outcome}
use Rattle.frame.specs.Reading.{accepted, read_frame}
use Rattle.frame.specs.Sealing.{word_of}
use Rattle.frame.proofs.Calls.{sizes_hold, read_told}
use Rattle.ledger.specs.Ledger.{Entry, entry, Ledger, ledger, Assignment, Meets, MeetsAll, InSpan, Settled}
use Rattle.ledger.specs.Board.{IsBoard, modulus_word, size_word, values_word, entries_of}
use Rattle.ledger.specs.Calls.{open_call, show_call}
use Rattle.ledger.specs.History.{Call, Reply, After, reply, ledger_step}
use Rattle.ledger.specs.Decide.{in_span?}
use Rattle.ledger.specs.Steps.{take_accepted}
use Rattle.ledger.specs.Turns.{Turn, reply_of}
use Rattle.ledger.specs.Demand3.{standing}
use Rattle.ledger.specs.Answers.{Shows}
use Rattle.ledger.proofs.Parse.{board_proper}
use Rattle.ledger.proofs.LedgerLaws.{standing_met, show_accepted, take_accepted_lem, take_new, take_repeat}
use Rattle.ledger.proofs.TakenFrames.{met_gives_values, AllAsRead, each_standing, each_before}
use Rattle.ledger.proofs.Demand3.{demand_3, standing_proper, turn_replied}
use Rattle.ledger.proofs.LayoutBoard.{layout_entries, wide_entries}
use Rattle.ledger.proofs.WordsCalls.{show_on_board}
use Rattle.ledger.proofs.Shown.{show_shows}
use Rattle.relay.specs.Calls.{relay_call}
use Rattle.relay.specs.Promises.{Implied}
use Rattle.relay.specs.Office.{Sent, FedBy, LeavesOpen, office_reply, office_words, NothingLeaks, NothingLost}
use Rattle.relay.proofs.SameFrames.{shows_same}
use Rattle.relay.proofs.RelayCall.{relay_judges, relay_call_done}

module _ (box : List ℕ) (b : IsBoard box) where
  abbrev p : ℕ
  p = modulus_word box

  abbrev n : ℕ
  n = size_word box

  abbrev s : ℕ
  s = values_word box

  abbrev es : List Entry
  es = entries_of box

  -- what a sent frame reads as: the wanted row, with values that all who meet the box's frames meet
  pub record SentAs (frame : List ℕ) : Type 0 where
    pub row : List ℕ
    pub values : List ℕ
    pub read : read_frame p n s frame ≡ accepted row values
    pub implied : Implied p n s es (entry row values)
    pub spanned : InSpan p n es row

  pub sent_as : (frame : List ℕ) → Sent box frame → SentAs frame
  sent_as frame sent =
      let number = ap (λ (t : Told). t.number) sent.done in
      let d = relay_call_done box sent.wanted sent.mix sent.bytes (λ r. omega (arith, r.1)) in
      let same : d.k ≡ sent.k = omega (arith, ap (λ (t : Told). t.number) d.told) in
      let room : List ℕ = replicate n 0 in
      let values_room : List ℕ = replicate s 0 in
      let front = sent.front ∙ ap (λ k. take k (relay_call box sent.wanted sent.mix sent.bytes).lent.1) (sym same) in
      record {
        row = sent.wanted;
        values = d.values;
        read =
            ap (read_frame p n s) front
            ∙ read_told p n s _ room values_room sent.wanted d.values (sizes_hold p n s b.prime b.size b.words)
            (length-replicate n 0) (length-replicate s 0) (d.reads room values_room (length-replicate n 0) (length-replicate s 0));
        implied = d.implied;
        spanned = ((relay_judges box sent.wanted sent.mix sent.bytes).done_exactly.0 (omega arith)).1.1;
      }

  -- whatever else it is read as is this
  pub read_once : (frame : List ℕ) (d : SentAs frame) (xs vs : List ℕ) → read_frame p n s frame ≡ accepted xs vs → entry d.row d.values ≡ entry xs vs
  read_once frame d xs vs e =
      let found : accepted d.row d.values ≡ accepted xs vs = sym d.read ∙ e in
      let row : d.row ≡ xs = cc in
      let values : d.values ≡ vs = cc in
      rw (row, values)

  -- so such an assignment meets what each frame of a fed list reads as
  fed_as_read : (x : Assignment p) → MeetsAll p n s es x → (cs : List Call) → FedBy box cs → AllAsRead p b.prime n s (λ e. Meets p n s e x) cs
  fed_as_read x all cs fed frame mix m xs vs e =
      let d = sent_as frame (fed frame mix m) in subst (λ a. Meets p n s a x) (read_once frame d xs vs e) (d.implied x all)

  -- and its row is a combination of the box's rows
  fed_spanned : (cs : List Call) → FedBy box cs → AllAsRead p b.prime n s (λ e. InSpan p n es e.multipliers) cs
  fed_spanned cs fed frame mix m xs vs e =
      let d = sent_as frame (fed frame mix m) in subst (λ a. InSpan p n es a.multipliers) (read_once frame d xs vs e) d.spanned

  -- ---- after a list

  module _ (ws : List ℕ) (opened : (open_call p n s ws).told.number ≡ 0) (cs : List Call) (fed : FedBy box cs) where
    -- all that meets the box's frames meets those that stood in the office at a turn, and those that stand in the end
    before_met : (t : Turn cs) (x : Assignment p) → MeetsAll p n s es x → MeetsAll p n s (standing p b.prime n s t.before) x
    before_met t x all =
        each_before p b.prime n s (λ e. Meets p n s e x) t (fed_as_read x all cs fed)

    -- so what the office has settled at a turn the box has settled
    settled_alike : (t : Turn cs) (j : ℕ) → Settled p n s (standing p b.prime n s t.before) j → Settled p n s es j
    settled_alike t j settled x y met also = settled x y (before_met t x met) (before_met t y also)

    turn_never_shown : (t : Turn cs) (low : ℕ) (marks : List ℕ) (numbers : List ℤ) → t.call ≡ Call.show low marks numbers
        → (IsRefusal (office_reply box ws t).told.number → ⊥) → (j : ℕ) → j < n → LeavesOpen box j
        → (get_or (office_reply box ws t).words j 0 ≡ 0) × ((w : ℕ) → w < s → word_of s (office_reply box ws t).numbers j w ≡ pos 0)
    turn_never_shown t low marks numbers e f j h unsettled =
        (((demand_3 p b.prime n s ws opened cs).shows t low marks numbers e f).gives j h).1 (λ settled. unsettled (settled_alike t j settled))

    -- the box's own show
    own_shows : (low : ℕ) (marks : List ℕ) (numbers : List ℤ) → length marks ≡ n → length numbers ≡ n * s → low < p
        → Shows p n s low es (reply (show_call box low marks numbers).told (show_call box low marks numbers).lent.0 (show_call box low marks numbers).lent.1)
    own_shows low marks numbers h l c =
        let accepts = show_accepted p b.prime n s es (board_proper box b) low marks numbers h l c in
        rw (show_on_board box b low marks numbers)
        (show_shows p b.prime n s es (board_proper box b) low marks numbers
        (λ r. omega (arith, r.1, ap (λ (o : Outcome (List ℕ × List ℤ)). o.told.number) accepts)))

    turn_shown_alike : (t : Turn cs) (low : ℕ) (marks : List ℕ) (numbers : List ℤ) → t.call ≡ Call.show low marks numbers
        → (IsRefusal (office_reply box ws t).told.number → ⊥) → (j : ℕ) → j < n → get_or (office_reply box ws t).words j 0 ≡ 1
        → (own-marks : List ℕ) (own-numbers : List ℤ) → length own-marks ≡ n → length own-numbers ≡ n * s
        → (get_or (show_call box low own-marks own-numbers).lent.0 j 0 ≡ 1)
        × ((w : ℕ) → w < s → word_of s (show_call box low own-marks own-numbers).lent.1 j w ≡ word_of s (office_reply box ws t).numbers j w)
    turn_shown_alike t low marks numbers e f j h mark own-marks own-numbers l m =
        let office = (demand_3 p b.prime n s ws opened cs).shows t low marks numbers e f in
        let settled = (office.marked_exactly j h).0 mark in
        let (x, met) = standing_met p b.prime n s es (board_proper box b) in
        let own = ((own_shows low own-marks own-numbers l m office.low_below).gives j h).0 (settled_alike t j settled) x met in
        let there = (office.gives j h).0 settled x (before_met t x met) in
        (own.0, λ w c. own.1 w c ∙ sym (there.1 w c))

    -- the words that the list leaves hold the standing frames
    words_standing : entries_of (office_words box ws cs) ≡ standing p b.prime n s cs
    words_standing =
        ap (λ (a : After (List ℕ)). entries_of a.state) (demand_3 p b.prime n s ws opened cs).as_ledger
        ∙ layout_entries p n s _ (wide_entries p n s _ (standing_proper p b.prime n s ws opened cs))

    -- a take of a sent frame: no combination of what stands is new; of a combination the values are the same, as some assignment meets all
    turn_taken : (t : Turn cs) (frame mix : List ℕ) → t.call ≡ Call.take frame mix → length mix ≡ n
        → ((office_reply box ws t).told.number ≡ 0) ⊎ ((office_reply box ws t).told.number ≡ 100)
    unfolding ledger_step
    turn_taken t frame mix e long = by_span (in_span? p b.prime n st d.row)
      where
        st : List Entry
        st = standing p b.prime n s t.before

        d : SentAs frame
        d =
            sent_as frame
            (fed frame mix
            (subst (Memᴰ (Call.take frame mix)) (sym t.splits) (Memᴰ.append_right t.before (Memᴰ.head (sym e)))))

        told : (o : Outcome (Ledger × List ℕ)) → take_accepted p b.prime n s (ledger st) d.row d.values mix ≡ o
            → (office_reply box ws t).told.number ≡ o.told.number
        told o q =
            ap (λ (r : Reply). r.told.number)
            (turn_replied p b.prime n s ws opened t ∙ ap (λ c. reply_of (ledger_step p b.prime n s (ledger st) c)) e)
            ∙ ap (λ (r : Outcome (Ledger × List ℕ)). r.told.number)
            (take_accepted_lem p b.prime n s st frame mix d.row d.values long d.read ∙ q)

        by_span : Dec (InSpan p n st d.row) → ((office_reply box ws t).told.number ≡ 0) ⊎ ((office_reply box ws t).told.number ≡ 100)
        by_span (no none) = inl (told _ (take_new p b.prime n s st d.row d.values mix none))
        by_span (yes c) =
            let (x, all) = standing_met p b.prime n s es (board_proper box b) in
            inr
            (told _
            (take_repeat p b.prime n s st (standing_proper p b.prime n s ws opened t.before) d.row d.values mix c
            (met_gives_values p b.prime n s st d.row d.values x (before_met t x all) (d.implied x all) c)))

    pub nothing_leaks : NothingLeaks box ws cs
    nothing_leaks =
        record {
          never_shown = turn_never_shown;
          shown_alike = turn_shown_alike;
          office_met = λ x all. rw words_standing (each_standing p b.prime n s (λ e. Meets p n s e x) cs (fed_as_read x all cs fed));
          taken = turn_taken;
        }

    -- ---- nothing is lost

    -- where as many frames stand at a turn as in the box, they say as much
    turn_shown_whole : (t : Turn cs) (low : ℕ) (marks : List ℕ) (numbers : List ℤ) → t.call ≡ Call.show low marks numbers
        → (IsRefusal (office_reply box ws t).told.number → ⊥)
        → (own-marks : List ℕ) (own-numbers : List ℤ) → length own-marks ≡ n → length own-numbers ≡ n * s
        → (office_reply box ws t).told ≡ (show_call box low own-marks own-numbers).told
        → ((office_reply box ws t).words ≡ (show_call box low own-marks own-numbers).lent.0)
        × ((office_reply box ws t).numbers ≡ (show_call box low own-marks own-numbers).lent.1)
    turn_shown_whole t low marks numbers e f own-marks own-numbers l m same =
        let st = standing p b.prime n s t.before in
        let S = standing_proper p b.prime n s ws opened t.before in
        let P = board_proper box b in
        let office = (demand_3 p b.prime n s ws opened cs).shows t low marks numbers e f in
        let own = own_shows low own-marks own-numbers l m office.low_below in
        let missing = ap (λ (a : Told). a.number) (sym office.missing ∙ same ∙ own.missing) in
        let many : length st ≡ length es = omega (arith, S.fits, P.fits) in
        shows_same p b.prime n s es st P S many (each_before p b.prime n s (λ a. InSpan p n es a.multipliers) t (fed_spanned cs fed))
        (before_met t) low office own

    pub nothing_lost : NothingLost box ws cs
    nothing_lost = record { shown_whole = turn_shown_whole }
