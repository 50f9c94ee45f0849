-- Relay keeps what document 02, #107, promises: it is refused by 15 exactly if the wanted row is no combination, and what it leaves else is
-- `RelayDone`. By the laws of the ledger's relay, of the calls write and read, and of take.
use mathlib.Core.Path.{◌≡◌, refl, sym, ap, ◌∙◌, subst}
use mathlib.Core.List.{List}
use Prim.Native.Nat.{ℕ}
use native.Mathlib.Omega.{arith}
use lib.ListN.{length, replicate, length-replicate}
use Rattle.checks.specs.declared.Refusal.{Refusal}
use Rattle.checks.specs.declared.Refusal.TheVariants.{Length, Number, NotBoard, NotInSpan}
use Rattle.checks.specs.Refusal.{refusal_number, IsRefusal}
use Rattle.checks.specs.Outcome.{Outcome, outcome, untouched}
use Rattle.checks.proofs.InOrder.{none_left, ◌and_then◌}
use Rattle.checks.proofs.Refusals.{refusal_number_lem}
use Rattle.checks.specs.Decide.{long?}
use Rattle.words.specs.Words.{Below}
use Rattle.words.specs.Decide.{below?}
use Rattle.frame.specs.Format.{longest, frame_of}
use Rattle.frame.specs.Reading.{accepted, read_frame}
use Rattle.frame.specs.Calls.{written, write_call}
use Rattle.frame.proofs.Calls.{sizes_hold, write_done, read_told, read_as_told}
use Rattle.frame.proofs.Round.{written_reads_back, accepted_rewrites}
use Rattle.frame.proofs.RoundCalls.{front_taken, front_dropped}
use Rattle.ledger.specs.Ledger.{Entry, entry, InSpan}
use Rattle.ledger.specs.Steps.{repeat_told, mix_words}
use Rattle.ledger.specs.Board.{IsBoard, modulus_word, size_word, values_word, entries_of, ledger_of}
use Rattle.ledger.specs.Calls.{laid_out, take_call}
use Rattle.ledger.specs.Decide.{in_span?, board?}
use Rattle.ledger.specs.Honest.{ReadsAs}
use Rattle.ledger.proofs.Parse.{board_proper, board_layout}
use Rattle.ledger.proofs.WordsCalls.{take_on_board}
use Rattle.ledger.proofs.LedgerLaws.{take_accepted_lem, take_repeat}
use Rattle.ledger.proofs.Shown.{mix_is}
use Rattle.relay.specs.Calls.{combined_values, relayed_frame, relayed, ledger_relay, relay_call}
use Rattle.relay.specs.Promises.{Implied, Lent, RelayJudges, RelayDone}
use Rattle.relay.proofs.Order.{relay_no_board, relay_on_board, relay_length, relay_number, relay_no_span}
use Rattle.relay.proofs.RelayLaws.{frame_numbers_lem, gives_values_lem, relayed_implied, implied_only, relay_done}

-- ---- done

module _ (ws wanted mix bytes : List ℕ) (b : IsBoard ws) (lent : Lent ws wanted mix bytes)
    (c : InSpan (modulus_word ws) (size_word ws) (entries_of ws) wanted) where
  abbrev p : ℕ
  p = modulus_word ws

  abbrev n : ℕ
  n = size_word ws

  abbrev s : ℕ
  s = values_word ws

  abbrev es : List Entry
  es = entries_of ws

  abbrev values : List ℕ
  values = combined_values p n s es c.0

  abbrev frame : List ℕ
  frame = relayed_frame p n s es wanted c.0

  -- what it comes to
  pub comes_to : relay_call ws wanted mix bytes ≡ relayed p n s es wanted bytes c.0
  comes_to =
      relay_on_board ws wanted mix bytes b
      ∙ relay_done p b.prime n s es (board_proper ws b) wanted mix bytes lent.wanted_long lent.mix_long lent.bytes_long lent.below c

  -- as writing does
  as_written : write_call p n s wanted values bytes ≡ written frame bytes
  as_written =
      let g = frame_numbers_lem p b.prime n s es wanted c.0 lent.wanted_long lent.below in
      sym
      (write_done p n s wanted values bytes (sizes_hold p n s b.prime b.size b.words)
      (g.long and_then g.values_long and_then lent.bytes_long and_then g.below and_then g.values_below and_then none_left))

  -- the frame is read as the wanted row and the values
  frame_read : read_frame p n s frame ≡ accepted wanted values
  frame_read =
      written_reads_back p n s wanted values b.prime.in_range (frame_numbers_lem p b.prime n s es wanted c.0 lent.wanted_long lent.below)

  -- another frame that is read as the wanted row, and that all who meet the box's frames meet, is this one
  frame_only : (other vs : List ℕ) → Below 256 other → ReadsAs p n s other wanted vs → Implied p n s es (entry wanted vs) → other ≡ frame
  frame_only other vs small reads implied =
      let room : List ℕ = replicate n 0 in
      let values_room : List ℕ = replicate s 0 in
      let read =
      read_told p n s other room values_room wanted vs (sizes_hold p n s b.prime b.size b.words) (length-replicate n 0) (length-replicate s 0)
      (reads room values_room (length-replicate n 0) (length-replicate s 0)) in
      let again = accepted_rewrites p n s other wanted vs (omega (arith, b.prime.prime.two_or_more)) small read in
      sym again.bytes_are
      ∙ ap (frame_of p n wanted)
      (implied_only p b.prime n s es (board_proper ws b) wanted vs c again.numbers.values_long again.numbers.values_below implied)

  -- the box's own take
  own_repeat : (room : List ℕ) → length room ≡ n → take_call ws frame room ≡ outcome (repeat_told (length es)) (ws, mix_words p n es c.0)
  own_repeat room long =
      take_on_board ws b frame room
      ∙ ap (laid_out p n s)
      (take_accepted_lem p b.prime n s es frame room wanted values long frame_read
      ∙ take_repeat p b.prime n s es (board_proper ws b) wanted values room c (gives_values_lem p b.prime n s es c.0))
      ∙ ap (λ xs. outcome {M = List ℕ × List ℕ} (repeat_told (length es)) (xs, mix_words p n es c.0)) (board_layout ws b)

  relayed_done : RelayDone ws wanted mix bytes (relayed p n s es wanted bytes c.0)
  unfolding relayed
  relayed_done =
      let taken = front_taken frame bytes in
      record {
        k = length frame;
        values = values;
        told = refl;
        mix_is = mix_is p b.prime n s es (board_proper ws b) wanted c;
        written = as_written;
        behind = front_dropped frame bytes;
        reads = λ multipliers room long room_long.
            read_as_told p n s _ multipliers room wanted values (sizes_hold p n s b.prime b.size b.words) long room_long
            (ap (read_frame p n s) taken ∙ frame_read);
        implied = relayed_implied p b.prime n s es wanted c;
        only = λ other vs small reads implied. frame_only other vs small reads implied ∙ sym taken;
        repeats = λ room long. ap (λ f. take_call ws f room) taken ∙ own_repeat room long;
      }

-- ---- what a relay asks, by its answer

module _ (ws wanted mix bytes : List ℕ) where
  -- whatever the words: no board, or which check fails first, or the combination
  data Judged : Outcome (List ℕ × List ℕ) → Type 0 where
    earlier : (k : Refusal) → (refusal_number k ≡ 15 → ⊥)
        → (IsBoard ws → Lent ws wanted mix bytes → ⊥) → Judged (untouched (mix, bytes) k)
    none : IsBoard ws → Lent ws wanted mix bytes → (InSpan (modulus_word ws) (size_word ws) (entries_of ws) wanted → ⊥)
        → Judged (untouched (mix, bytes) NotInSpan)
    some : (b : IsBoard ws) (lent : Lent ws wanted mix bytes) (c : InSpan (modulus_word ws) (size_word ws) (entries_of ws) wanted)
        → Judged (relayed (modulus_word ws) (size_word ws) (values_word ws) (entries_of ws) wanted bytes c.0)

  module _ (b : IsBoard ws) where
    refusal : (k : Refusal) → (refusal_number k ≡ 15 → ⊥) → (Lent ws wanted mix bytes → ⊥)
        → ledger_relay (modulus_word ws) b.prime (size_word ws) (values_word ws) (ledger_of ws) wanted mix bytes ≡ untouched (mix, bytes) k
        → Judged (relay_call ws wanted mix bytes)
    refusal k other bad e = subst Judged (sym (relay_on_board ws wanted mix bytes b ∙ e)) (earlier k other (λ _. bad))

    by_span : Lent ws wanted mix bytes → Dec (InSpan (modulus_word ws) (size_word ws) (entries_of ws) wanted)
        → Judged (relay_call ws wanted mix bytes)
    by_span lent (yes c) = subst Judged (sym (comes_to ws wanted mix bytes b lent c)) (some b lent c)
    by_span lent (no none-such) =
        subst Judged
        (sym
        (relay_on_board ws wanted mix bytes b
        ∙ relay_no_span (modulus_word ws) b.prime (size_word ws) (values_word ws) (ledger_of ws) wanted mix bytes
        lent.wanted_long lent.mix_long lent.bytes_long lent.below none-such))
        (none b lent none-such)

    by_numbers : length wanted ≡ size_word ws → length mix ≡ size_word ws → length bytes ≡ longest (values_word ws)
        → Dec (Below (modulus_word ws) wanted) → Judged (relay_call ws wanted mix bytes)
    by_numbers l m r (yes below) =
        by_span (record { wanted_long = l; mix_long = m; bytes_long = r; below = below })
        (in_span? (modulus_word ws) b.prime (size_word ws) (entries_of ws) wanted)
    by_numbers l m r (no bad) =
        refusal Number (λ e. omega arith) (λ lent. bad lent.below)
        (relay_number (modulus_word ws) b.prime (size_word ws) (values_word ws) (ledger_of ws) wanted mix bytes l m r bad)

    by_lengths : Dec (length wanted ≡ size_word ws) → Dec (length mix ≡ size_word ws) → Dec (length bytes ≡ longest (values_word ws))
        → Judged (relay_call ws wanted mix bytes)
    by_lengths (yes l) (yes m) (yes r) = by_numbers l m r (below? (modulus_word ws) wanted)
    by_lengths (no bad) m r =
        refusal Length (λ e. omega arith) (λ lent. bad lent.wanted_long)
        (relay_length (modulus_word ws) b.prime (size_word ws) (values_word ws) (ledger_of ws) wanted mix bytes (λ h _ _. bad h))
    by_lengths (yes l) (no bad) r =
        refusal Length (λ e. omega arith) (λ lent. bad lent.mix_long)
        (relay_length (modulus_word ws) b.prime (size_word ws) (values_word ws) (ledger_of ws) wanted mix bytes (λ _ h _. bad h))
    by_lengths (yes l) (yes m) (no bad) =
        refusal Length (λ e. omega arith) (λ lent. bad lent.bytes_long)
        (relay_length (modulus_word ws) b.prime (size_word ws) (values_word ws) (ledger_of ws) wanted mix bytes (λ _ _ h. bad h))

  by_board : Dec (IsBoard ws) → Judged (relay_call ws wanted mix bytes)
  by_board (no bad) =
      subst Judged (sym (relay_no_board ws wanted mix bytes bad)) (earlier NotBoard (λ e. omega arith) (λ b _. bad b))
  by_board (yes b) =
      by_lengths b (long? wanted (size_word ws)) (long? mix (size_word ws)) (long? bytes (longest (values_word ws)))

  judged : Judged (relay_call ws wanted mix bytes)
  judged = by_board (board? ws)

  -- ---- the promises

  judges : {o : Outcome (List ℕ × List ℕ)} → Judged o → RelayJudges ws wanted mix bytes o
  unfolding relayed
  judges (earlier k other bad) =
      record {
        fifteen_exactly = (λ e. absurd (other e), λ (b, (lent, _)). absurd (bad b lent));
        done_exactly = (λ h. absurd (omega (arith, refusal_number_lem k)), λ (b, (lent, _)). absurd (bad b lent));
        else_untouched = λ _. refl;
      }
  judges (none b lent none-such) =
      record {
        fifteen_exactly = (λ _. (b, (lent, none-such)), λ _. refl);
        done_exactly = (λ h. absurd (omega arith), λ (_, (_, c)). absurd (none-such c));
        else_untouched = λ _. refl;
      }
  judges (some b lent c) =
      record {
        fifteen_exactly = (λ e. absurd (omega arith), λ (_, (_, none-such)). absurd (none-such c));
        done_exactly = (λ _. (b, (lent, c)), λ _. omega arith);
        else_untouched = λ f. absurd (f (omega arith));
      }

  -- "refuse exactly if there is none"
  pub relay_judges : RelayJudges ws wanted mix bytes (relay_call ws wanted mix bytes)
  relay_judges = judges judged

  -- a relay of a board's frames with the wanted row in their span leaves the one frame
  pub relay_call_done : (IsRefusal (relay_call ws wanted mix bytes).told.number → ⊥) → RelayDone ws wanted mix bytes (relay_call ws wanted mix bytes)
  relay_call_done = go judged
    where
      go : {o : Outcome (List ℕ × List ℕ)} → Judged o → (IsRefusal o.told.number → ⊥) → RelayDone ws wanted mix bytes o
      go (earlier k other bad) done = absurd (done (refusal_number_lem k))
      go (none b lent none-such) done = absurd (done (refusal_number_lem NotInSpan))
      go (some b lent c) done = relayed_done ws wanted mix bytes b lent c
      -- "The zero row is always a combination": on a board its relay is done, whatever stands there
