-- What a call replies where proper frames stand, by 01's sentences: it answers as `Answers` says, a show that is not refused gives what
-- `Shows` says, and the mix of a frame that is a combination of the standing rows is the one combination, `IsMix`.
use mathlib.Core.Path.{◌≡◌, refl, sym, ap, ◌∙◌, subst}
use mathlib.Core.Logic.{◌⊎◌, ⊎_elim}
use mathlib.Core.List.{List, ◌++◌}
use Prim.Native.Nat.{ℕ, ◌+◌, ◌-◌, ◌*◌, ◌≤◌, ◌<◌}
use native.Mathlib.Omega.{arith}
use lib.IntN.{ℤ, pos}
use lib.ListN.{length, get_or, replicate, length-append, length-replicate, get_or-append}
use lib.Seq.{get_or-append-add}
use Rattle.algebra.specs.Matrix.{Vector}
use Rattle.algebra.proofs.Applied as applied
use Rattle.checks.specs.Prime.{IsModulus}
use Rattle.checks.specs.Refusal.{IsRefusal}
use Rattle.checks.specs.Told.{Told}
use Rattle.checks.specs.Outcome.{Outcome}
use Rattle.checks.proofs.Refusals.{refusal_number_lem}
use Rattle.checks.proofs.InOrder.{none_left, fails_here, in_order_done, in_order_refused, in_order_elim, ◌and_then◌, ◌then◌}
use Rattle.words.proofs.Zeros.{zeros_at}
use Rattle.field.specs.Residue.{reduce, residues}
use Rattle.field.specs.Written.{numbers}
use Rattle.field.proofs.Residues.{reduce_value, value_below}
use Rattle.field.proofs.Written.{length_tabulate, get_d_tabulate}
use Rattle.frame.specs.Reading.{frame_multipliers, frame_values}
use Rattle.frame.specs.Sealing.{word_of}
use Rattle.frame.proofs.Round.{accepted_found}
use Rattle.signed.specs.Reading.{IsRecord}
use Rattle.ledger.specs.Ledger.{Entry, Ledger, ledger, InSpan, multiplier_rows}
use Rattle.ledger.specs.Steps.{mix_words, record_by_record, shown_mark, shown_number, ledger_show, ledger_take, ledger_withdraw}
use Rattle.ledger.specs.History.{Call, Reply, reply, ledger_step}
use Rattle.ledger.specs.Turns.{reply_of}
use Rattle.ledger.specs.Proper.{Proper}
use Rattle.ledger.specs.Settle.{Gives}
use Rattle.ledger.specs.Answers.{TakeAnswers, WithdrawAnswers, ShowAnswers, Answers, Shows, IsMix}
use Rattle.ledger.proofs.LedgerSteps.{Took, new, repeat, conflict, refusal, show_lengths_first}
use Rattle.ledger.proofs.RecordByRecord.{length_records, word_of_records, word_place_lem}
use Rattle.ledger.proofs.LedgerLaws.{combination_once, take_new, take_repeat, take_conflict}
use Rattle.ledger.proofs.LedgerLaws.{shown_exactly, shown_in_range, marked_exactly, show_accepted}

-- a mix has n words
mix_words_long : (p n s : ℕ) (es : List Entry) (u : Vector (residues p)) → length es ≤ n → length (mix_words p n es u) ≡ n
unfolding mix_words
mix_words_long p n s es u fits =
    simp (length-append, length_tabulate, length-replicate) (omega arith)

-- and so has the mix that take leaves, where it was lent n
pub took_long : (p : ℕ) (ok : IsModulus p) (n s : ℕ) (l : Ledger) (frame mix : List ℕ) {r : Outcome (Ledger × List ℕ)}
    → Took p ok n s l frame mix r → length l.entries ≤ n → length mix ≡ n → length r.lent.1 ≡ n
took_long p ok n s l frame mix (new xs vs e f) fits h = h
took_long p ok n s l frame mix (repeat xs vs e c g) fits h = mix_words_long p n s l.entries c.0 fits
took_long p ok n s l frame mix (conflict xs vs e c g) fits h = mix_words_long p n s l.entries c.0 fits
took_long p ok n s l frame mix (refusal k i) fits h = h

module _ (p : ℕ) (ok : IsModulus p) (n s : ℕ) (es : List Entry) (proper : Proper p n s es) where
  -- ---- answers

  take_answers : (frame mix : List ℕ) → TakeAnswers p n s es frame mix (ledger_take p ok n s (ledger es) frame mix).told
  unfolding ledger_take
  take_answers frame mix =
      record {
        refuses = λ k f. ap told (in_order_refused _ _ f);
        news = λ all free. ap told (in_order_done _ _ _ all (λ _. take_new p ok n s es xs vs mix free));
        repeats = λ all c g. ap told (in_order_done _ _ _ all (λ _. take_repeat p ok n s es proper xs vs mix c g));
        conflicts = λ all c f. ap told (in_order_done _ _ _ all (λ _. take_conflict p ok n s es proper xs vs mix c f));
      }
    where
      xs : List ℕ
      xs = frame_multipliers p n frame

      vs : List ℕ
      vs = frame_values p n s frame

      told : Outcome (Ledger × List ℕ) → Told
      told r = r.told

  withdraw_answers : (t : ℕ) → WithdrawAnswers es t (ledger_withdraw (ledger es) t).told
  unfolding ledger_withdraw
  withdraw_answers t =
      record {
        drops = λ h. ap (λ (r : Outcome Ledger). r.told) (in_order_done _ _ _ (h and_then none_left) (λ _. refl));
        overlong = λ f. ap (λ (r : Outcome Ledger). r.told) (in_order_refused _ _ (fails_here f));
      }

  show_answers : (low : ℕ) (marks : List ℕ) (zs : List ℤ)
      → ShowAnswers p n s es low marks zs (ledger_show p ok n s (ledger es) low marks zs).told
  unfolding ledger_show
  show_answers low marks zs =
      record {
        shows = λ h l b. ap (λ (r : Outcome (List ℕ × List ℤ)). r.told) (show_accepted p ok n s es proper low marks zs h l b);
        lengths = λ bad. ap (λ (r : Outcome (List ℕ × List ℤ)). r.told) (show_lengths_first p ok n s (ledger es) low marks zs bad);
        low_end = λ h l b.
            ap (λ (r : Outcome (List ℕ × List ℤ)). r.told) (in_order_refused _ _ (h then l then fails_here (λ c. omega arith)));
      }

  pub step_answers : (c : Call) → Answers p n s es c (reply_of (ledger_step p ok n s (ledger es) c)).told
  unfolding ledger_step
  step_answers (Call.take frame mix) = take_answers frame mix
  step_answers (Call.withdraw t) = withdraw_answers t
  step_answers (Call.show low marks numbers) = show_answers low marks numbers

  -- ---- show

  -- a show that is not refused was lent n marks and n × s numbers, and its low end is below p
  pub shown_given : (low : ℕ) (marks : List ℕ) (zs : List ℤ) → (IsRefusal (ledger_show p ok n s (ledger es) low marks zs).told.number → ⊥)
      → (length marks ≡ n) × (length zs ≡ n * s) × (low < p)
  unfolding ledger_show
  shown_given low marks zs =
      in_order_elim _ _
      (λ (o : Outcome (List ℕ × List ℤ)). (IsRefusal o.told.number → ⊥) → (length marks ≡ n) × (length zs ≡ n * s) × (low < p))
      (λ hs _. (hs.0, hs.1.0, hs.1.1.0))
      (λ k _ f. absurd (f (refusal_number_lem k)))

  -- a show's outcome as a reply
  abbrev pub show_reply : Outcome (List ℕ × List ℤ) → Reply
  show_reply r = reply r.told r.lent.0 r.lent.1

  -- what is given of record j, each word at its place
  words_given : (low j : ℕ) → j < n
      → Gives p n s low es j (shown_mark p ok n s es j) (word_of s (record_by_record n s (shown_number p ok n s es low)) j)
  words_given low j b =
      let (settled, open-ended) = shown_exactly p ok n s es proper low j in (
        λ e x m. let (mark, each) = settled e x m in (mark, λ w h. at w h ∙ each w h),
        λ f. let (mark, each) = open-ended f in (mark, λ w h. at w h ∙ each w h),
      )
    where
      at : (w : ℕ) → w < s → word_of s (record_by_record n s (shown_number p ok n s es low)) j w ≡ shown_number p ok n s es low j w
      at w h = word_of_records n s (shown_number p ok n s es low) j w b h

  in_range : (low : ℕ) → low < p → (q : ℕ) → q < n * s → IsRecord p low (get_or (record_by_record n s (shown_number p ok n s es low)) q (pos 0))
  in_range low b q c =
      let (j, w, h, l, e) = word_place_lem n s q c in
      rw (e, word_of_records n s (shown_number p ok n s es low) j w h l) (shown_in_range p ok n s es proper low j w b)

  pub show_shows : (low : ℕ) (marks : List ℕ) (zs : List ℤ) → (IsRefusal (ledger_show p ok n s (ledger es) low marks zs).told.number → ⊥)
      → Shows p n s low es (show_reply (ledger_show p ok n s (ledger es) low marks zs))
  show_shows low marks zs f =
      let (h, l, b) = shown_given low marks zs f in
      subst (λ r. Shows p n s low es (show_reply r)) (sym (show_accepted p ok n s es proper low marks zs h l b))
      (record {
        low_below = b;
        missing = refl;
        marks_long = length_tabulate n (shown_mark p ok n s es);
        numbers_long = length_records n s (shown_number p ok n s es low);
        marked_exactly = λ j b. rw (get_d_tabulate n (shown_mark p ok n s es) j b) (marked_exactly p ok n s es proper j);
        gives = λ j b. rw (get_d_tabulate n (shown_mark p ok n s es) j b) (words_given low j b);
        in_range = λ q c. in_range low b q c;
      })

  -- ---- the mix

  module _ (xs : List ℕ) (c : InSpan p n es xs) where
    mixed_at : (i : ℕ) → i < length es → get_or (mix_words p n es c.0) i 0 ≡ (c.0 i).value
    unfolding mix_words
    mixed_at i h =
        get_or-append (numbers (length es) c.0) _ 0 i
        (rw (length_tabulate (length es) (λ t. (c.0 t).value)) h)
        ∙ get_d_tabulate (length es) (λ t. (c.0 t).value) i h

    mixed_residue : (i : ℕ) → i < length es → reduce p (get_or (mix_words p n es c.0) i 0) ≡ c.0 i
    mixed_residue i h = ap (reduce p) (mixed_at i h) ∙ reduce_value (c.0 i)

    mixed_rest : (i : ℕ) → length es ≤ i → get_or (mix_words p n es c.0) i 0 ≡ 0
    unfolding mix_words
    mixed_rest i h =
        let front = numbers (length es) c.0 in
        let e : length front + (i - length es) ≡ i = omega (arith, length_tabulate (length es) (λ t. (c.0 t).value)) in
        ap (λ j. get_or (front ++ replicate (n - length es) 0) j 0) (sym e)
        ∙ get_or-append-add front (replicate (n - length es) 0) (i - length es) 0
        ∙ zeros_at (n - length es) (i - length es)

    pub mix_is : IsMix p n es xs (mix_words p n es c.0)
    mix_is =
        record {
          long = mix_words_long p n s es c.0 proper.fits;
          below = λ i h. rw (mixed_at i h) (value_below (omega (arith, ok.prime.two_or_more)) (c.0 i));
          combines = λ j l.
              c.1 j l
              ∙ applied.mixed_same (residues p) (length es) c.0 (λ i. reduce p (get_or (mix_words p n es c.0) i 0)) (multiplier_rows p es)
              (λ i h. sym (mixed_residue i h)) j;
          only = λ u d i h. combination_once p ok n s es proper xs (u, d) c i h ∙ sym (mixed_residue i h);
          rest = mixed_rest;
        }

  -- a frame answered repeat, or refused by 9, leaves the mix of its multipliers
  pub take_mixes : (frame mix : List ℕ) {r : Outcome (Ledger × List ℕ)} → Took p ok n s (ledger es) frame mix r
      → (r.told.number ≡ 100) ⊎ (r.told.number ≡ 9) → IsMix p n es (frame_multipliers p n frame) r.lent.1
  take_mixes frame mix (new xs vs e f) d = absurd (⊎_elim (λ q. omega arith) (λ q. omega arith) d)
  take_mixes frame mix (repeat xs vs e c g) d = rw (accepted_found p n s frame xs vs e).0 (mix_is xs c)
  take_mixes frame mix (conflict xs vs e c g) d = rw (accepted_found p n s frame xs vs e).0 (mix_is xs c)
  take_mixes frame mix (refusal k h) d = absurd (⊎_elim (λ q. omega (arith, refusal_number_lem k)) h.0 d)
