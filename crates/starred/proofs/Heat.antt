-- 01's heats hold, and those of three words a record. Each passes a test that computes (`passes`), frame by frame over the entries that then stand and record by record
-- over the last ones, and a heat that passes holds (`passed_holds`): on the ledger by what the tests tell (HeatChecker), and so on the
-- board, since a list of calls there is the ledger's (`history`).
use mathlib.Core.Path.{◌≡◌, refl, sym, ap, ap₂, ◌∙◌, subst}
use mathlib.Core.Bool.{Bool, true}
use mathlib.Core.List.Memᴰ
use mathlib.Core.List.{List, [], ◌∷◌, ◌++◌, append-nil, append_assoc, Memᴰ}
use Prim.Native.Nat.{ℕ, suc, ◌-◌, ◌*◌, ◌<◌}
use native.Mathlib.Omega.{arith}
use lib.Dec.{eqb}
use lib.IntN.{ℤ}
use lib.ListN.{length, get_or, replicate, length-replicate}
use borrow.Author.Tests.{eqb-true}
use Rattle.checks.specs.Outcome.{Outcome, outcome}
use Rattle.checks.specs.Largest.{WordCount}
use Rattle.checks.specs.Prime.{IsModulus}
use Rattle.checks.specs.Told.{results}
use Rattle.field.specs.Residue.{reduce, ◌⊕◌, ◌⊗◌}
use Rattle.field.specs.Written.{tabulate}
use Rattle.field.proofs.Written.{is_tabulate}
use Rattle.algebra.specs.Matrix.{sum, unit, apply, mixed}
use Rattle.codec.specs.BigEndian.{bytes_of}
use Rattle.frame.specs.Width.{width}
use Rattle.frame.specs.Format.{map_length, stands, map_byte, map_bytes, packed, value_bytes, frame_in, frame_of}
use Rattle.frame.specs.Reading.{accepted, read_frame}
use Rattle.frame.specs.Sealing.{word_of}
use Rattle.frame.proofs.Round.{written_reads_back}
use Rattle.signed.specs.Reading.{reading}
use Rattle.signed.specs.Balanced.{balanced_low}
use Rattle.signed.proofs.Balanced.{balanced_low_below}
use Rattle.matrix.proofs.Checker.{◌and◌, every, every_below, both, every_below_lem, every_member}
use Rattle.matrix.proofs.CheckedTables.{are_below, all_below, are_same, all_same, is_prime, same}
use Rattle.ledger.specs.Ledger.{Entry, Ledger, ledger, multiplier_rows, value_table}
use Rattle.ledger.specs.Board.{layout}
use Rattle.ledger.specs.History.{Call, reply, After, after, ledger_step, run, ledger_run, board_run, on_board}
use Rattle.ledger.specs.Proper.{Proper}
use Rattle.ledger.specs.Steps.{mix_words, ledger_take, shown_mark, shown_number, ledger_show}
use Rattle.ledger.proofs.Histories.{open_done, history}
use Rattle.ledger.proofs.LedgerLaws.{take_accepted_lem, show_accepted}
use Rattle.ledger.proofs.LedgerRuns.{run_append, run_proper}
use Rattle.ledger.proofs.Proper.{empty_proper, step_proper}
use Rattle.ledger.proofs.RecordByRecord.{is_records}
use Rattle.starred.specs.Heat.{HeatFrame, HeatExample, first_frames, sheet_heat, unsettled_heat, split_frames, splits_heat, first_splits_heat, heat_examples}
use Rattle.starred.specs.Heat.{told, mix_after, entry_of, kept, takes, replies, kept_entries, HeatHolds}
use Rattle.starred.proofs.Sizes.{are_sizes, sizes_checked}
use Rattle.starred.proofs.HeatChecker.{sameℤ, Witness, settled_by, free_by, send_to_zero, is_combination, gives_values, is_mix, is_answer, answer_taken}
use Rattle.starred.proofs.HeatChecker.{is_shown, record_shown}

-- ---- the test

module _ (p n s : ℕ) where
  -- the bytes are what n multipliers and s values write, all below p
  unfoldable pub is_written : HeatFrame → Bool
  is_written f =
      eqb (length f.multipliers) n
      and are_below p f.multipliers
      and eqb (length f.values) s
      and are_below p f.values
      and are_same (frame_of p n f.multipliers f.values) f.bytes

  -- the frame is answered so where the entries es stand; a vector in xs separates a new one from them
  unfoldable pub is_taken : List (List ℕ) → List Entry → HeatFrame → Bool
  is_taken xs es f = is_written f and is_answer p n s es f.multipliers f.values (get_or xs (length es) []) f.answer

  unfoldable pub are_taken : List (List ℕ) → List Entry → List HeatFrame → Bool
  are_taken xs es [] = true
  are_taken xs es (f ∷ fs) = is_taken xs es f and are_taken xs (es ++ kept f.answer (entry_of f)) fs

  -- show gives these marks, and these numbers, record after record
  unfoldable pub are_shown : List Witness → List Entry → (marks : List ℕ) (numbers : List ℤ) → Bool
  are_shown ws es marks numbers =
      eqb (length marks) n
      and eqb (length numbers) (n * s)
      and every_below n (λ j. is_shown p n s es j (get_or marks j 0) (word_of s numbers j) (get_or ws j (settled_by [])))

-- for each entry a vector that the entries before it send to zero and it does not; for each record what settles it or leaves it free
pub record Witnesses : Type 0 where
  pub separating : List (List ℕ)
  pub settling : List Witness

unfoldable pub passes : HeatExample → Witnesses → Bool
passes h w =
    are_sizes h.modulus h.size h.words
    and are_taken h.modulus h.size h.words w.separating [] h.frames
    and are_shown h.modulus h.size h.words w.settling (kept_entries h.frames) h.marks h.numbers
    and eqb (h.size - length (kept_entries h.frames)) h.missing

-- ---- a frame that passes is taken so

module _ (p n s : ℕ) (ok : IsModulus p) where
  -- its bytes read as its multipliers and its values
  reads : (f : HeatFrame) → is_written p n s f ≡ true → read_frame p n s f.bytes ≡ accepted f.multipliers f.values
  unfolding is_written
  reads f t =
      let (t, bytes) = both _ _ t in
      let (t, values_below) = both _ _ t in
      let (t, values_long) = both _ _ t in
      let (long, below) = both _ _ t in
      ap (read_frame p n s) (sym (all_same _ _ bytes))
      ∙ written_reads_back p n s f.multipliers f.values ok.in_range
      (record {
        long = eqb-true _ _ long;
        below = all_below p _ below;
        values_long = eqb-true _ _ values_long;
        values_below = all_below p _ values_below;
      })

  pub frame_taken : (xs : List (List ℕ)) (es : List Entry) → Proper p n s es → (f : HeatFrame) → is_taken p n s xs es f ≡ true
      → (mix : List ℕ) → length mix ≡ n
      → ledger_take p ok n s (ledger es) f.bytes mix ≡ outcome (told f.answer) (ledger (es ++ kept f.answer (entry_of f)), mix_after f.answer mix)
  unfolding is_taken
  frame_taken xs es proper f t mix long =
      let (written, answer) = both _ _ t in
      take_accepted_lem p ok n s es f.bytes mix f.multipliers f.values long (reads f written)
      ∙ answer_taken p n s es ok proper f.multipliers f.values (get_or xs (length es) []) mix f.answer answer

  frame_step : (xs : List (List ℕ)) (es : List Entry) → Proper p n s es → (f : HeatFrame) → is_taken p n s xs es f ≡ true
      → (mix : List ℕ) → length mix ≡ n
      → ledger_step p ok n s (ledger es) (Call.take f.bytes mix)
      ≡ after (ledger (es ++ kept f.answer (entry_of f))) (reply (told f.answer) (mix_after f.answer mix) [] ∷ [])
  unfolding ledger_step
  frame_step xs es proper f t mix long =
      ap (λ (r : Outcome (Ledger × List ℕ)). after r.lent.0 (reply r.told r.lent.1 [] ∷ []))
      (frame_taken xs es proper f t mix long)

  -- frames one after the other are taken so
  frames_taken : (xs : List (List ℕ)) (es : List Entry) → Proper p n s es → (fs : List HeatFrame) → are_taken p n s xs es fs ≡ true
      → (mixes : ℕ → List ℕ) → ((i : ℕ) → length (mixes i) ≡ n)
      → ledger_run p ok n s (ledger es) (takes fs mixes) ≡ after (ledger (es ++ kept_entries fs)) (replies fs mixes)
  unfolding are_taken run takes replies kept_entries
  frames_taken xs es proper [] t mixes long = ap (λ ds. after (ledger ds) []) (sym (append-nil es))
  frames_taken xs es proper (f ∷ fs) t mixes long =
      let (first, others) = both _ _ t in
      let lent : ℕ → List ℕ = λ i. mixes (suc i) in
      let one = frame_step xs es proper f first (mixes 0) (long 0) in
      let stays =
      subst (λ (a : After Ledger). Proper p n s a.state.entries) one (step_proper p n s es proper ok (Call.take f.bytes (mixes 0))) in
      ap
      (λ (a : After Ledger).
      let rest = run (ledger_step p ok n s) a.state (takes fs lent) in after rest.state (a.replies ++ rest.replies)) one
      ∙ ap (λ (a : After Ledger). after a.state (reply (told f.answer) (mix_after f.answer (mixes 0)) [] ∷ a.replies))
      (frames_taken xs (es ++ kept f.answer (entry_of f)) stays fs others lent (λ i. long (suc i)))
      ∙ ap (λ ds. after (ledger ds) (replies (f ∷ fs) mixes)) (append_assoc es (kept f.answer (entry_of f)) (kept_entries fs))

  -- the entries that then stand are proper
  pub frames_proper : (xs : List (List ℕ)) (fs : List HeatFrame) → are_taken p n s xs [] fs ≡ true → Proper p n s (kept_entries fs)
  frames_proper xs fs taken =
      let lent : ℕ → List ℕ = λ _. replicate n 0 in
      subst (λ (a : After Ledger). Proper p n s a.state.entries)
      (frames_taken xs [] (empty_proper p n s) fs taken lent (λ _. length-replicate n 0))
      (run_proper p ok n s (ledger []) (empty_proper p n s) (takes fs lent))

  -- ---- what passes is shown

  pub records_shown : WordCount s → (ws : List Witness) (es : List Entry) → Proper p n s es → (ms : List ℕ) (zs : List ℤ) → are_shown p n s ws es ms zs ≡ true
      → (marks : List ℕ) (numbers : List ℤ) → length marks ≡ n → length numbers ≡ n * s
      → ledger_show p ok n s (ledger es) (balanced_low p) marks numbers ≡ outcome (results (n - length es)) (ms, zs)
  unfolding are_shown
  records_shown words ws es proper ms zs t marks numbers marks_long numbers_long =
      let (t, each) = both _ _ t in
      let (ms-long, zs-long) = both _ _ t in
      let so : (j : ℕ) → j < n
      → (get_or ms j 0 ≡ shown_mark p ok n s es j) × ((w : ℕ) → w < s → word_of s zs j w ≡ shown_number p ok n s es (balanced_low p) j w) = λ j l.
      record_shown p n s es ok proper words j _ _ _ l (every_below_lem n _ each j l) in
      show_accepted p ok n s es proper (balanced_low p) marks numbers marks_long numbers_long (balanced_low_below p (omega (arith, ok.prime.two_or_more)))
      ∙ sym
      (ap₂ (λ xs ys. outcome (results (n - length es)) (xs, ys)) (is_tabulate n _ ms (eqb-true _ _ ms-long) (λ j l. (so j l).0))
      (is_records n s _ zs (eqb-true _ _ zs-long) (λ j w l. (so j l).1 w)))

  -- ---- frames and then a show

  frames_and_show : WordCount s → (xs : List (List ℕ)) (ws : List Witness) (fs : List HeatFrame) (ms : List ℕ) (zs : List ℤ)
      → are_taken p n s xs [] fs ≡ true → are_shown p n s ws (kept_entries fs) ms zs ≡ true
      → (mixes : ℕ → List ℕ) (marks : List ℕ) (numbers : List ℤ) → ((i : ℕ) → length (mixes i) ≡ n) → length marks ≡ n → length numbers ≡ n * s
      → ledger_run p ok n s (ledger []) (takes fs mixes ++ (Call.show (balanced_low p) marks numbers ∷ []))
      ≡ after (ledger (kept_entries fs)) (replies fs mixes ++ (reply (results (n - length (kept_entries fs))) ms zs ∷ []))
  unfolding run ledger_step
  frames_and_show words xs ws fs ms zs taken shown mixes marks numbers mixes_long marks_long numbers_long =
      let ran = frames_taken xs [] (empty_proper p n s) fs taken mixes mixes_long in
      run_append (ledger_step p ok n s) (ledger []) (takes fs mixes) (Call.show (balanced_low p) marks numbers ∷ [])
      ∙ ap
      (λ (a : After Ledger).
      let last = run (ledger_step p ok n s) a.state (Call.show (balanced_low p) marks numbers ∷ []) in after last.state (a.replies ++ last.replies)) ran
      ∙ ap (λ (r : Outcome (List ℕ × List ℤ)). after (ledger (kept_entries fs)) (replies fs mixes ++ (reply r.told r.lent.0 r.lent.1 ∷ [])))
      (records_shown words ws (kept_entries fs) (frames_proper xs fs taken) ms zs shown marks numbers marks_long numbers_long)

-- ---- a heat that passes holds

passed_holds : (h : HeatExample) (w : Witnesses) → passes h w ≡ true → HeatHolds h
unfolding passes
passed_holds h w t =
    let (t, many) = both _ _ t in
    let (t, shown) = both _ _ t in
    let (sizes, taken) = both _ _ t in
    let (ok, size, words) = sizes_checked h.modulus h.size h.words sizes in
    record {
      opens = λ ws long. ap (λ (o : Outcome (List ℕ)). o.told) (open_done h.modulus h.size h.words ws ok size words long);
      goes = λ ws mixes marks numbers room.
          let cs = takes h.frames mixes ++ (Call.show (balanced_low h.modulus) marks numbers ∷ []) in
          ap (λ (o : Outcome (List ℕ)). board_run o.lent cs) (open_done h.modulus h.size h.words ws ok size words room.ws_long)
          ∙ history h.modulus h.size h.words ok size words (ledger []) (empty_proper h.modulus h.size h.words) cs
          ∙ ap (on_board h.modulus h.size h.words)
          (frames_and_show h.modulus h.size h.words ok words w.separating w.settling h.frames h.marks h.numbers taken shown
          mixes marks numbers room.mixes_long room.marks_long room.numbers_long)
          ∙ ap
          (λ k. after (layout h.modulus h.size h.words (kept_entries h.frames))
          (replies h.frames mixes ++ (reply (results k) h.marks h.numbers ∷ []))) (eqb-true _ _ many);
    }

-- ---- 01's heats

-- (6 4 1) is the kernel of the first two rows; the combinations are the inverse of the three that stand at the end, row by row
unfoldable pub sheet_witnesses : Witnesses
sheet_witnesses =
    record {
      separating = (1 ∷ 0 ∷ 0 ∷ []) ∷ (5 ∷ 1 ∷ 0 ∷ []) ∷ (6 ∷ 4 ∷ 1 ∷ []) ∷ [];
      settling = settled_by (1 ∷ 5 ∷ 6 ∷ []) ∷ settled_by (0 ∷ 1 ∷ 4 ∷ []) ∷ settled_by (0 ∷ 0 ∷ 1 ∷ []) ∷ [];
    }

unfoldable pub unsettled_witnesses : Witnesses
unsettled_witnesses =
    record {
      separating = (1 ∷ 0 ∷ 0 ∷ []) ∷ (5 ∷ 1 ∷ 0 ∷ []) ∷ [];
      settling = free_by (6 ∷ 4 ∷ 1 ∷ []) ∷ free_by (6 ∷ 4 ∷ 1 ∷ []) ∷ free_by (6 ∷ 4 ∷ 1 ∷ []) ∷ [];
    }

-- ---- the heats of three words a record

-- (0 1 249) is the kernel of the first two rows, and 126 is a half: record 0 is half the second row less half the first
unfoldable splits_witnesses : Witnesses
splits_witnesses =
    record {
      separating = (1 ∷ 0 ∷ 0 ∷ []) ∷ (249 ∷ 1 ∷ 0 ∷ []) ∷ (0 ∷ 1 ∷ 249 ∷ []) ∷ [];
      settling = settled_by (125 ∷ 126 ∷ 0 ∷ []) ∷ settled_by (0 ∷ 0 ∷ 1 ∷ []) ∷ settled_by (127 ∷ 125 ∷ 249 ∷ []) ∷ [];
    }

unfoldable first_splits_witnesses : Witnesses
first_splits_witnesses =
    record {
      separating = (1 ∷ 0 ∷ 0 ∷ []) ∷ (249 ∷ 1 ∷ 0 ∷ []) ∷ [];
      settling = settled_by (125 ∷ 126 ∷ []) ∷ free_by (0 ∷ 1 ∷ 249 ∷ []) ∷ free_by (0 ∷ 1 ∷ 249 ∷ []) ∷ [];
    }

-- ---- all of them

unfoldable witnessed : List (HeatExample × Witnesses)
witnessed =
    (sheet_heat, sheet_witnesses) ∷ (unsettled_heat, unsettled_witnesses) ∷ (splits_heat, splits_witnesses) ∷ (first_splits_heat, first_splits_witnesses) ∷ []

-- each passes, computed
all_pass : every (λ (q : HeatExample × Witnesses). passes q.0 q.1) witnessed ≡ true
unfolding every witnessed sheet_heat sheet_witnesses unsettled_heat unsettled_witnesses first_frames
    splits_heat splits_witnesses first_splits_heat first_splits_witnesses split_frames kept_entries passes are_sizes is_prime
    are_taken is_taken is_written is_answer is_mix gives_values are_shown is_shown send_to_zero is_combination are_below are_same every_below ◌and◌ same sameℤ
    multiplier_rows value_table mix_words sum unit apply mixed tabulate reduce ◌⊕◌ ◌⊗◌ reading balanced_low
    frame_in map_bytes map_byte map_length stands packed value_bytes bytes_of width
all_pass = refl

-- every heat holds
pub heats_hold : (h : HeatExample) → Memᴰ h heat_examples → HeatHolds h
unfolding heat_examples witnessed
heats_hold h m =
    let (q, i, e) = Memᴰ.of_map (λ (q : HeatExample × Witnesses). q.0) witnessed m in
    subst HeatHolds e (passed_holds q.0 q.1 (every_member _ witnessed all_pass q i))

-- 01's heat does
pub heat_holds : HeatHolds sheet_heat
unfolding heat_examples
heat_holds = heats_hold sheet_heat (Memᴰ.head refl)
