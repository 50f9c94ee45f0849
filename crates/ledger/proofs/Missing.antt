-- 01: "Missing = n - k: every list of further calls after which all records are settled has at least n - k takes answered new,
-- and after some n - k takes, all answered new, all are settled." A new raises the count by one and nothing else raises it; all
-- settled means n entries. For the other half, while there are fewer than n entries the unit row of some record is no
-- combination of the rows, and its frame is answered new.
use mathlib.Core.Path.{◌≡◌, refl, sym, ap, ◌∙◌, subst}
use mathlib.Core.Bool.{Bool, true, false}
use mathlib.Core.List.Memᴰ
use mathlib.Core.List.{List, [], ◌∷◌, ◌++◌, map}
use mathlib.Core.Logic.{⊎_elim}
use Prim.Native.Nat.{ℕ, zero, suc, ◌+◌, ◌-◌, ◌≤◌, ◌<◌}
use native.Mathlib.Omega.{arith}
use lib.Dec.{eqb}
use lib.ListN.{length, get_or, replicate, length-take, length-replicate}
use Rattle.algebra.specs.Choice.{choose}
use Rattle.algebra.specs.Matrix.{unit, apply}
use Rattle.algebra.specs.Span.{IsCombination}
use Rattle.checks.specs.Prime.{IsModulus}
use Rattle.field.specs.Residue.{reduce, residues}
use Rattle.field.proofs.Field.{residues_field}
use Rattle.field.proofs.Written.{length_tabulate, get_d_tabulate}
use Rattle.frame.specs.Format.{frame_of}
use Rattle.frame.proofs.Round.{written_reads_back}
use Rattle.checks.specs.Outcome.{Outcome}
use Rattle.ledger.specs.Ledger.{Entry, entry, Ledger, ledger, InSpan, multiplier_rows, value_table}
use Rattle.ledger.specs.Steps.{new_told, ledger_take, ledger_withdraw}
use Rattle.ledger.specs.History.{Call, Reply, reply, After, after, ledger_step, run, ledger_run}
use Rattle.ledger.specs.Heard.{new_in, news}
use Rattle.ledger.specs.Settle.{AllSettled, Settling, unit_row_of, unit_take}
use Rattle.ledger.specs.Proper.{Proper}
use Rattle.ledger.proofs.EntryMore.{length_more}
use Rattle.ledger.proofs.Proper.{append_proper}
use Rattle.frame.proofs.Round.{Numbers}
use Rattle.algebra.proofs.Alike.{combination_alike}
use Rattle.ledger.proofs.RankFull.{unit_rows, full_agree, free_unit}
use Rattle.ledger.proofs.SettledWords.{settled_unit}
use Rattle.words.proofs.Zeros.{zeros_at}
use Rattle.ledger.proofs.LedgerLaws.{take_accepted_lem, take_new}
use Rattle.ledger.proofs.LedgerSteps.{Took, new, repeat, conflict, refusal, took, Withdrew, dropped, overlong, withdrew}
use Rattle.ledger.proofs.LedgerRuns.{run_proper}

module _ (p : ℕ) (ok : IsModulus p) (n s : ℕ) where
  -- ---- at least so many

  took_grows : (l : Ledger) (frame mix : List ℕ) {r : Outcome (Ledger × List ℕ)} → Took p ok n s l frame mix r
      → length r.lent.0.entries ≤ length l.entries + new_in (Call.take frame mix) (reply r.told r.lent.1 [])
  unfolding new_in
  took_grows l frame mix (new xs vs e f) = omega (arith, length_more l.entries (entry xs vs))
  took_grows l frame mix (repeat xs vs e c g) = omega arith
  took_grows l frame mix (conflict xs vs e c g) = omega arith
  took_grows l frame mix (refusal k h) = omega arith

  withdrew_falls : (l : Ledger) (t : ℕ) {r : Outcome Ledger} → Withdrew l t r → length r.lent.entries ≤ length l.entries
  withdrew_falls l t (dropped h) = omega (arith, length-take (length l.entries - t) l.entries)
  withdrew_falls l t overlong = omega arith

  -- the count rises by the takes answered new, at most
  pub count_rises : (l : Ledger) (cs : List Call)
      → length (ledger_run p ok n s l cs).state.entries ≤ length l.entries + news cs (ledger_run p ok n s l cs).replies
  unfolding run ledger_step news
  count_rises l [] = omega arith
  count_rises l (Call.take frame mix ∷ cs) =
      let r = ledger_take p ok n s l frame mix in
      omega (arith, took_grows l frame mix (took p ok n s l frame mix), count_rises r.lent.0 cs)
  count_rises l (Call.withdraw t ∷ cs) =
      let r = ledger_withdraw l t in
      omega (arith, withdrew_falls l t (withdrew l t), count_rises r.lent cs)
  count_rises l (Call.show low marks numbers ∷ cs) = omega (arith, count_rises l cs)

  -- where all are settled there are n entries
  pub settled_full : (es : List Entry) → Proper p n s es → 1 ≤ s → AllSettled p n s es → length es ≡ n
  settled_full es proper some all =
      let most : n ≤ length es = unit_rows (residues p) (residues_field p ok.prime) (length es) n (multiplier_rows p es) units in
      omega (arith, proper.fits)
    where
      units : (j : ℕ) → j < n → IsCombination (residues p) (length es) n (multiplier_rows p es) (unit (residues p) j)
      units j l = settled_unit p ok n s es proper some j l (all j l)

  -- every list of further calls after which all records are settled has at least n - k takes answered new
  pub missing_at_least : (l : Ledger) → Proper p n s l.entries → 1 ≤ s → (cs : List Call)
      → AllSettled p n s (ledger_run p ok n s l cs).state.entries
      → n - length l.entries ≤ news cs (ledger_run p ok n s l cs).replies
  missing_at_least l proper some cs all =
      omega (arith, settled_full (ledger_run p ok n s l cs).state.entries (run_proper p ok n s l proper cs) some all, count_rises l cs)

  -- ---- and so many are enough

  -- n entries settle all
  pub full_settled : (es : List Entry) → Proper p n s es → length es ≡ n → AllSettled p n s es
  unfolding apply multiplier_rows value_table
  full_settled es proper full j l x y a b w h =
      full_agree (residues p) (residues_field p ok.prime) (length es) n (multiplier_rows p es) full proper.independent
      (λ i. value_table p es i w) (λ t. x t w) (λ t. y t w) (λ i c. a i c w h) (λ i c. b i c w h) j l

  -- s zeros
  abbrev zeros : List ℕ
  zeros = replicate s 0

  -- the numbers of a unit row with zeros for values, and their residues
  pub unit_numbers : (c : ℕ) → Numbers p n s (unit_row_of n c) zeros
  unfolding unit_row_of
  unit_numbers c =
      record {
        long = length_tabulate n (λ j. choose (eqb c j) 1 0);
        below = λ i h. rw (get_d_tabulate n (λ j. choose (eqb c j) 1 0) i (rw (length_tabulate n (λ j. choose (eqb c j) 1 0)) at h)) (small (eqb c i));
        values_long = length-replicate s 0;
        values_below = λ i h. rw (zeros_at s i) (omega (arith, ok.prime.two_or_more));
      }
    where
      small : (b : Bool) → choose b 1 0 < p
      small true = ok.prime.two_or_more
      small false = omega (arith, ok.prime.two_or_more)

  pub unit_residue : (c j : ℕ) → j < n → reduce p (get_or (unit_row_of n c) j 0) ≡ unit (residues p) c j
  unfolding unit_row_of unit
  unit_residue c j l = ap (reduce p) (get_d_tabulate n (λ i. choose (eqb c i) 1 0) j l) ∙ one_or_zero (eqb c j)
    where
      one_or_zero : (b : Bool) → reduce p (choose b 1 0) ≡ choose b (reduce p 1) (reduce p 0)
      one_or_zero true = refl
      one_or_zero false = refl

  -- a unit row that is no combination is answered new and appended
  unit_step : (es : List Entry) (c : ℕ) → (InSpan p n es (unit_row_of n c) → ⊥)
      → ledger_step p ok n s (ledger es) (unit_take p n s c)
      ≡ after (ledger (es ++ (entry (unit_row_of n c) zeros ∷ []))) (reply (new_told (suc (length es))) (replicate n 0) [] ∷ [])
  unfolding ledger_step unit_take
  unit_step es c free =
      let row = unit_numbers c in
      ap (λ (r : Outcome (Ledger × List ℕ)). after r.lent.0 (reply r.told r.lent.1 [] ∷ []))
      (take_accepted_lem p ok n s es (frame_of p n (unit_row_of n c) zeros) (replicate n 0) (unit_row_of n c) zeros (length-replicate n 0)
      (written_reads_back p n s (unit_row_of n c) zeros ok.in_range row)
      ∙ take_new p ok n s es (unit_row_of n c) zeros (replicate n 0) free)

  -- a ledger with the unit row of c behind it
  abbrev with_unit : List Entry → ℕ → List Entry
  with_unit es c = es ++ (entry (unit_row_of n c) zeros ∷ [])

  -- while an entry is missing, some unit row is no combination of the rows
  next_unit : (es : List Entry) → length es < n → (c : ℕ) × (InSpan p n es (unit_row_of n c) → ⊥)
  next_unit es less =
      let rows = multiplier_rows p es in
      let (c, l, free) = free_unit (residues p) (residues_field p ok.prime) (length es) n rows less in (
        c,
        λ k. free
            (combination_alike (residues p) rows rows (λ i j h b. refl) (λ j. reduce p (get_or (unit_row_of n c) j 0)) (unit (residues p) c) (unit_residue c) k),
      )

  -- its take, before takes that settle what is then left
  settling_next : (es : List Entry) (c : ℕ) → (InSpan p n es (unit_row_of n c) → ⊥) → (cs : List Call)
      → Settling p n s cs (ledger_run p ok n s (ledger (with_unit es c)) cs)
      → Settling p n s (unit_take p n s c ∷ cs) (ledger_run p ok n s (ledger es) (unit_take p n s c ∷ cs))
  unfolding run news new_in unit_take
  settling_next es c free cs rest =
      subst
      (λ (one : After Ledger).
      Settling p n s (unit_take p n s c ∷ cs)
      (after (ledger_run p ok n s one.state cs).state (one.replies ++ (ledger_run p ok n s one.state cs).replies)))
      (sym (unit_step es c free))
      (record {
        all_new = λ r m. ⊎_elim (ap (λ (q : Reply). q.told.number)) (rest.all_new r) (Memᴰ.cases_cons m);
        news_told = omega (arith, rest.news_told);
        settles = rest.settles;
      })

  -- takes of the unit frames of d records settle all where d entries are missing
  unit_frames : (d : ℕ) (es : List Entry) → Proper p n s es → length es + d ≡ n
      → (columns : List ℕ) × (length columns ≡ d)
      × Settling p n s (map (unit_take p n s) columns) (ledger_run p ok n s (ledger es) (map (unit_take p n s) columns))
  unfolding run news
  unit_frames zero es proper e = (
    [],
    refl,
    record { all_new = λ r m. absurd (Memᴰ.not-nil m); news_told = refl; settles = full_settled es proper (omega arith) },
  )
  unit_frames (suc d) es proper e =
      go (next_unit es (omega arith))
      (λ c free.
      unit_frames d (with_unit es c) (append_proper p n s es proper ok (unit_row_of n c) zeros (unit_numbers c) free)
      (omega (arith, length_more es (entry (unit_row_of n c) zeros))))
    where
      Found : ℕ → List Entry → Type 0
      Found k ds =
          (columns : List ℕ) × (length columns ≡ k)
          × Settling p n s (map (unit_take p n s) columns) (ledger_run p ok n s (ledger ds) (map (unit_take p n s) columns))

      go : ((c : ℕ) × (InSpan p n es (unit_row_of n c) → ⊥))
          → ((c : ℕ) → (InSpan p n es (unit_row_of n c) → ⊥) → Found d (with_unit es c)) → Found (suc d) es
      go (c, free) more =
          let (columns, many, rest) = more c free in
          (c ∷ columns, ap suc many, settling_next es c free (map (unit_take p n s) columns) rest)

  -- after some n - k takes, all answered new, all are settled: the takes of the unit frames of some records
  pub missing_enough : (es : List Entry) → Proper p n s es
      → (columns : List ℕ) × (length columns ≡ n - length es)
      × Settling p n s (map (unit_take p n s) columns) (ledger_run p ok n s (ledger es) (map (unit_take p n s) columns))
  missing_enough es proper = unit_frames (n - length es) es proper (omega (arith, proper.fits))
