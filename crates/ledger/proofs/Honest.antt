-- The honest heat: where every frame taken comes from one set of records, the records' residues meet every frame that is read, so
-- they meet the standing ones after every list of calls. A combination of standing frames then has the combination's values, so no
-- frame is refused by 9, and what all assignments agree on are the residues of the record's words, which show reads. The other way
-- round, a 9 shows that there are no such records.
use mathlib.Core.Path.{◌≡◌, sym, ap, ◌∙◌, subst, subst₂}
use mathlib.Core.List.{List}
use Prim.Native.Nat.{ℕ, ◌<◌}
use native.Mathlib.Omega.{arith}
use lib.IntN.{ℤ}
use lib.ListN.{get_or, take, replicate, length-replicate}
use Rattle.checks.specs.Prime.{IsModulus}
use Rattle.checks.specs.Largest.{FrameSize, WordCount}
use Rattle.checks.specs.Refusal.{IsRefusal}
use Rattle.checks.specs.Told.{Told, results}
use Rattle.checks.specs.Outcome.{Outcome}
use Rattle.field.specs.Residue.{reduce}
use Rattle.field.proofs.Residues.{reduce_small}
use Rattle.signed.specs.Reading.{reading, residue_of, IsRecord, IsReading}
use Rattle.signed.proofs.Readings.{reading_of_residue}
use Rattle.signed.proofs.Congruences.{congruent_self, record_reads}
use Rattle.frame.specs.Reading.{accepted, read_frame}
use Rattle.frame.specs.Sealing.{word_place, word_of}
use Rattle.frame.specs.Calls.{read_call, write_call}
use Rattle.frame.proofs.RoundCalls.{write_then_read}
use Rattle.frame.proofs.Calls.{sizes_hold, seal_told_lem, read_as_told}
use Rattle.frame.proofs.RecordsMeet.{sealed_met}
use Rattle.ledger.specs.Ledger.{Entry, entry, Meets, MeetsAll}
use Rattle.ledger.specs.Calls.{open_call}
use Rattle.ledger.specs.History.{Call}
use Rattle.ledger.specs.Turns.{Turn}
use Rattle.ledger.specs.Demand3.{standing, reply_at}
use Rattle.ledger.specs.Honest.{HeatRecords, record_residues, SealsAs, ComesFrom, Honest, HonestHeat, NoRecords}
use Rattle.ledger.proofs.RecordByRecord.{place_inside}
use Rattle.ledger.proofs.Histories.{open_accepted}
use Rattle.ledger.proofs.Demand3.{demand_3}
use Rattle.ledger.proofs.TakenFrames.{AllAsRead, each_standing, each_before, nine_unmet, turn_not_nine}

-- what the console sends is honest: the frame that write leaves, for values that seal gave, comes from the records
pub written_comes_from : (p n s low : ℕ) (zs : List ℤ) (xs vs : List ℕ) → SealsAs p n s low zs xs vs
    → (lent : List ℕ) (k : ℕ) → (write_call p n s xs vs lent).told ≡ results k → ComesFrom p n s low zs (take k (write_call p n s xs vs lent).lent)
written_comes_from p n s low zs xs vs seals lent k e ys us reads =
    let number = ap (λ (t : Told). t.number) e in
    let done = write_then_read p n s xs vs lent (λ r. omega arith) in
    let same : done.k ≡ k = omega (arith, ap (λ (t : Told). t.number) done.told) in
    let room : List ℕ = replicate n 0 in
    let values_room : List ℕ = replicate s 0 in
    let read =
    sym (reads room values_room (length-replicate n 0) (length-replicate s 0))
    ∙ ap (λ q. read_call p n s (take q (write_call p n s xs vs lent).lent) room values_room) (sym same)
    ∙ done.reads room values_room (length-replicate n 0) (length-replicate s 0) in
    subst₂ (SealsAs p n s low zs) (sym (ap (λ (o : Outcome (List ℕ × List ℕ)). o.lent.0) read))
    (sym (ap (λ (o : Outcome (List ℕ × List ℕ)). o.lent.1) read)) seals

module _ (p : ℕ) (ok : IsModulus p) (n s : ℕ) where
  -- ---- the records meet what comes from them

  module _ (low : ℕ) (zs : List ℤ) where
    -- a frame whose values seal gives is met by the records' residues
    seals_met : (xs vs : List ℕ) → SealsAs p n s low zs xs vs → Meets p n s (entry xs vs) (record_residues p s zs)
    seals_met xs vs e w h =
        sealed_met p n s zs xs w (omega (arith, ok.prime.two_or_more)) h
        ∙ ap (λ (us : List ℕ). reduce p (get_or us w 0))
        (sym (seal_told_lem p n s low zs xs (replicate s 0) vs (e (replicate s 0) (length-replicate s 0))))

    module _ (size : FrameSize n) (words : WordCount s) where
      -- and so is what a frame that comes from them reads as
      comes_met : (frame xs vs : List ℕ) → ComesFrom p n s low zs frame → read_frame p n s frame ≡ accepted xs vs
          → Meets p n s (entry xs vs) (record_residues p s zs)
      comes_met frame xs vs from e =
          seals_met xs vs
          (from xs vs
          (λ multipliers values long values_long.
          read_as_told p n s frame multipliers values xs vs (sizes_hold p n s ok size words) long values_long e))

  -- ---- on the board

  module _ (ws : List ℕ) (done : (open_call p n s ws).told.number ≡ 0) where
    size : FrameSize n
    size = (open_accepted p n s ws done).size

    words : WordCount s
    words = (open_accepted p n s ws done).words

    -- what a 9 proves: the frames that stood and the refused one come from no one set of records
    pub nine_proves : {cs : List Call} (t : Turn cs) (frame mix : List ℕ) → t.call ≡ Call.take frame mix
        → (reply_at p n s ws t).told.number ≡ 9 → NoRecords p n s (standing p ok n s t.before) frame
    nine_proves t frame mix e nine low zs heat seals from =
        nine_unmet p ok n s ws done t frame mix e nine (record_residues p s zs) (λ i h. seals_met low zs _ _ (seals i h))
        (λ xs vs q. comes_met low zs size words frame xs vs from q)

    -- the honest heat
    module _ (low : ℕ) (zs : List ℤ) (heat : HeatRecords p n s low zs) where
      -- each word of a record is in range
      record_in_range : (j w : ℕ) → j < n → w < s → IsRecord p low (word_of s zs j w)
      record_in_range j w b h = heat.in_range (word_place s j w) (rw heat.many (place_inside n s j w b h))

      -- what each frame reads as is met by the records' residues
      abbrev MetByRecords : Entry → Type 0
      MetByRecords e = Meets p n s e (record_residues p s zs)

      honest_as_read : (cs : List Call) → Honest p n s low zs cs → AllAsRead p ok n s MetByRecords cs
      honest_as_read cs honest frame mix m xs vs e = comes_met low zs size words frame xs vs (honest frame mix m) e

      honest_met : (cs : List Call) → Honest p n s low zs cs → MeetsAll p n s (standing p ok n s cs) (record_residues p s zs)
      honest_met cs honest = each_standing p ok n s MetByRecords cs (honest_as_read cs honest)

      before_met : {cs : List Call} (t : Turn cs) → Honest p n s low zs cs
          → MeetsAll p n s (standing p ok n s t.before) (record_residues p s zs)
      before_met {cs} t honest = each_before p ok n s MetByRecords t (honest_as_read cs honest)

      -- a marked record is settled, so the number of each word is read from the word's residue, and that is what the word reads as
      turn_shows_readings : {cs : List Call} (t : Turn cs) → Honest p n s low zs cs → (other : ℕ) (marks : List ℕ) (numbers : List ℤ)
          → t.call ≡ Call.show other marks numbers → (IsRefusal (reply_at p n s ws t).told.number → ⊥) → (j w : ℕ) → j < n → w < s
          → get_or (reply_at p n s ws t).words j 0 ≡ 1 → IsReading p other (word_of s zs j w) (word_of s (reply_at p n s ws t).numbers j w)
      turn_shows_readings {cs} t honest other marks numbers e f j w b h mark =
          let shows = (demand_3 p ok n s ws done cs).shows t other marks numbers e f in
          let settled = (shows.marked_exactly j b).0 mark in
          let given = ((shows.gives j b).0 settled (record_residues p s zs) (before_met t honest)).1 w h in
          let z = word_of s zs j w in
          let r = record_in_range j w b h in
          let small = reduce_small p (residue_of p z) (reading_of_residue p low z heat.low_below r).0 in
          subst (IsReading p other z) (sym (given ∙ ap (reading p other) small))
          (record_reads p other shows.low_below z low heat.low_below r)

      -- in the range of its own low end that is the word
      turn_shows_records : {cs : List Call} (t : Turn cs) → Honest p n s low zs cs → (marks : List ℕ) (numbers : List ℤ)
          → t.call ≡ Call.show low marks numbers → (IsRefusal (reply_at p n s ws t).told.number → ⊥) → (j w : ℕ) → j < n → w < s
          → get_or (reply_at p n s ws t).words j 0 ≡ 1 → word_of s (reply_at p n s ws t).numbers j w ≡ word_of s zs j w
      turn_shows_records t honest marks numbers e f j w b h mark =
          let z = word_of s zs j w in
          sym ((turn_shows_readings t honest low marks numbers e f j w b h mark).only z (record_in_range j w b h) (congruent_self p z))

      pub honest_heat : (cs : List Call) → Honest p n s low zs cs → HonestHeat p ok n s ws low zs cs
      honest_heat cs honest =
          record {
            never_nine = λ t. turn_not_nine p ok n s ws done (record_residues p s zs) t (honest_as_read cs honest);
            records_meet = honest_met cs honest;
            shows_readings = λ t. turn_shows_readings t honest;
            shows_records = λ t. turn_shows_records t honest;
          }
