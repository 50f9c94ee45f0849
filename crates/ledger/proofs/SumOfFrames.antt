-- The sentence for which all this was built: a frame whose multipliers are the sum of those of two standing frames, or in a history
-- without withdrawals of two frames answered new or repeat, is never answered new. For the sum of two combinations of the standing
-- rows is one. Last, that a sum of frames that come from records comes from those records.
use mathlib.Core.Path.{◌≡◌, refl, sym, ap, ap₂, ◌∙◌, subst, subst₂}
use mathlib.Core.List.{List, [], Memᴰ}
use Prim.Native.Nat.{ℕ, ◌+◌, ◌%◌, ◌<◌}
use native.Mathlib.Nat.{mod-mod, mod-lt}
use native.Mathlib.Omega.{arith}
use lib.IntN.{ℤ}
use lib.ListN.{length, get_or, replicate, length-replicate}
use Rattle.algebra.specs.Ring.{IsCommutativeRing}
use Rattle.algebra.specs.Matrix.{Vector}
use Rattle.algebra.proofs.Alike.{combination_alike}
use Rattle.algebra.proofs.Sums as sums
use Rattle.checks.specs.Prime.{IsModulus}
use Rattle.checks.specs.Largest.{FrameSize, WordCount}
use Rattle.checks.specs.Told.{results}
use Rattle.checks.specs.Outcome.{Outcome, outcome}
use Rattle.checks.proofs.Refusals.{refusal_number_lem}
use Rattle.checks.proofs.InOrder.{none_left, ◌and_then◌}
use Rattle.field.specs.Residue.{Residue, reduce, residues, ◌⊕◌, ◌⊗◌}
use Rattle.field.proofs.Residues.{reduce_same, reduce_plus}
use Rattle.field.proofs.Field.{residues_field}
use Rattle.field.proofs.Written.{get_d_tabulate, is_tabulate}
use Rattle.signed.specs.Reading.{residue_of}
use Rattle.words.specs.Words.{Below}
use Rattle.frame.specs.Reading.{accepted, read_frame}
use Rattle.frame.specs.Sealing.{word_of, sealed_word, sealed}
use Rattle.frame.proofs.Round.{accepted_found}
use Rattle.frame.proofs.Calls.{sizes_hold, seal_done, seal_told_lem, read_told}
use Rattle.ledger.specs.Ledger.{Entry, no_entry, Ledger, ledger, InSpan, multiplier_rows}
use Rattle.ledger.specs.Calls.{open_call}
use Rattle.ledger.specs.History.{Call, Reply, ledger_step}
use Rattle.ledger.specs.Turns.{Turn, reply_of}
use Rattle.ledger.specs.Heard.{NoWithdrawal, heard}
use Rattle.ledger.specs.Demand3.{replies_to, standing, reply_at}
use Rattle.ledger.specs.Honest.{HeatRecords, ReadsAs, SealsAs, ComesFrom, IsSum}
use Rattle.ledger.proofs.RankRows.{own_combination, combination_plus}
use Rattle.ledger.proofs.RankLedger.{run_heard}
use Rattle.ledger.proofs.LedgerSteps.{Took, new, repeat, conflict, refusal, took}
use Rattle.ledger.proofs.Histories.{open_accepted}
use Rattle.ledger.proofs.Demand3.{turn_replied, replies_same}

module _ (p : ℕ) (ok : IsModulus p) (n s : ℕ) where
  L : IsCommutativeRing (residues p)
  L = (residues_field p ok.prime).ring

  -- ---- a combination of the standing rows is never new

  -- the multipliers of a standing frame are a combination of the rows
  standing_in_span : (es : List Entry) (i : ℕ) → i < length es → InSpan p n es (get_or es i no_entry).multipliers
  unfolding multiplier_rows
  standing_in_span es i h = own_combination (residues p) L (multiplier_rows p es) i h

  -- and so is the sum of two that are
  sum_in_span : (es : List Entry) (xs ys summed : List ℕ) → InSpan p n es xs → InSpan p n es ys → IsSum p n xs ys summed
      → InSpan p n es summed
  sum_in_span es xs ys summed c d m =
      combination_alike (residues p) (multiplier_rows p es) (multiplier_rows p es) (λ i j h l. refl)
      (λ j. reduce p (get_or xs j 0) ⊕ reduce p (get_or ys j 0)) (λ j. reduce p (get_or summed j 0))
      (λ j l.
      sym (reduce_plus p (get_or xs j 0) (get_or ys j 0))
      ∙ reduce_same p _ _ (sym (mod-mod (get_or xs j 0 + get_or ys j 0) p))
      ∙ ap (reduce p) (sym (m.sums j l)))
      (combination_plus (residues p) L (length es) n (multiplier_rows p es) _ _ c d)

  -- a frame that reads as a combination of the standing rows is not answered new
  took_not_new : (l : Ledger) (frame mix xs vs : List ℕ) {r : Outcome (Ledger × List ℕ)} → Took p ok n s l frame mix r
      → read_frame p n s frame ≡ accepted xs vs → InSpan p n l.entries xs → r.told.number ≡ 0 → ⊥
  took_not_new l frame mix xs vs (new ys us e f) q c d =
      f (subst (InSpan p n l.entries) (sym (accepted_found p n s frame xs vs q).0 ∙ (accepted_found p n s frame ys us e).0) c)
  took_not_new l frame mix xs vs (repeat ys us e k g) q c d = omega arith
  took_not_new l frame mix xs vs (conflict ys us e k g) q c d = omega arith
  took_not_new l frame mix xs vs (refusal k h) q c d = omega (arith, refusal_number_lem k)

  module _ (ws : List ℕ) (done : (open_call p n s ws).told.number ≡ 0) where
    size : FrameSize n
    size = (open_accepted p n s ws done).size

    words : WordCount s
    words = (open_accepted p n s ws done).words

    module _ {cs : List Call} (t : Turn cs) (frame mix : List ℕ) (e : t.call ≡ Call.take frame mix)
        (summed vs : List ℕ) (reads : ReadsAs p n s frame summed vs) where
      combination_never_new : InSpan p n (standing p ok n s t.before) summed → (reply_at p n s ws t).told.number ≡ 0 → ⊥
      unfolding ledger_step
      combination_never_new c zero-told =
          let l = ledger (standing p ok n s t.before) in
          let same = turn_replied p ok n s ws done t ∙ ap (λ d. reply_of (ledger_step p ok n s l d)) e in
          let room : List ℕ = replicate n 0 in
          let values_room : List ℕ = replicate s 0 in
          took_not_new l frame mix summed vs (took p ok n s l frame mix)
          (read_told p n s frame room values_room summed vs (sizes_hold p n s ok size words) (length-replicate n 0) (length-replicate s 0)
          (reads room values_room (length-replicate n 0) (length-replicate s 0))) c
          (sym (ap (λ (r : Reply). r.told.number) same) ∙ zero-told)

      -- a frame whose multipliers are the sum of those of two standing frames is never answered new
      pub sum_never_new : (i k : ℕ) → i < length (standing p ok n s t.before) → k < length (standing p ok n s t.before)
          → IsSum p n (get_or (standing p ok n s t.before) i no_entry).multipliers (get_or (standing p ok n s t.before) k no_entry).multipliers summed
          → (reply_at p n s ws t).told.number ≡ 0 → ⊥
      sum_never_new i k h l m =
          let es = standing p ok n s t.before in
          combination_never_new (sum_in_span es _ _ summed (standing_in_span es i h) (standing_in_span es k l) m)

      -- without withdrawals: of two frames answered new or repeat
      pub sum_of_heard_never_new : NoWithdrawal t.before → (xs ys : List ℕ)
          → Memᴰ xs (heard p n s t.before (replies_to p n s ws t.before))
          → Memᴰ ys (heard p n s t.before (replies_to p n s ws t.before))
          → IsSum p n xs ys summed → (reply_at p n s ws t).told.number ≡ 0 → ⊥
      sum_of_heard_never_new only xs ys m k sum =
          combination_never_new (sum_in_span (standing p ok n s t.before) xs ys summed (spans xs m) (spans ys k) sum)
        where
          spans : (zs : List ℕ) → Memᴰ zs (heard p n s t.before (replies_to p n s ws t.before))
              → InSpan p n (standing p ok n s t.before) zs
          spans zs i =
              run_heard p ok n s (ledger []) t.before only zs
              (subst (λ rs. Memᴰ zs (heard p n s t.before rs)) (replies_same p ok n s ws done t.before) i)

  -- ---- sums of frames that come from records

  -- the sealed values of a sum are the sums of the sealed values
  sealed_word_sum : (zs : List ℤ) (xs ys summed : List ℕ) (w : ℕ) → IsSum p n xs ys summed
      → sealed_word p n s zs summed w ≡ (sealed_word p n s zs xs w + sealed_word p n s zs ys w) % p
  unfolding sealed_word ◌⊕◌ reduce
  sealed_word_sum zs xs ys summed w m =
      let z : Vector (residues p) = λ t. reduce p (residue_of p (word_of s zs t w)) in
      ap (λ (a : Residue p). a.value)
      (sums.sum_same (residues p) n (λ t. z t ⊗ reduce p (get_or summed t 0)) (λ t. z t ⊗ reduce p (get_or xs t 0) ⊕ z t ⊗ reduce p (get_or ys t 0))
      (λ t h.
      ap (λ a. z t ⊗ a)
      (ap (reduce p) (m.sums t h) ∙ reduce_same p _ _ (mod-mod (get_or xs t 0 + get_or ys t 0) p) ∙ reduce_plus p (get_or xs t 0) (get_or ys t 0))
      ∙ L.times_plus (z t) (reduce p (get_or xs t 0)) (reduce p (get_or ys t 0)))
      ∙ sums.sum_plus (residues p) L n (λ t. z t ⊗ reduce p (get_or xs t 0)) (λ t. z t ⊗ reduce p (get_or ys t 0)))

  sealed_sum : (zs : List ℤ) (xs ys summed totals : List ℕ) → IsSum p n xs ys summed
      → IsSum p s (sealed p n s zs xs) (sealed p n s zs ys) totals → totals ≡ sealed p n s zs summed
  unfolding sealed
  sealed_sum zs xs ys summed totals m k =
      is_tabulate s (sealed_word p n s zs summed) totals k.long
      (λ w h.
      k.sums w h
      ∙ ap₂ (λ a b. (a + b) % p) (get_d_tabulate s (sealed_word p n s zs xs) w h) (get_d_tabulate s (sealed_word p n s zs ys) w h)
      ∙ sym (sealed_word_sum zs xs ys summed w m))

  -- what seal gives for the sum of two frames' multipliers is the sum of what it gives for theirs, word by word
  pub seals_sum : FrameSize n → WordCount s → (low : ℕ) (zs : List ℤ) → HeatRecords p n s low zs → (xs ys summed vs us totals : List ℕ)
      → SealsAs p n s low zs xs vs → SealsAs p n s low zs ys us → IsSum p n xs ys summed → IsSum p s vs us totals
      → SealsAs p n s low zs summed totals
  seals_sum size words low zs heat xs ys summed vs us totals e f m k lent long =
      sym (seal_done p n s low zs summed lent (sizes_hold p n s ok size words)
      (heat.many and_then m.long and_then long and_then below and_then heat.low_below and_then heat.in_range and_then none_left))
      ∙ ap (outcome (results s)) (sym (sealed_sum zs xs ys summed totals m (subst₂ (λ a b. IsSum p s a b totals) (gave xs vs e) (gave ys us f) k)))
    where
      below : Below p summed
      below i h = rw (m.sums i (rw m.long at h)) (mod-lt (get_or xs i 0 + get_or ys i 0) (omega (arith, ok.prime.two_or_more)))

      gave : (row values : List ℕ) → SealsAs p n s low zs row values → values ≡ sealed p n s zs row
      gave row values g = seal_told_lem p n s low zs row lent values (g lent long)

  -- so a frame that reads as the sum of two frames that come from records comes from those records
  pub sum_comes_from : FrameSize n → WordCount s → (low : ℕ) (zs : List ℤ) → HeatRecords p n s low zs
      → (frame₁ frame₂ frame xs ys summed vs us totals : List ℕ)
      → ReadsAs p n s frame₁ xs vs → ComesFrom p n s low zs frame₁ → ReadsAs p n s frame₂ ys us → ComesFrom p n s low zs frame₂
      → ReadsAs p n s frame summed totals → IsSum p n xs ys summed → IsSum p s vs us totals → ComesFrom p n s low zs frame
  sum_comes_from size words low zs heat frame₁ frame₂ frame xs ys summed vs us totals r from q from' t m k row values g =
      let room : List ℕ = replicate n 0 in
      let values_room : List ℕ = replicate s 0 in
      let read =
      sym (t room values_room (length-replicate n 0) (length-replicate s 0)) ∙ g room values_room (length-replicate n 0) (length-replicate s 0) in
      subst₂ (SealsAs p n s low zs) (ap (λ (o : Outcome (List ℕ × List ℕ)). o.lent.0) read)
      (ap (λ (o : Outcome (List ℕ × List ℕ)). o.lent.1) read)
      (seals_sum size words low zs heat xs ys summed vs us totals (from xs vs r) (from' ys us q) m k)
