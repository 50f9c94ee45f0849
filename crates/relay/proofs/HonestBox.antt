-- The honest heat across a relay: where every frame that the box took carries what seal gives for one set of records, so does every frame that
-- it sends. So the office's heat is honest too: it is shown as those records or as unknown, whichever frames were lost on either way.
use mathlib.Core.Path.{◌≡◌, sym, ap, ◌∙◌, subst}
use mathlib.Core.List.{List}
use Prim.Native.Nat.{ℕ, ◌<◌}
use native.Mathlib.Omega.{arith}
use lib.IntN.{ℤ}
use lib.ListN.{get_or, replicate, length-replicate}
use Rattle.checks.specs.Prime.{IsModulus}
use Rattle.checks.specs.Told.{results}
use Rattle.checks.specs.Outcome.{outcome}
use Rattle.checks.specs.Largest.{FrameSize, WordCount}
use Rattle.checks.proofs.InOrder.{none_left, ◌and_then◌}
use Rattle.algebra.specs.Matrix.{sum}
use Rattle.field.specs.Residue.{reduce, residues, ◌⊗◌}
use Rattle.signed.specs.Reading.{residue_of}
use Rattle.field.proofs.Residues.{reduce_injective, value_below}
use Rattle.field.proofs.Written.{is_tabulate}
use Rattle.frame.specs.Sealing.{word_of, sealed_word, sealed}
use Rattle.frame.proofs.Calls.{sizes_hold, read_told, seal_done}
use Rattle.frame.proofs.Round.{Numbers, accepted_numbers}
use Rattle.frame.proofs.RecordsMeet.{sealed_at, sealed_met}
use Rattle.ledger.specs.Ledger.{entry, Meets, MeetsAll}
use Rattle.ledger.specs.Board.{IsBoard, layout, entries_of}
use Rattle.ledger.specs.Calls.{open_call}
use Rattle.ledger.specs.History.{Call}
use Rattle.ledger.specs.Demand3.{standing, words_after}
use Rattle.ledger.specs.Honest.{HeatRecords, record_residues, SealsAs, ComesFrom, Honest, HonestHeat}
use Rattle.ledger.proofs.LayoutBoard.{layout_board, layout_entries, wide_entries}
use Rattle.ledger.proofs.Histories.{open_accepted}
use Rattle.ledger.proofs.Demand3.{standing_proper}
use Rattle.ledger.proofs.Honest.{honest_heat}
use Rattle.relay.specs.Office.{Sent, FedBy}
use Rattle.relay.proofs.Office.{sent_as, read_once}
use Rattle.relay.proofs.AfterCalls.{words_laid}

-- what the records meet, with values below p, is what seal gives for them
met_seals : (p : ℕ) → IsModulus p → (n s : ℕ) → FrameSize n → WordCount s → (low : ℕ) (zs : List ℤ) → HeatRecords p n s low zs
    → (xs vs : List ℕ) → Numbers p n s xs vs → Meets p n s (entry xs vs) (record_residues p s zs) → SealsAs p n s low zs xs vs
unfolding sealed sealed_word
met_seals p ok n s size words low zs heat xs vs numbers met lent room =
    sym
    (seal_done p n s low zs xs lent (sizes_hold p n s ok size words)
    (heat.many and_then numbers.long and_then room and_then numbers.below and_then heat.low_below and_then heat.in_range and_then none_left))
    ∙ ap (λ us. outcome (results s) us) (sym same)
  where
    positive : 0 < p
    positive = omega (arith, ok.prime.two_or_more)

    same : vs ≡ sealed p n s zs xs
    same =
        is_tabulate s (sealed_word p n s zs xs) vs numbers.values_long
        (λ w h.
        reduce_injective p (get_or vs w 0) (sealed_word p n s zs xs w) (numbers.values_below w (rw numbers.values_long h))
        (value_below positive (sum (residues p) n (λ j. reduce p (residue_of p (word_of s zs j w)) ⊗ reduce p (get_or xs j 0))))
        (sym (met w h) ∙ sealed_met p n s zs xs w positive h ∙ ap (reduce p) (sealed_at p n s zs xs w h)))

module _ (p : ℕ) (ok : IsModulus p) (n s : ℕ) (ws : List ℕ) (opened : (open_call p n s ws).told.number ≡ 0) (low : ℕ) (zs : List ℤ)
    (heat : HeatRecords p n s low zs) (own : List Call) (honest : Honest p n s low zs own) where
  -- every frame that the box sends after honest calls comes from the records
  pub sent_honest : (frame : List ℕ) → Sent (words_after p n s ws own) frame → ComesFrom p n s low zs frame
  unfolding layout
  sent_honest frame sent xs vs reads =
      let st = standing p ok n s own in
      let proper = standing_proper p ok n s ws opened own in
      let opening = open_accepted p n s ws opened in
      let board : IsBoard (layout p n s st) = layout_board p n s st ok opening.size opening.words proper in
      let d = sent_as (layout p n s st) board frame (subst (λ box. Sent box frame) (words_laid p ok n s ws opened own) sent) in
      let room : List ℕ = replicate n 0 in
      let values_room : List ℕ = replicate s 0 in
      let found =
      read_told p n s frame room values_room xs vs (sizes_hold p n s ok opening.size opening.words) (length-replicate n 0) (length-replicate s 0)
      (reads room values_room (length-replicate n 0) (length-replicate s 0)) in
      let met : MeetsAll p n s (entries_of (layout p n s st)) (record_residues p s zs) =
      rw (layout_entries p n s st (wide_entries p n s st proper)) (honest_heat p ok n s ws opened low zs heat own honest).records_meet in
      met_seals p ok n s opening.size opening.words low zs heat xs vs
      (accepted_numbers p n s frame xs vs (omega (arith, ok.prime.two_or_more)) found)
      (subst (λ e. Meets p n s e (record_residues p s zs)) (read_once (layout p n s st) board frame d xs vs found) (d.implied (record_residues p s zs) met))

  -- so an office that is fed by it has an honest heat
  pub relayed_heat : (ws' : List ℕ) → (open_call p n s ws').told.number ≡ 0 → (cs : List Call) → FedBy (words_after p n s ws own) cs
      → HonestHeat p ok n s ws' low zs cs
  relayed_heat ws' opened' cs fed = honest_heat p ok n s ws' opened' low zs heat cs (λ frame mix m. sent_honest frame (fed frame mix m))
