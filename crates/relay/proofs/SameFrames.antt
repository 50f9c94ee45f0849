-- Frames that say as much as others: where the rows of st are as many independent combinations of those of es, and all assignments that meet
-- es meet st, the same assignments meet both, so the same records are settled, and shows of both are the same.
use mathlib.Core.Path.{◌≡◌, sym, ◌∙◌}
use mathlib.Core.List.{List, [], ◌∷◌, ◌++◌}
use Prim.Native.Nat.{ℕ, ◌<◌}
use native.Mathlib.Omega.{arith}
use lib.IntN.{pos}
use lib.ListN.{length, get_or}
use lib.Seq.{ext_get_or}
use Rattle.checks.specs.Prime.{IsModulus}
use Rattle.field.specs.Residue.{residues}
use Rattle.field.proofs.Field.{residues_field}
use Rattle.frame.specs.Sealing.{word_of}
use Rattle.ledger.specs.Ledger.{Entry, no_entry, Assignment, MeetsAll, Settled, InSpan, multiplier_rows}
use Rattle.ledger.specs.History.{Reply}
use Rattle.ledger.specs.Decide.{in_span?}
use Rattle.ledger.specs.Proper.{Proper}
use Rattle.ledger.specs.Answers.{Shows}
use Rattle.ledger.proofs.EntryMore.{length_more, each_more}
use Rattle.ledger.proofs.Proper.{append_proper}
use Rattle.ledger.proofs.RankRows.{own_combination, span_most}
use Rattle.ledger.proofs.RecordByRecord.{word_place_lem}
use Rattle.ledger.proofs.LedgerLaws.{standing_met, settled?}
use Rattle.ledger.proofs.TakenFrames.{met_gives_values, given_values_met}

module _ (p : ℕ) (ok : IsModulus p) (n s : ℕ) (es st : List Entry) (P : Proper p n s es) (S : Proper p n s st) (many : length st ≡ length es)
    (spanned : (i : ℕ) → i < length st → InSpan p n es (get_or st i no_entry).multipliers)
    (met : (x : Assignment p) → MeetsAll p n s es x → MeetsAll p n s st x) where
  -- a row of es is a combination of those of st: else it would be one more independent row in the span of es
  rows_back : (i : ℕ) → i < length es → InSpan p n st (get_or es i no_entry).multipliers
  unfolding multiplier_rows
  rows_back i h = go (in_span? p ok n st e.multipliers)
    where
      e : Entry
      e = get_or es i no_entry

      more : (InSpan p n st e.multipliers → ⊥) → Proper p n s (st ++ (e ∷ []))
      more =
          append_proper p n s st S ok e.multipliers e.values
          (record {
            long = P.wide i h;
            below = λ j l. P.below i j h (rw (P.wide i h) at l);
            values_long = P.values_long i h;
            values_below = λ w l. P.value_below i w h (rw (P.values_long i h) at l);
          })

      all_spanned : (y : ℕ) → y < length (st ++ (e ∷ [])) → InSpan p n es (get_or (st ++ (e ∷ [])) y no_entry).multipliers
      all_spanned =
          each_more st e (λ a. InSpan p n es a.multipliers) spanned
          (own_combination (residues p) (residues_field p ok.prime).ring (multiplier_rows p es) i h)

      go : Dec (InSpan p n st e.multipliers) → InSpan p n st e.multipliers
      go (yes c) = c
      go (no f) =
          absurd
          (omega (
            arith,
            length_more st e,
            span_most (residues p) (residues_field p ok.prime) (length es) (length (st ++ (e ∷ []))) n (multiplier_rows p es)
                (multiplier_rows p (st ++ (e ∷ []))) (more f).independent all_spanned,
          ))

  -- so what meets st meets es: the values are the combination's, as some assignment meets both
  met_back : (x : Assignment p) → MeetsAll p n s st x → MeetsAll p n s es x
  met_back x all i h =
      let (y, both) = standing_met p ok n s es P in
      let e = get_or es i no_entry in
      let c = rows_back i h in
      given_values_met p ok n s st e.multipliers e.values x all c
      (met_gives_values p ok n s st e.multipliers e.values y (met y both) (both i h) c)

  settled_back : (j : ℕ) → Settled p n s es j → Settled p n s st j
  settled_back j settled x y m l = settled x y (met_back x m) (met_back y l)

  settled_there : (j : ℕ) → Settled p n s st j → Settled p n s es j
  settled_there j settled x y m l = settled x y (met x m) (met y l)

  -- ---- shows of both

  module _ (low : ℕ) {r r' : Reply} (there : Shows p n s low st r) (own : Shows p n s low es r') where
    mark_same : (j : ℕ) → j < n → get_or r.words j 0 ≡ get_or r'.words j 0
    mark_same j h = go (settled? p ok n s es P j)
      where
        go : Dec (Settled p n s es j) → get_or r.words j 0 ≡ get_or r'.words j 0
        go (yes e) =
            let (x, all) = standing_met p ok n s es P in
            ((there.gives j h).0 (settled_back j e) x (met x all)).0 ∙ sym ((own.gives j h).0 e x all).0
        go (no f) = ((there.gives j h).1 (λ e. f (settled_there j e))).0 ∙ sym ((own.gives j h).1 f).0

    word_same : (j w : ℕ) → j < n → w < s → word_of s r.numbers j w ≡ word_of s r'.numbers j w
    word_same j w h l = go (settled? p ok n s es P j)
      where
        go : Dec (Settled p n s es j) → word_of s r.numbers j w ≡ word_of s r'.numbers j w
        go (yes e) =
            let (x, all) = standing_met p ok n s es P in
            ((there.gives j h).0 (settled_back j e) x (met x all)).1 w l ∙ sym (((own.gives j h).0 e x all).1 w l)
        go (no f) = ((there.gives j h).1 (λ e. f (settled_there j e))).1 w l ∙ sym (((own.gives j h).1 f).1 w l)

    pub shows_same : (r.words ≡ r'.words) × (r.numbers ≡ r'.numbers)
    shows_same = (
      ext_get_or 0 r.words r'.words (there.marks_long ∙ sym own.marks_long) (λ j b. mark_same j (rw there.marks_long at b)),
      ext_get_or (pos 0) r.numbers r'.numbers (there.numbers_long ∙ sym own.numbers_long)
          (λ q b.
          let (j, w, h, l, e) = word_place_lem n s q (rw there.numbers_long at b) in
          rw e (word_same j w h l)),
    )
