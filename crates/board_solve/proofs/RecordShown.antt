-- The loop of `show_records` writes a mark and the numbers of a record's words a turn: what stands there after j turns, and that after the
-- last turn the marks and the numbers are those of the ledger.
use mathlib.Core.Path.{◌≡◌, sym, ap, ◌∙◌}
use mathlib.Core.List.{List}
use Prim.Native.Nat.{ℕ, ◌+◌, ◌*◌, ◌<◌}
use native.Mathlib.Omega.{arith}
use borrow.Author.Count.{below_more}
use lib.IntN.{ℤ, pos}
use lib.ListN.{length, get_or, set, length-set}
use lib.Seq.{get_or-set_same, get_or-set_other}
use Rattle.checks.specs.Prime.{IsModulus}
use Rattle.field.specs.Written.{tabulate}
use Rattle.field.proofs.Written.{is_tabulate}
use Rattle.signed.specs.Reading.{reading}
use Rattle.frame.specs.Sealing.{word_of}
use Rattle.ledger.specs.Board.{modulus_word, size_word, count_word, values_word, entries_of}
use Rattle.ledger.specs.Ledger.{Entry}
use Rattle.ledger.specs.Steps.{record_by_record, shown_mark, shown_number}
use Rattle.ledger.proofs.RecordByRecord.{place_inside, is_records}
use Rattle.matrix_echelon.specs.Reduced.{RowsByPivot}
use Rattle.board_solve.specs.Records.{BoardReduced, UnitAt, worked_place, NumbersPut}
use Rattle.board_solve.proofs.RecordReduced.{row_unit, unit_row, value_number}
use Rattle.board_solve.proofs.RecordSettled.{shown_at, hidden_at}

-- ---- one place more of a list

set_more : {A : Type 0} (a : A) (f : ℕ → A) (xs : List A) (j : ℕ) (v : A) → j < length xs → ((i : ℕ) → i < j → get_or xs i a ≡ f i) → f j ≡ v
    → (i : ℕ) → i < j + 1 → get_or (set xs j v) i a ≡ f i
set_more a f xs j v h below e =
    below_more (λ i. get_or (set xs j v) i a ≡ f i) j (λ i l. get_or-set_other xs j i v a (omega arith) ∙ below i l)
    (get_or-set_same xs j v a h ∙ sym e)

-- ---- the marks and the numbers

-- the records below j are shown
pub record ShownBelow (p n s low : ℕ) (es : List Entry) (j : ℕ) (marks : List ℕ) (numbers : List ℤ) : Type 0 where
  pub marks_long : length marks ≡ n
  pub numbers_long : length numbers ≡ n * s
  pub mark_at : (ok : IsModulus p) (i : ℕ) → i < j → get_or marks i 0 ≡ shown_mark p ok n s es i
  pub number_at : (ok : IsModulus p) (i : ℕ) → i < j → (w : ℕ) → w < s → word_of s numbers i w ≡ shown_number p ok n s es low i w

module _ (p n s low : ℕ) (es : List Entry) where
  -- one record more: its mark is set, and the numbers of its words are put behind those of the records before it
  pub shown_more : (j : ℕ) (marks : List ℕ) (numbers : List ℤ) (m : ℕ) (f : ℕ → ℤ) (more : List ℤ) → j < n
      → ShownBelow p n s low es j marks numbers → NumbersPut (j * s) s f numbers more
      → ((ok : IsModulus p) → (shown_mark p ok n s es j ≡ m) × ((w : ℕ) → w < s → shown_number p ok n s es low j w ≡ f w))
      → ShownBelow p n s low es (j + 1) (set marks j m) more
  shown_more j marks numbers m f more h b put e =
      record {
        marks_long = length-set marks j m ∙ b.marks_long;
        numbers_long = put.same_length ∙ b.numbers_long;
        mark_at = λ ok. set_more 0 (shown_mark p ok n s es) marks j m (omega (arith, b.marks_long)) (b.mark_at ok) (e ok).0;
        number_at = λ ok.
            below_more (λ i. (w : ℕ) → w < s → word_of s more i w ≡ shown_number p ok n s es low i w) j
            (λ i l w c. put.front (i * s + w) (earlier i l w c) ∙ b.number_at ok i l w c)
            (λ w c. put.each w c ∙ sym ((e ok).1 w c));
      }
    where
      earlier : (i : ℕ) → i < j → (w : ℕ) → w < s → i * s + w < j * s
      earlier i l w c = place_inside j s i w l c

  -- all records
  pub shown_all : (marks : List ℕ) (numbers : List ℤ) → ShownBelow p n s low es n marks numbers → (ok : IsModulus p)
      → (marks ≡ tabulate n (shown_mark p ok n s es)) × (numbers ≡ record_by_record n s (shown_number p ok n s es low))
  shown_all marks numbers b ok = (
    is_tabulate n (shown_mark p ok n s es) marks b.marks_long (b.mark_at ok),
    is_records n s (shown_number p ok n s es low) numbers b.numbers_long (λ j w h l. b.number_at ok j h w l),
  )

-- ---- a turn of the loop

abbrev pub ShownIn : (ws : List ℕ) (low j : ℕ) (marks : List ℕ) (numbers : List ℤ) → Type 0
ShownIn ws low = ShownBelow (modulus_word ws) (size_word ws) (values_word ws) low (entries_of ws)

module _
    (ws e pivots at : List ℕ)
    (reduced : BoardReduced ws e pivots)
    (by-pivot : RowsByPivot (count_word ws) pivots at)
    (low j : ℕ)
    (marks : List ℕ)
    (numbers more : List ℤ)
    (inside : j < size_word ws)
    (below : ShownIn ws low j marks numbers)
  where
    -- the worked row of j is the unit row of j: 1, and the readings of the values behind it
    pub turn_shown : UnitAt (size_word ws) (values_word ws) (get_or at j 0) j e
        → NumbersPut (j * values_word ws) (values_word ws)
        (λ u. reading (modulus_word ws) low (get_or e (worked_place (size_word ws) (values_word ws) (get_or at j 0) (size_word ws + u)) 0)) numbers more
        → ShownIn ws low (j + 1) (set marks j 1) more
    turn_shown row put =
        shown_more (modulus_word ws) (size_word ws) (values_word ws) low (entries_of ws) j marks numbers 1 _ more inside below put
        (λ ok.
        let shown = shown_at ws reduced.D reduced.inverse ok low j inside (row_unit ws e pivots at reduced by-pivot j row) in (
          shown.0,
          λ w l. shown.1 w l ∙ sym (ap (reading (modulus_word ws) low) (value_number ws e pivots at reduced by-pivot j row.0 w l)),
        ))

    -- it is not: 0, and 0 for each word
    pub turn_hidden : (UnitAt (size_word ws) (values_word ws) (get_or at j 0) j e → ⊥)
        → NumbersPut (j * values_word ws) (values_word ws) (λ u. pos 0) numbers more → ShownIn ws low (j + 1) (set marks j 0) more
    turn_hidden no_row put =
        shown_more (modulus_word ws) (size_word ws) (values_word ws) low (entries_of ws) j marks numbers 0 (λ u. pos 0) more inside below put
        (λ ok.
        hidden_at ws reduced.D reduced.inverse ok low j (λ unit. no_row (unit_row ws e pivots at reduced by-pivot j inside unit)))
