-- What `take_row` leaves is the ledger's step: where the row is no combination of those that stand, the board with it appended;
-- else the combination with zeros is the mix, and the same combination of the values, word by word, is what `dot` gives.
use mathlib.Core.Path.{◌≡◌, refl, sym, ap, ap₂, ◌∙◌}
use mathlib.Core.Bool.{true, false}
use mathlib.Core.List.{List, [], ◌∷◌, ◌++◌}
use Prim.Native.Nat.{ℕ, suc, ◌+◌, ◌-◌, ◌≤◌, ◌<◌}
use native.Mathlib.Numerals.{add-one}
use native.Mathlib.Omega.{arith}
use lib.ListN.{length, get_or, take, drop, replicate, length-drop, length-replicate, get_or-replicate}
use lib.Seq.{length-take-le, take-add, get_or-take, get_or-drop, ext_get_or}
use Rattle.algebra.specs.Matrix.{sum}
use Rattle.algebra.proofs.Sums.{sum_same}
use Rattle.words.specs.Words.{Below}
use Rattle.words.proofs.Zeros.{zeros_at}
use Rattle.checks.specs.Outcome.{outcome}
use Rattle.checks.specs.Told.{Told, refused}
use Rattle.checks.specs.declared.Refusal.TheVariants.{Conflict}
use Rattle.field.specs.Residue.{Residue, reduce, residues, ◌⊗◌}
use Rattle.field.specs.View.{line}
use Rattle.field.specs.Written.{numbers}
use Rattle.field.proofs.Residues.{reduce_of_value, reduce_small}
use Rattle.field.proofs.Written.{is_tabulate}
use Rattle.ledger.specs.Ledger.{InSpan, value_table, entry}
use Rattle.ledger.specs.Board.{IsBoard, row_start, modulus_word, size_word, count_word, values_word, entries_of, layout}
use Rattle.ledger.specs.Changes.{Appended}
use Rattle.ledger.specs.Calls.{laid_out}
use Rattle.ledger.specs.Steps.{new_told, repeat_told, mix_words}
use Rattle.ledger.proofs.LayoutPlaces.{row_inside}
use Rattle.ledger.proofs.Parse.{words_count, board_proper, board_layout, board_wide}
use Rattle.ledger.proofs.EntryMore.{length_more}
use Rattle.ledger.proofs.Proper.{append_proper}
use Rattle.ledger.proofs.LayoutChanges.{appended_layout}
use Rattle.ledger.proofs.LedgerLaws.{take_new, take_repeat, take_conflict}
use Rattle.board_solve.specs.Combination.{residues_of, RowFor, Combination}
use Rattle.board_solve.specs.Records.{values_of}
use Rattle.board_solve.specs.Taking.{combined_value, CombinationGives, TakesRow}
use Rattle.board_solve.proofs.Standing.{values_same, board_sizes}
use Rattle.board_solve.proofs.Candidates.{line_residues}

-- the first n numbers of a list: k of them below p, the others 0
front_numbers : (p n k : ℕ) (c : List ℕ) → k ≤ n → n ≤ length c → ((t : ℕ) → t < k → get_or c t 0 < p)
    → ((t : ℕ) → k ≤ t → get_or c t 0 ≡ 0) → take n c ≡ numbers k (residues_of p c) ++ replicate (n - k) 0
front_numbers p n k c h l below zero_at =
    let e : n ≡ k + (n - k) = omega arith in
    ap (λ m. take m c) e ∙ take-add k (n - k) c ∙ ap₂ (λ xs ys. xs ++ ys) front behind
  where
    front : take k c ≡ numbers k (residues_of p c)
    front =
        is_tabulate k _ (take k c) (length-take-le k c (omega arith))
        (λ t b. get_or-take k c t 0 b ∙ sym (reduce_small p (get_or c t 0) (below t b)))

    long : length (take (n - k) (drop k c)) ≡ n - k
    long = length-take-le (n - k) (drop k c) (omega (arith, length-drop k c))

    behind : take (n - k) (drop k c) ≡ replicate (n - k) 0
    behind =
        ext_get_or 0 (take (n - k) (drop k c)) (replicate (n - k) 0) (long ∙ sym (length-replicate (n - k) 0))
        (λ t b.
        let inside : t < n - k = rw long at b in
        get_or-take (n - k) (drop k c) t 0 inside ∙ get_or-drop k c t 0 ∙ zero_at (k + t) (omega arith)
        ∙ sym (get_or-replicate (n - k) t 0 0 inside))

module _ (ws f : List ℕ) (b : IsBoard ws) (row : RowFor ws f) where
  -- ---- f is no combination of the rows

  module _ (c : List ℕ) (C : Combination ws f c false) where
    free : InSpan (modulus_word ws) (size_word ws) (entries_of ws) f → ⊥
    free = C.differs refl

    -- then there is room for one row more: the rows with f are independent
    pub new_room : count_word ws < size_word ws
    new_room =
        let more =
        append_proper (modulus_word ws) (size_word ws) (values_word ws) (entries_of ws) (board_proper ws b) b.prime f (replicate (values_word ws) 0)
        (record {
          long = row.long;
          below = λ i h. row.below i (rw row.long at h);
          values_long = length-replicate (values_word ws) 0;
          values_below = λ i h. rw (zeros_at (values_word ws) i) (board_sizes ws b).0;
        }) free in
        omega (arith, more.fits, length_more (entries_of ws) (entry f (replicate (values_word ws) 0)), words_count ws)

    pub row_fits : row_start (size_word ws) (values_word ws) (suc (count_word ws)) ≤ length ws
    row_fits = rw b.long (row_inside (size_word ws) (values_word ws) (suc (count_word ws)) new_room)

    -- and the board with the row appended is what the ledger's step leaves
    pub new_outcome : (v mix after : List ℕ) → length v ≡ values_word ws → Appended (size_word ws) (values_word ws) (count_word ws) f v ws after
        → TakesRow ws f v mix (outcome (new_told (count_word ws + 1)) (after, mix))
    new_outcome v mix after long a ok =
        ap₂ (λ m xs. outcome (new_told m) (xs, mix)) (add-one (count_word ws) ∙ ap suc (sym (words_count ws))) appended
        ∙ sym (ap (laid_out (modulus_word ws) (size_word ws) (values_word ws)) (take_new (modulus_word ws) ok (size_word ws) (values_word ws) (entries_of ws) f v mix free))
      where
        appended : after ≡ layout (modulus_word ws) (size_word ws) (values_word ws) (entries_of ws ++ (entry f v ∷ []))
        appended =
            appended_layout (modulus_word ws) (size_word ws) (values_word ws) (entries_of ws) f v after (board_wide ws b)
            (rw (words_count ws) new_room) (row.long, long)
            (rw (words_count ws, board_layout ws b) a)

  -- ---- f is a combination of the rows

  module _ (c : List ℕ) (C : Combination ws f c true) where
    combination : InSpan (modulus_word ws) (size_word ws) (entries_of ws) f
    combination = (residues_of (modulus_word ws) c, C.combines refl)

    -- its multipliers with zeros behind are the mix
    pub mix_words_lem : take (size_word ws) c ≡ mix_words (modulus_word ws) (size_word ws) (entries_of ws) (residues_of (modulus_word ws) c)
    unfolding mix_words
    mix_words_lem =
        rw (words_count ws)
        (front_numbers (modulus_word ws) (size_word ws) (count_word ws) c b.count
        (omega (arith, C.long, (board_sizes ws b).1)) C.below C.zeros)

    -- the combination of the values of word w, as `dot` adds it up, is the ledger's
    pub added_values : (w : ℕ) → w < values_word ws
        → combined_value ws c w
        ≡ sum (residues (modulus_word ws)) (length (entries_of ws))
        (λ t. residues_of (modulus_word ws) c t ⊗ value_table (modulus_word ws) (entries_of ws) t w)
    added_values w l =
        ap (λ m. sum (residues (modulus_word ws)) m (λ t. line (modulus_word ws) (take (count_word ws) c) 0 1 t ⊗ values_of ws w t)) long
        ∙ sum_same (residues (modulus_word ws)) (length (entries_of ws)) _ _
        (λ t h.
        let inside : t < count_word ws = omega (arith, words_count ws) in
        ap₂ ◌⊗◌
        (line_residues (modulus_word ws) (take (count_word ws) c) t ∙ ap (reduce (modulus_word ws)) (get_or-take (count_word ws) c t 0 inside))
        (sym (values_same ws t w inside l)))
      where
        long : length (take (count_word ws) c) ≡ length (entries_of ws)
        long = length-take-le (count_word ws) c (omega (arith, C.long, (board_sizes ws b).2)) ∙ sym (words_count ws)

    module _ (v mix after : List ℕ) (written : after ≡ take (size_word ws) c) where
      -- the board stays, and the mix is written
      left_as : (told : Told)
          → outcome {M = List ℕ × List ℕ} told (ws, after)
          ≡ outcome told (
            layout (modulus_word ws) (size_word ws) (values_word ws) (entries_of ws),
            mix_words (modulus_word ws) (size_word ws) (entries_of ws) (residues_of (modulus_word ws) c),
          )
      left_as told = ap₂ (λ xs ys. outcome {M = List ℕ × List ℕ} told (xs, ys)) (sym (board_layout ws b)) (written ∙ mix_words_lem)

      -- where the values give v too, in every word, the ledger's step is a repeat
      pub repeat_outcome : CombinationGives ws c v → TakesRow ws f v mix (outcome (repeat_told (count_word ws)) (ws, after))
      unfolding combination
      repeat_outcome same ok =
          ap (λ m. outcome (repeat_told m) (ws, after)) (sym (words_count ws))
          ∙ left_as (repeat_told (length (entries_of ws)))
          ∙ sym
          (ap (laid_out (modulus_word ws) (size_word ws) (values_word ws))
          (take_repeat (modulus_word ws) ok (size_word ws) (values_word ws) (entries_of ws) (board_proper ws b) f v mix combination
          (λ w l. sym (added_values w l) ∙ sym (reduce_of_value (combined_value ws c w) (sym (same w l))))))

      -- otherwise it is refused with 9
      pub conflict_outcome : length v ≡ values_word ws → Below (modulus_word ws) v → (CombinationGives ws c v → ⊥)
          → TakesRow ws f v mix (outcome (refused Conflict) (ws, after))
      unfolding combination
      conflict_outcome long small other ok =
          left_as (refused Conflict)
          ∙ sym
          (ap (laid_out (modulus_word ws) (size_word ws) (values_word ws))
          (take_conflict (modulus_word ws) ok (size_word ws) (values_word ws) (entries_of ws) (board_proper ws b) f v mix combination
          (λ q. other
          (λ w l.
          ap (λ (a : Residue (modulus_word ws)). a.value) (added_values w l ∙ q w l)
          ∙ reduce_small (modulus_word ws) (get_or v w 0) (small w (rw long l))))))
