-- Clash beside take. A fresh board that takes the frames of a log in their order answers new to those of J and repeat to the others, as
-- long as they have a common assignment, and so those of J stand; to the first frame that contradicts the earlier ones it answers 9. So
-- the last frame that clash selects is the one that take refuses first.
use mathlib.Core.Path.{◌≡◌, refl, sym, ap, ◌∙◌, subst}
use mathlib.Core.Bool.{true, false}
use mathlib.Core.List.{List, [], ◌∷◌, ◌++◌}
use mathlib.Core.Logic.{◌⊎◌, ⊎_elim}
use Prim.Native.Nat.{ℕ, zero, suc, ◌+◌, ◌*◌, ◌≤◌, ◌<◌}
use native.Mathlib.Nat.{not-suc-le-zero, le_of_suc-le-suc, eq-or-lt_of_le, lt-suc_self, le_step}
use native.Mathlib.Omega.{arith}
use lib.ListN.{length, get_or, drop, length-drop}
use lib.Seq.{length-take-le}
use Rattle.algebra.specs.Choice.{choose}
use Rattle.algebra.specs.Matrix.{Matrix}
use Rattle.algebra.specs.Span.{IsCombination}
use Rattle.algebra.proofs.Alike.{combination_alike}
use Rattle.algebra.proofs.Marks.{by_test}
use Rattle.algebra.proofs.Chosen.{row_depends, row_free}
use Rattle.checks.specs.Prime.{IsModulus}
use Rattle.checks.specs.declared.Refusal.TheVariants.{Conflict}
use Rattle.checks.specs.Told.{refused}
use Rattle.checks.specs.Outcome.{Outcome, outcome}
use Rattle.field.specs.Residue.{reduce, residues}
use Rattle.field.proofs.Lines.{row_inside}
use Rattle.frame.proofs.Round.{Numbers, written_reads_back}
use Rattle.ledger.specs.Ledger.{Entry, no_entry, ledger, Assignment, Meets, MeetsAll, InSpan, multiplier_rows}
use Rattle.ledger.specs.Board.{row_length, layout}
use Rattle.ledger.specs.Steps.{new_told, repeat_told, take_accepted}
use Rattle.ledger.specs.Calls.{laid_out, take_call}
use Rattle.ledger.specs.Proper.{Proper}
use Rattle.ledger.proofs.EntryMore.{each_more}
use Rattle.ledger.proofs.Proper.{empty_proper, append_proper}
use Rattle.ledger.proofs.RankRows.{own_combination, combination_through}
use Rattle.ledger.proofs.RankLedger.{span_more, span_own}
use Rattle.ledger.proofs.LedgerLaws.{take_accepted_lem, take_new, take_repeat, take_conflict}
use Rattle.ledger.proofs.WordsCalls.{take_at_layout}
use Rattle.ledger.proofs.Histories.{open_done}
use Rattle.ledger.proofs.TakenFrames.{met_gives_values, given_values_met}
use Rattle.ledger.proofs.LayoutRows.{entries_at}
use Rattle.clash.specs.Calls.{log_table, log_rows, contradiction}
use Rattle.clash.specs.Parts.{Logged}
use Rattle.clash.specs.Promises.{Outside, IsQuarrel}
use Rattle.clash.specs.Referee.{frame_at, sent_at, standing_at, board_at, TakenTo}
use Rattle.clash.proofs.Frames.{frame_multiplier, frame_value, table_number}
use Rattle.clash.proofs.Clashes.{F, log_pivots, contradiction_found, unmet_outside}
use Rattle.clash.proofs.Selected.{quarrel_contradiction}
use Rattle.clash.proofs.Words.{number_inside}

module _ (p : ℕ) (ok : IsModulus p) (m n s : ℕ) (log : List ℕ) (k : Logged p m n s log) where
  abbrev frame : ℕ → Entry
  frame = frame_at p ok m n s log

  abbrev sent : ℕ → List ℕ
  sent = sent_at p ok m n s log

  abbrev standing : ℕ → List Entry
  standing = standing_at p ok m n s log

  abbrev board : ℕ → List ℕ
  board = board_at p ok m n s log

  abbrev A : Matrix (residues p)
  A = log_table p m n s log

  -- ---- frames of the log

  frame_numbers_lem : (t : ℕ) → t < m → Numbers p n s (frame t).multipliers (frame t).values
  unfolding row_length
  frame_numbers_lem t row =
      record {
        long = long;
        below = λ i l.
            let in_row : i < n = omega (arith, long) in
            rw (frame_multiplier p m n s log t row i in_row) (k.log_below _ (number_inside k t i row (omega arith)));
        values_long = values_long;
        values_below = λ w l.
            let in_words : w < s = omega (arith, values_long) in
            rw (frame_value p m n s log t row w in_words)
            (k.log_below _ (omega (arith, number_inside k t (n + w) row (omega arith))));
      }
    where
      inside : t * (n + s) + (n + s) ≤ length log
      inside = rw k.log_long (row_inside t m (n + s) row)

      long : length (frame t).multipliers ≡ n
      long =
          ap (λ (e : Entry). length e.multipliers) (entries_at n s m log t row)
          ∙ length-take-le n (drop (t * (n + s)) log) (omega (arith, inside, length-drop (t * (n + s)) log))

      values_long : length (frame t).values ≡ s
      values_long =
          ap (λ (e : Entry). length e.values) (entries_at n s m log t row)
          ∙ length-take-le s (drop n (drop (t * (n + s)) log))
          (omega (arith, inside, length-drop (t * (n + s)) log, length-drop n (drop (t * (n + s)) log)))

  -- its multipliers are row t of the table
  frame_row : (t : ℕ) → t < m → (j : ℕ) → j < n → reduce p (get_or (frame t).multipliers j 0) ≡ A t j
  frame_row t row j l = ap (reduce p) (frame_multiplier p m n s log t row j l) ∙ sym (table_number p m n s log t row j l)

  -- ---- the frames of J among the first t

  standing_new : (t : ℕ) → log_rows p ok m n s log t ≡ true → standing (suc t) ≡ standing t ++ (frame t ∷ [])
  unfolding standing_at
  standing_new t e = ap (λ b. choose b (standing t ++ (frame t ∷ [])) (standing t)) e

  standing_kept : (t : ℕ) → log_rows p ok m n s log t ≡ false → standing (suc t) ≡ standing t
  unfolding standing_at
  standing_kept t e = ap (λ b. choose b (standing t ++ (frame t ∷ [])) (standing t)) e

  -- what holds of the first t frames holds of them
  standing_each : (Q : Entry → Type 0) (t : ℕ) → ((u : ℕ) → u < t → Q (frame u))
      → (i : ℕ) → i < length (standing t) → Q (get_or (standing t) i no_entry)
  unfolding standing_at
  standing_each Q zero h = λ i l. absurd (not-suc-le-zero l)
  standing_each Q (suc t) h =
      by_test (log_rows p ok m n s log t)
      (λ e.
      subst (λ es. (i : ℕ) → i < length es → Q (get_or es i no_entry)) (sym (standing_new t e))
      (each_more (standing t) (frame t) Q (standing_each Q t (λ u l. h u (le_step l))) (h t (lt-suc_self t))))
      (λ e.
      subst (λ es. (i : ℕ) → i < length es → Q (get_or es i no_entry)) (sym (standing_kept t e)) (standing_each Q t (λ u l. h u (le_step l))))

  -- a frame that they combine to is a combination of the frames before it
  spanned_depends : (t : ℕ) → t < m → InSpan p n (standing t) (frame t).multipliers → Outside p m n s log t
  unfolding multiplier_rows
  spanned_depends t row c =
      combination_alike (residues p) A A (λ i j h l. refl) _ (A t) (frame_row t row)
      (combination_through (residues p) (F p ok m n s log).ring (length (standing t)) t n (multiplier_rows p (standing t)) A
      (standing_each (λ e. IsCombination (residues p) t n A (λ j. reduce p (get_or e.multipliers j 0))) t
      (λ u l.
      combination_alike (residues p) A A (λ i j h b. refl) (A u) _ (λ j b. sym (frame_row u (omega arith) j b))
      (own_combination (residues p) (F p ok m n s log).ring A u l)))
      _ c)

  -- and where all frames before it are combinations of them, it is one of them
  depends_spanned : (t : ℕ) → t < m → ((u : ℕ) → u < t → InSpan p n (standing t) (frame u).multipliers)
      → Outside p m n s log t → InSpan p n (standing t) (frame t).multipliers
  depends_spanned t row each c =
      combination_alike (residues p) _ _ (λ i j h l. refl) (A t) _ (λ j l. sym (frame_row t row j l))
      (combination_through (residues p) (F p ok m n s log).ring t (length (standing t)) n A (multiplier_rows p (standing t))
      (λ u l. combination_alike (residues p) _ _ (λ i j h b. refl) _ (A u) (frame_row u (omega arith)) (each u l)) _ c)

  all_spanned : (t : ℕ) → t ≤ m → (u : ℕ) → u < t → InSpan p n (standing t) (frame u).multipliers
  all_spanned zero most u l = absurd (not-suc-le-zero l)
  all_spanned (suc t) most u l = go (all_spanned t (omega arith)) (eq-or-lt_of_le (le_of_suc-le-suc l))
    where
      Spanned : List Entry → Type 0
      Spanned es = InSpan p n es (frame u).multipliers

      go : ((v : ℕ) → v < t → InSpan p n (standing t) (frame v).multipliers) → (u ≡ t) ⊎ (u < t) → Spanned (standing (suc t))
      go before c =
          by_test (log_rows p ok m n s log t)
          (λ e.
          subst Spanned (sym (standing_new t e))
          (⊎_elim (λ q. rw q (span_own p ok n s (standing t) (frame t).multipliers (frame t).values))
          (λ b. span_more p ok n s (standing t) (frame t ∷ []) (frame u).multipliers (before u b)) c))
          (λ e.
          subst Spanned (sym (standing_kept t e))
          (⊎_elim (λ q. rw q (depends_spanned t most before (row_depends (residues p) (F p ok m n s log).ring (log_pivots p ok m n s log) t most e)))
          (λ b. before u b) c))

  -- so a frame is no combination of them exactly if it is in J
  new_free : (t : ℕ) → t < m → log_rows p ok m n s log t ≡ true → InSpan p n (standing t) (frame t).multipliers → ⊥
  new_free t row e c =
      row_free (residues p) (F p ok m n s log).ring (F p ok m n s log).one_not_zero (log_pivots p ok m n s log) t e (spanned_depends t row c)

  kept_spanned : (t : ℕ) → t < m → log_rows p ok m n s log t ≡ false → InSpan p n (standing t) (frame t).multipliers
  kept_spanned t row e =
      depends_spanned t row (all_spanned t (omega arith)) (row_depends (residues p) (F p ok m n s log).ring (log_pivots p ok m n s log) t row e)

  standing_proper : (t : ℕ) → t ≤ m → Proper p n s (standing t)
  unfolding standing_at
  standing_proper zero most = empty_proper p n s
  standing_proper (suc t) most =
      by_test (log_rows p ok m n s log t)
      (λ e.
      subst (Proper p n s) (sym (standing_new t e))
      (append_proper p n s (standing t) (standing_proper t (omega arith)) ok (frame t).multipliers (frame t).values (frame_numbers_lem t most) (new_free t most e)))
      (λ e. subst (Proper p n s) (sym (standing_kept t e)) (standing_proper t (omega arith)))

  -- ---- what take answers

  module _ (t : ℕ) (row : t < m) (mix : List ℕ) (mix_long : length mix ≡ n) where
    -- the frame is read, and taken by what its multipliers and values are
    taken : take_call (board t) (sent t) mix ≡ laid_out p n s (take_accepted p ok n s (ledger (standing t)) (frame t).multipliers (frame t).values mix)
    taken =
        take_at_layout p n s (standing t) ok k.n_size k.s_count (standing_proper t (omega arith)) (sent t) mix
        ∙ ap (laid_out p n s)
        (take_accepted_lem p ok n s (standing t) (sent t) mix (frame t).multipliers (frame t).values mix_long
        (written_reads_back p n s (frame t).multipliers (frame t).values ok.in_range (frame_numbers_lem t row)))

    -- new, where it is in J
    taken_new : log_rows p ok m n s log t ≡ true → take_call (board t) (sent t) mix ≡ outcome (new_told (suc (length (standing t)))) (board (suc t), mix)
    taken_new e =
        taken
        ∙ ap (laid_out p n s) (take_new p ok n s (standing t) (frame t).multipliers (frame t).values mix (new_free t row e))
        ∙ ap (λ es. outcome (new_told (suc (length (standing t)))) (layout p n s es, mix)) (sym (standing_new t e))

    -- repeat, where it is not and some assignment meets it and the frames before it
    module _ (x : Assignment p) (before : (u : ℕ) → u < t → Meets p n s (frame u) x) (outside : log_rows p ok m n s log t ≡ false) where
      standing_met : MeetsAll p n s (standing t) x
      standing_met = standing_each (λ e. Meets p n s e x) t before

      in_span : InSpan p n (standing t) (frame t).multipliers
      in_span = kept_spanned t row outside

      taken_repeat : Meets p n s (frame t) x
          → ((take_call (board t) (sent t) mix).told ≡ repeat_told (length (standing t))) × ((take_call (board t) (sent t) mix).lent.0 ≡ board (suc t))
      taken_repeat met =
          let e =
          taken
          ∙ ap (laid_out p n s)
          (take_repeat p ok n s (standing t) (standing_proper t (omega arith)) (frame t).multipliers (frame t).values mix in_span
          (met_gives_values p ok n s (standing t) (frame t).multipliers (frame t).values x standing_met met in_span)) in (
            ap (λ (o : Outcome (List ℕ × List ℕ)). o.told) e,
            ap (λ (o : Outcome (List ℕ × List ℕ)). o.lent.0) e ∙ ap (layout p n s) (sym (standing_kept t outside)),
          )

      -- 9, where it does not meet the frame
      taken_conflict : (Meets p n s (frame t) x → ⊥) → (take_call (board t) (sent t) mix).told ≡ refused Conflict
      taken_conflict unmet =
          ap (λ (o : Outcome (List ℕ × List ℕ)). o.told)
          (taken
          ∙ ap (laid_out p n s)
          (take_conflict p ok n s (standing t) (standing_proper t (omega arith)) (frame t).multipliers (frame t).values mix in_span
          (λ g. unmet (given_values_met p ok n s (standing t) (frame t).multipliers (frame t).values x standing_met in_span g))))

  pub taken_to : {C : ℕ → Type 0} (q : IsQuarrel p m n s log C) → TakenTo p ok m n s log q.y
  unfolding standing_at
  taken_to q =
      record {
        opened = λ ws long. ap (λ (o : Outcome (List ℕ)). o.lent) (open_done p n s ws ok k.n_size k.s_count long);
        earlier = λ t l mix long.
            by_test (log_rows p ok m n s log t)
            (λ e.
            let o = taken_new t (omega (arith, q.y_row)) mix long e in (
              ap (λ (r : Outcome (List ℕ × List ℕ)). r.told.number) o ∙ sym (ap (λ b. choose b 0 100) e),
              ap (λ (r : Outcome (List ℕ × List ℕ)). r.lent.0) o,
            ))
            (λ e.
            let (told, words) =
            taken_repeat t (omega (arith, q.y_row)) mix long x (λ u b. met u (omega arith)) e (met t l) in
            (ap (λ r. r.number) told ∙ sym (ap (λ b. choose b 0 100) e), words));
        last = λ mix long. taken_conflict q.y q.y_row mix long x met outside unmet;
      }
    where
      x : Assignment p
      x = q.earlier_agree.0

      met : (i : ℕ) → i < q.y → Meets p n s (frame i) x
      met = q.earlier_agree.1

      unmet : Meets p n s (frame q.y) x → ⊥
      unmet h = q.contradicts (x, λ i l. ⊎_elim (λ e. rw e h) (met i) (eq-or-lt_of_le (le_of_suc-le-suc l)))

      same : q.y ≡ contradiction p ok m n s log
      same = quarrel_contradiction p ok m n s log q

      outside : log_rows p ok m n s log q.y ≡ false
      outside =
          let (w, (l, other)) = (contradiction_found p ok m n s log).differs (omega (arith, same, q.y_row)) in
          ap (log_rows p ok m n s log) same ∙ unmet_outside p ok m n s log (contradiction p ok m n s log) w (omega (arith, same, q.y_row)) l other
