-- The count of frames held is the rank of the ledger's rows; and in a history without withdrawals it is the rank of the
-- multipliers of all frames answered new or repeat, in whatever order: the ledger's rows are among them, and each of them is a
-- combination of the ledger's rows, so that both span the same.
use mathlib.Core.Path.{◌≡◌, refl, sym, ap, ◌∙◌, subst, subst₂, fun_ext}
use mathlib.Core.Logic.{◌⊎◌, inl, inr, ⊎_elim, ∥∥₁_elim}
use mathlib.Core.List.Permᴰ
use mathlib.Core.List.{List, [], ◌∷◌, ◌++◌, Perm, Permᴰ}
use mathlib.Core.List.Memᴰ
use mathlib.Core.List.{Memᴰ}
use Prim.Native.Nat.{ℕ, zero, suc, ◌<◌}
use native.Mathlib.Nat.{ℕ_set, not-suc-le-zero, le_of_suc-le-suc}
use native.Mathlib.Omega.{arith}
use lib.ListN.{length, get_or, length-append, length-map, get_or-map, get_or-append}
use borrow.Author.Tests.{ne_eqb}
use Rattle.algebra.specs.Ring.{IsCommutativeRing, IsField}
use Rattle.algebra.specs.Span.{IsCombination, Independent}
use Rattle.algebra.proofs.Alike.{combination_alike}
use Rattle.algebra.proofs.Marked.{same_span_rank, independent_rank}
use Rattle.checks.specs.Told.{refused}
use Rattle.checks.specs.declared.Refusal.{Refusal}
use Rattle.checks.specs.declared.Refusal.TheVariants.{Conflict}
use Rattle.checks.specs.Refusal.{refusal_number}
use Rattle.checks.specs.Outcome.{Outcome}
use Rattle.checks.proofs.Refusals.{refusal_number_lem}
use Rattle.checks.specs.Prime.{IsModulus}
use Rattle.field.specs.Residue.{reduce, residues}
use Rattle.field.proofs.Field.{residues_field}
use Rattle.ledger.specs.Ledger.{Entry, entry, no_entry, Ledger, ledger, InSpan, multiplier_rows}
use Rattle.ledger.specs.Steps.{mix_words, ledger_take}
use Rattle.ledger.specs.History.{Call, reply, ledger_step, run, ledger_run}
use Rattle.ledger.specs.Heard.{NoWithdrawal, multipliers_of, heard_in, heard, ledger_rows, residue_rows, rows_rank}
use Rattle.ledger.specs.Proper.{Proper}
use Rattle.ledger.proofs.EntryMore.{length_more, entry_last}
use Rattle.ledger.proofs.Proper.{empty_proper}
use Rattle.ledger.specs.Decide.{combined?}
use Rattle.ledger.proofs.RankRows.{own_combination, combination_more}
use Rattle.ledger.proofs.LedgerSteps.{Took, new, repeat, conflict, refusal, took}
use Rattle.ledger.proofs.LedgerRuns.{only_appends, run_proper}

-- ---- places of members

getD_member : {A : Type 0} (d : A) (l : List A) (i : ℕ) → i < length l → Memᴰ (get_or l i d) l
getD_member d [] i h = absurd (not-suc-le-zero h)
getD_member d (x ∷ l) zero h = Memᴰ.head refl
getD_member d (x ∷ l) (suc i) h = Memᴰ.tail (getD_member d l i (le_of_suc-le-suc h))

member_place : {A : Type 0} (d : A) (l : List A) (a : A) → Memᴰ a l → (i : ℕ) × (i < length l) × (get_or l i d ≡ a)
member_place d [] a m = absurd (Memᴰ.not-nil m)
member_place d (x ∷ l) a m =
    ⊎_elim (λ e. (0, omega arith, sym e)) (λ k. let (i, h, e) = member_place d l a k in (suc i, omega arith, e))
    (Memᴰ.cases_cons m)

-- a permutation has the same members
perm_member : {A : Type 0} {a : A} {l₁ l₂ : List A} → Permᴰ l₁ l₂ → Memᴰ a l₁ → Memᴰ a l₂
perm_member Permᴰ.nil m = m
perm_member (Permᴰ.cons e d) m =
    ⊎_elim (λ f. Memᴰ.head (f ∙ e)) (λ k. Memᴰ.tail (perm_member d k)) (Memᴰ.cases_cons m)
perm_member (Permᴰ.swap e f) m =
    ⊎_elim (λ g. Memᴰ.tail (Memᴰ.head (g ∙ e)))
    (λ k. ⊎_elim (λ g. Memᴰ.head (g ∙ f)) (λ r. Memᴰ.tail (Memᴰ.tail r)) (Memᴰ.cases_cons k))
    (Memᴰ.cases_cons m)
perm_member (Permᴰ.trans d e) m = perm_member e (perm_member d m)

-- ---- the rank of rows

-- xs is a combination of the rows
abbrev pub Spanned : (p n : ℕ) → List (List ℕ) → List ℕ → Type 0
Spanned p n yss xs = IsCombination (residues p) (length yss) n (residue_rows p yss) (λ j. reduce p (get_or xs j 0))

module _ (p : ℕ) (ok : IsModulus p) (n s : ℕ) where
  abbrev F : IsField (residues p)
  F = residues_field p ok.prime

  abbrev L : IsCommutativeRing (residues p)
  L = F.ring

  -- rows that span the same have the same rank
  pub same_rank : (xss yss : List (List ℕ)) → ((xs : List ℕ) → Memᴰ xs xss → Spanned p n yss xs)
      → ((xs : List ℕ) → Memᴰ xs yss → Spanned p n xss xs) → rows_rank p ok n xss ≡ rows_rank p ok n yss
  unfolding rows_rank residue_rows
  same_rank xss yss f g =
      same_span_rank (residues p) F (combined? p ok) (length xss) (length yss) n (residue_rows p xss) (residue_rows p yss)
      (λ y l. f (get_or xss y []) (getD_member [] xss y l)) (λ y l. g (get_or yss y []) (getD_member [] yss y l))

  -- a row is spanned by rows among which it stands
  member_spanned : (yss : List (List ℕ)) (xs : List ℕ) → Memᴰ xs yss → Spanned p n yss xs
  unfolding residue_rows
  member_spanned yss xs m =
      let (i, h, e) = member_place [] yss xs m in
      subst (Spanned p n yss) e (own_combination (residues p) L (residue_rows p yss) i h)

  -- ---- the ledger's rows

  ledger_rows_lem : (es : List Entry) → residue_rows p (ledger_rows es) ≡ multiplier_rows p es
  unfolding residue_rows multiplier_rows
  ledger_rows_lem es =
      fun_ext (λ i. fun_ext (λ j. ap (λ xs. reduce p (get_or xs j 0)) (get_or-map (λ (e : Entry). e.multipliers) es i no_entry)))

  ledger_length : (es : List Entry) → length (ledger_rows es) ≡ length es
  ledger_length es = length-map es (λ (e : Entry). e.multipliers)

  span_spanned : (es : List Entry) (xs : List ℕ) → InSpan p n es xs → Spanned p n (ledger_rows es) xs
  span_spanned es xs =
      subst₂ (λ k X. IsCombination (residues p) k n X (λ j. reduce p (get_or xs j 0))) (sym (ledger_length es)) (sym (ledger_rows_lem es))

  -- "The count of frames held is the rank of the ledger's rows"
  pub ledger_rank : (es : List Entry) → Proper p n s es → rows_rank p ok n (ledger_rows es) ≡ length es
  unfolding rows_rank
  ledger_rank es proper =
      independent_rank (residues p) F (combined? p ok) (length (ledger_rows es)) n (residue_rows p (ledger_rows es))
      (subst₂ (λ k X. Independent (residues p) k n X) (sym (ledger_length es)) (sym (ledger_rows_lem es)) proper.independent)
      ∙ ledger_length es

  -- ---- what was heard

  -- what is a combination of the entries is one with more behind them
  pub span_more : (es ds : List Entry) (xs : List ℕ) → InSpan p n es xs → InSpan p n (es ++ ds) xs
  unfolding multiplier_rows
  span_more es ds xs c =
      combination_more (residues p) L (multiplier_rows p (es ++ ds)) (λ j. reduce p (get_or xs j 0)) (omega (arith, length-append es ds))
      (combination_alike (residues p) (multiplier_rows p es) (multiplier_rows p (es ++ ds))
      (λ i j h l. sym (ap (λ (e : Entry). reduce p (get_or e.multipliers j 0)) (get_or-append es ds no_entry i h)))
      (λ j. reduce p (get_or xs j 0)) (λ j. reduce p (get_or xs j 0)) (λ j l. refl) c)

  -- the multipliers of an entry are a combination of the rows with it
  pub span_own : (es : List Entry) (xs vs : List ℕ) → InSpan p n (es ++ (entry xs vs ∷ [])) xs
  unfolding multiplier_rows
  span_own es xs vs =
      let rows = multiplier_rows p (es ++ (entry xs vs ∷ [])) in
      combination_alike (residues p) rows rows (λ i j h l. refl) (rows (length es)) (λ j. reduce p (get_or xs j 0))
      (λ j l. ap (λ (e : Entry). reduce p (get_or e.multipliers j 0)) (entry_last es (entry xs vs)))
      (own_combination (residues p) L rows (length es) (omega (arith, length_more es (entry xs vs))))

  -- a refused take is not heard
  refused_unheard : (frame mix : List ℕ) (k : Refusal) (ws xs : List ℕ)
      → Memᴰ xs (heard_in p n s (Call.take frame mix) (reply (refused k) ws [])) → ⊥
  unfolding heard_in
  refused_unheard frame mix k ws xs m =
      let h = refusal_number_lem k in
      let none : heard_in p n s (Call.take frame mix) (reply (refused k) ws []) ≡ [] =
      rw (ne_eqb (refusal_number k) 0 (λ e. omega arith), ne_eqb (refusal_number k) 100 (λ e. omega arith)) in
      Memᴰ.not-nil (subst (Memᴰ xs) none m)

  -- what a take heard is a combination of the rows after it
  took_heard : (l : Ledger) (frame mix : List ℕ) {r : Outcome (Ledger × List ℕ)} → Took p ok n s l frame mix r → (xs : List ℕ)
      → Memᴰ xs (heard_in p n s (Call.take frame mix) (reply r.told r.lent.1 [])) → InSpan p n r.lent.0.entries xs
  unfolding heard_in multipliers_of
  took_heard l frame mix (new ys vs e f) xs m =
      subst (InSpan p n (l.entries ++ (entry ys vs ∷ [])))
      (sym (Memᴰ.eq_of_singleton (subst (λ g. Memᴰ xs (multipliers_of g)) e m)))
      (span_own l.entries ys vs)
  took_heard l frame mix (repeat ys vs e c g) xs m =
      subst (InSpan p n l.entries) (sym (Memᴰ.eq_of_singleton (subst (λ g. Memᴰ xs (multipliers_of g)) e m))) c
  took_heard l frame mix (conflict ys vs e c g) xs m = absurd (refused_unheard frame mix Conflict (mix_words p n l.entries c.0) xs m)
  took_heard l frame mix (refusal k h) xs m = absurd (refused_unheard frame mix k mix xs m)

  -- the entries after a take stood before it or were heard
  took_stands : (l : Ledger) (frame mix : List ℕ) {r : Outcome (Ledger × List ℕ)} → Took p ok n s l frame mix r → (e : Entry)
      → Memᴰ e r.lent.0.entries
      → Memᴰ e l.entries ⊎ Memᴰ e.multipliers (heard_in p n s (Call.take frame mix) (reply r.told r.lent.1 []))
  unfolding heard_in multipliers_of
  took_stands l frame mix (new ys vs e f) d m =
      ⊎_elim inl
      (λ k. inr
      (subst (λ g. Memᴰ d.multipliers (multipliers_of g)) (sym e)
      (Memᴰ.head (ap (λ (a : Entry). a.multipliers) (Memᴰ.eq_of_singleton k)))))
      (Memᴰ.append_cases l.entries m)
  took_stands l frame mix (repeat ys vs e c g) d m = inl m
  took_stands l frame mix (conflict ys vs e c g) d m = inl m
  took_stands l frame mix (refusal k h) d m = inl m

  -- what was heard is a combination of the rows at the end
  pub run_heard : (l : Ledger) (cs : List Call) → NoWithdrawal cs → (xs : List ℕ)
      → Memᴰ xs (heard p n s cs (ledger_run p ok n s l cs).replies) → InSpan p n (ledger_run p ok n s l cs).state.entries xs
  unfolding heard heard_in run ledger_step
  run_heard l [] h xs m = absurd (Memᴰ.not-nil m)
  run_heard l (Call.take frame mix ∷ cs) h xs m =
      let r = ledger_take p ok n s l frame mix in
      ⊎_elim
      (λ k.
      let (ds, e) = only_appends p ok n s r.lent.0 cs h in
      subst (λ es. InSpan p n es xs) (sym e)
      (span_more r.lent.0.entries ds xs (took_heard l frame mix (took p ok n s l frame mix) xs k)))
      (run_heard r.lent.0 cs h xs)
      (Memᴰ.append_cases (heard_in p n s (Call.take frame mix) (reply r.told r.lent.1 [])) m)
  run_heard l (Call.withdraw t ∷ cs) h xs m = absurd h
  run_heard l (Call.show low marks numbers ∷ cs) h xs m = run_heard l cs h xs m

  -- the entries at the end stood at the start or were heard
  run_stands : (l : Ledger) (cs : List Call) → NoWithdrawal cs → (e : Entry) → Memᴰ e (ledger_run p ok n s l cs).state.entries
      → Memᴰ e l.entries ⊎ Memᴰ e.multipliers (heard p n s cs (ledger_run p ok n s l cs).replies)
  unfolding heard heard_in run ledger_step
  run_stands l [] h e m = inl m
  run_stands l (Call.take frame mix ∷ cs) h e m =
      let r = ledger_take p ok n s l frame mix in
      let now = heard_in p n s (Call.take frame mix) (reply r.told r.lent.1 []) in
      ⊎_elim (λ k. ⊎_elim inl (λ i. inr (Memᴰ.append_left _ i)) (took_stands l frame mix (took p ok n s l frame mix) e k))
      (λ k. inr (Memᴰ.append_right now k)) (run_stands r.lent.0 cs h e m)
  run_stands l (Call.withdraw t ∷ cs) h e m = absurd h
  run_stands l (Call.show low marks numbers ∷ cs) h e m = run_stands l cs h e m

  -- 01: "in a history without withdrawals that is also the rank of the multipliers of all frames answered new or repeat, in
  -- whatever order they came": hs is any order of them
  pub heard_rank : (cs : List Call) → NoWithdrawal cs → (hs : List (List ℕ))
      → Perm (heard p n s cs (ledger_run p ok n s (ledger []) cs).replies) hs
      → rows_rank p ok n hs ≡ length (ledger_run p ok n s (ledger []) cs).state.entries
  heard_rank cs only hs order =
      ∥∥₁_elim order (ℕ_set (rows_rank p ok n hs) (length held))
      (λ d. same_rank hs (ledger_rows held) (among d) (stands d) ∙ ledger_rank held (run_proper p ok n s (ledger []) (empty_proper p n s) cs))
    where
      held : List Entry
      held = (ledger_run p ok n s (ledger []) cs).state.entries

      all : List (List ℕ)
      all = heard p n s cs (ledger_run p ok n s (ledger []) cs).replies

      among : Permᴰ all hs → (xs : List ℕ) → Memᴰ xs hs → Spanned p n (ledger_rows held) xs
      among d xs m = span_spanned held xs (run_heard (ledger []) cs only xs (perm_member (Permᴰ.symm d) m))

      stands : Permᴰ all hs → (xs : List ℕ) → Memᴰ xs (ledger_rows held) → Spanned p n hs xs
      stands d xs m =
          let (e, k, q) = Memᴰ.of_map (λ (e : Entry). e.multipliers) held m in
          ⊎_elim (λ l. absurd (Memᴰ.not-nil l)) (λ l. member_spanned hs xs (Memᴰ.cast (sym q) (perm_member d l)))
          (run_stands (ledger []) cs only e k)
