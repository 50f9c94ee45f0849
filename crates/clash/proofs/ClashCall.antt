-- What document 02, #109, promises of clash is kept by `clash_call` itself: no mark exactly if the whole log has a common assignment, and
-- else the frames of the first clash; and no other choice of the first frame contradicting the earlier ones and earlier ones of J clashes
-- with none to spare.
use mathlib.Core.Path.{◌≡◌, refl, sym, ap, ◌∙◌, subst}
use mathlib.Core.Bool.{Bool, true, false}
use mathlib.Core.List.{List, []}
use mathlib.Core.Logic.{◌⊎◌, inl, inr, ⊎_elim, ◌↔◌}
use Prim.Native.Nat.{ℕ, suc, ◌≤◌, ◌<◌}
use native.Mathlib.Decide.{dec_lt, ℕ_discrete}
use native.Mathlib.Omega.{arith}
use lib.Dec.{eqb}
use lib.ListN.{get_or, replicate, length-replicate, get_or-eq_default}
use borrow.Author.Tests.{eq-eqb, eqb-true}
use Rattle.algebra.specs.Choice.{choose, pick}
use Rattle.algebra.specs.Quasiinverse.{Marks, count}
use Rattle.algebra.proofs.Choice.{pick_elim, pick_no}
use Rattle.algebra.proofs.Counts.{count_same, count_some}
use Rattle.algebra.proofs.Marks.{by_test}
use Rattle.algebra.proofs.First.{picked_true}
use Rattle.checks.specs.Told.{results}
use Rattle.checks.specs.Outcome.{outcome}
use Rattle.checks.specs.InOrder.{AllHold}
use Rattle.checks.specs.Prime.{IsModulus}
use Rattle.checks.proofs.InOrder.{in_order_accepted}
use Rattle.words.proofs.Zeros.{zeros_at}
use Rattle.field.specs.Residue.{reduce, residues}
use Rattle.field.specs.Written.{marks_of}
use Rattle.field.proofs.Written.{length_tabulate, get_d_tabulate}
use Rattle.ledger.specs.Ledger.{Assignment, MeetsAll}
use Rattle.clash.specs.Decide.{agree?, equal?}
use Rattle.clash.specs.Calls.{frames_of, Agree, contradiction, combination_of, clashing, clash_of, clash_checks, clash_call}
use Rattle.clash.specs.Promises.{Outside, IsClash, IsQuarrel, Selected, ClashDone}
use Rattle.clash.proofs.Frames.{frames_many}
use Rattle.clash.proofs.Clashes.{FirstNotKept, contradiction_found, kept_agree}
use Rattle.clash.proofs.Selected.{ChosenWith, found_clash, clash_same, quarrel_contradiction, quarrel_selected}

-- ---- marks in memory

mark_at : (m : ℕ) (I : Marks) (i : ℕ) → i < m → get_or (marks_of m I) i 0 ≡ choose (I i) 1 0
mark_at m I i l = get_d_tabulate m (λ c. choose (I c) 1 0) i l

mark_past : (m : ℕ) (I : Marks) (i : ℕ) → m ≤ i → get_or (marks_of m I) i 0 ≡ 0
mark_past m I i h = get_or-eq_default (marks_of m I) 0 (omega (arith, length_tabulate m (λ c. choose (I c) 1 0)))

-- 1 exactly at the members
marked_exactly : (m : ℕ) (I : Marks) (i : ℕ) → ((i < m) × (I i ≡ true)) ↔ (get_or (marks_of m I) i 0 ≡ 1)
marked_exactly m I i = (λ (l, e). mark_at m I i l ∙ ap (λ b. choose b 1 0) e, λ h. back h (dec_lt i m))
  where
    back : get_or (marks_of m I) i 0 ≡ 1 → Dec (i < m) → (i < m) × (I i ≡ true)
    back h (no f) = absurd (let z = mark_past m I i (omega arith) in omega arith)
    back h (yes l) = (
      l,
      by_test (I i) (λ e. e) (λ e. absurd (let z = mark_at m I i l ∙ ap (λ b. choose b 1 0) e in omega arith)),
    )

each_mark : (m : ℕ) (I : Marks) (i : ℕ) → (get_or (marks_of m I) i 0 ≡ 1) ⊎ (get_or (marks_of m I) i 0 ≡ 0)
each_mark m I i = go (dec_lt i m)
  where
    go : Dec (i < m) → (get_or (marks_of m I) i 0 ≡ 1) ⊎ (get_or (marks_of m I) i 0 ≡ 0)
    go (no f) = inr (mark_past m I i (omega arith))
    go (yes l) =
        by_test (I i) (λ e. inl (mark_at m I i l ∙ ap (λ b. choose b 1 0) e)) (λ e. inr (mark_at m I i l ∙ ap (λ b. choose b 1 0) e))

-- so they count the members
marks_counted : (m : ℕ) (I : Marks) → count m I ≡ count m (λ i. eqb (get_or (marks_of m I) i 0) 1)
marks_counted m I =
    count_same m I (λ i. eqb (get_or (marks_of m I) i 0) 1)
    (λ i l. sym (ap (λ v. eqb v 1) (mark_at m I i l) ∙ by_test (I i) (λ e. ap one e ∙ sym e) (λ e. ap one e ∙ sym e)))
  where
    one : Bool → Bool
    one b = eqb (choose b 1 0) 1

-- all 0, and none is counted
none_counted : (m k : ℕ) → count k (λ i. eqb (get_or (replicate m 0) i 0) 1) ≡ 0
unfolding count
none_counted m ℕ.zero = refl
none_counted m (suc k) = omega (arith, none_counted m k, ap {B = ℕ} (λ v. choose (eqb v 1) 1 0) (zeros_at m k))

module _ (p : ℕ) (ok : IsModulus p) (m n s : ℕ) (log : List ℕ) where
  -- some assignment meets all frames of the log
  abbrev Common : Type 0
  Common = (x : Assignment p) × MeetsAll p n s (frames_of m n s log) x

  -- the same of the first m
  all_first : Common → Agree p n s (frames_of m n s log) (λ i. i < m)
  all_first (x, met) = (x, λ i l. met i (rw (frames_many p m n s log) l))

  first_all : Agree p n s (frames_of m n s log) (λ i. i < m) → Common
  first_all (x, met) = (x, λ i l. met i (rw (frames_many p m n s log) at l))

  -- ---- without a clash

  none_done : Common → ClashDone p m n s log (outcome (results 0) (replicate m 0))
  none_done c =
      record {
        marks_long = length-replicate m 0;
        each_mark = λ i. inr (zeros_at m i);
        told = ap results (sym (none_counted m m));
        none_exactly = (λ _. c, λ _. refl);
        zero_exactly = (λ _. c, λ _. refl);
        else_clash = λ f. absurd (f c);
        only = λ other q i. absurd (q.contradicts (let (x, met) = all_first c in (x, λ t h. met t (omega (arith, q.y_row)))));
      }

  -- ---- with one

  module _ (none : Common → ⊥) where
    abbrev y : ℕ
    y = contradiction p ok m n s log

    found : FirstNotKept p ok m n s log y
    found = contradiction_found p ok m n s log

    row : y < m
    row = go (dec_lt y m)
      where
        go : Dec (y < m) → y < m
        go (yes l) = l
        go (no f) =
            absurd (none (first_all (kept_agree p ok m n s log m (omega arith) (λ i l. found.before i (omega (arith, found.within))))))

    -- the members are frame y and those that it combines from
    clashing_exactly : (i : ℕ) → ChosenWith p ok m n s log y i ↔ ((i < m) × (clashing p ok m n s log i ≡ true))
    unfolding clashing combination_of
    clashing_exactly i = (
      λ (l, c). (
        l,
        ⊎_elim (λ e. ap (λ b. choose b true other) (eq-eqb i y e))
            (λ f. by_test (eqb i y) (λ e. ap (λ b. choose b true other) e) (λ e. ap (λ b. choose b true other) e ∙ pick_no decided false true f)) c,
      ),
      λ (l, h). (
        l,
        by_test (eqb i y) (λ e. inl (eqb-true i y e)) (λ e. inr (picked_true decided (sym (ap (λ b. choose b true other) e) ∙ h))),
      ),
    )
      where
        decided : Dec (combination_of p ok m n s log y i ≡ (residues p).zero)
        decided = equal? (combination_of p ok m n s log y i) (residues p).zero

        other : Bool
        other = pick decided false true

    abbrev marks : List ℕ
    marks = marks_of m (clashing p ok m n s log)

    selected : IsClash p m n s log (Selected p m n s log marks)
    selected =
        clash_same p m n s log
        (λ i.
        let (f, g) = clashing_exactly i in
        let (h, k) = marked_exactly m (clashing p ok m n s log) i in
        (λ c. h (f c), λ e. g (k e)))
        (found_clash p ok m n s log y found row)

    -- the same first contradiction, so the same frames
    quarrel_exactly : (C : ℕ → Type 0) → ((i : ℕ) → Dec (C i)) → IsQuarrel p m n s log C
        → (i : ℕ) → C i ↔ ((i < m) × (clashing p ok m n s log i ≡ true))
    quarrel_exactly C decide q i =
        let same = quarrel_contradiction p ok m n s log q in
        let (f, g) =
        quarrel_selected p ok m n s log y found row C decide q.none_common
        (subst (λ k. (t : ℕ) → C t → (t ≡ k) ⊎ ((t < k) × (Outside p m n s log t → ⊥))) same q.members) q.none_to_spare i in
        let (h, k) = clashing_exactly i in
        (λ c. h (f c), λ e. g (k e))

    some_marked : get_or marks y 0 ≡ 1
    some_marked = (marked_exactly m (clashing p ok m n s log) y).0 ((clashing_exactly y).0 (row, inl refl))

    clash_done : ClashDone p m n s log (outcome (results (count m (clashing p ok m n s log))) marks)
    clash_done =
        record {
          marks_long = length_tabulate m _;
          each_mark = each_mark m (clashing p ok m n s log);
          told = ap results (marks_counted m (clashing p ok m n s log));
          none_exactly = (
            λ e. absurd (let z = sym (ap (λ ms. get_or ms y 0) e) ∙ some_marked in omega (arith, zeros_at m y)),
            λ c. absurd (none c),
          );
          zero_exactly = (
            λ e.
                absurd
                (let z = ap (λ t. t.number) e in
                omega (arith, count_some m (clashing p ok m n s log) y row ((marked_exactly m (clashing p ok m n s log) y).1 some_marked).1)),
            λ c. absurd (none c),
          );
          else_clash = λ _. selected;
          only = λ other q i.
              let (f, g) = quarrel_exactly (Selected p m n s log other) (λ t. ℕ_discrete (get_or other t 0) 1) q i in
              let (h, k) = marked_exactly m (clashing p ok m n s log) i in
              (λ c. h (f c), λ e. g (k e));
        }

  pub clash_of_done : ClashDone p m n s log (clash_of p ok m n s log)
  unfolding clash_of
  clash_of_done =
      pick_elim (ClashDone p m n s log) (agree? p ok n s (frames_of m n s log) m) _ _ (λ a. none_done (first_all a))
      (λ f. clash_done (λ c. f (all_first c)))

-- of the call, past its checks
pub clash_call_done : (p m n s : ℕ) (log marks : List ℕ) → AllHold (clash_checks p m n s log marks)
    → ClashDone p m n s log (clash_call p m n s log marks)
unfolding clash_call
clash_call_done p m n s log marks all =
    in_order_accepted _ _ (ClashDone p m n s log) all (λ hs. clash_of_done p hs.0 m n s log)

-- a log of no rows is a log, in which nothing clashes
pub clash_no_rows : (p n s : ℕ) (log marks : List ℕ) → AllHold (clash_checks p 0 n s log marks)
    → clash_call p 0 n s log marks ≡ outcome (results 0) []
clash_no_rows p n s log marks all =
    let d = clash_call_done p 0 n s log marks all in
    let common : (x : Assignment p) × MeetsAll p n s (frames_of 0 n s log) x = (λ j w. reduce p 0, λ i h. absurd (omega (arith, frames_many p 0 n s log))) in
    λ i. outcome (d.zero_exactly.1 common i) (d.none_exactly.1 common i)
