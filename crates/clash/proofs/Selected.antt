-- The frames that are selected clash as the request says: the first frame that D V does not meet, and the frames of J that it combines
-- from. By the rows that contradict each other (algebra/proofs/Clash.antt), in each word.
use mathlib.Core.Path.{◌≡◌, refl, sym, ◌∙◌, subst}
use mathlib.Core.Bool.{true, false}
use mathlib.Core.List.{List}
use mathlib.Core.Logic.{◌⊎◌, inl, inr, ⊎_elim, ◌↔◌}
use Prim.Native.Nat.{ℕ, suc, ◌<◌}
use native.Mathlib.Decide.{dec_lt, ℕ_discrete}
use native.Mathlib.Omega.{arith}
use Rattle.algebra.specs.Matrix.{Vector, Matrix, product}
use Rattle.algebra.proofs.Marks.{is_true, is_false}
use Rattle.algebra.proofs.Chosen.{zero_column, row_depends, row_free}
use Rattle.algebra.proofs.Fit.{rows_fit}
use Rattle.algebra.proofs.Clash.{row_combined, row_combined_once, moved, moved_keeps, moved_solves}
use Rattle.checks.specs.Prime.{IsModulus}
use Rattle.field.specs.Residue.{residues}
use Rattle.ledger.specs.Ledger.{Entry, Assignment}
use Rattle.clash.specs.Decide.{equal?}
use Rattle.clash.specs.Calls.{frames_of, Agree, log_table, log_rows, log_inverse, contradiction}
use Rattle.clash.specs.Parts.{log_value}
use Rattle.clash.specs.Promises.{Outside, IsQuarrel, IsClash}
use Rattle.clash.proofs.Frames.{solves_met}
use Rattle.clash.proofs.Clashes.{F, log_pivots, own, Kept, FirstNotKept, contradiction_found, kept_agree, unmet_outside, combines_before, unmet_clash, unmet_contradicts}

-- which frames are chosen is all that counts
pub clash_same : (p m n s : ℕ) (log : List ℕ) {C E : ℕ → Type 0} → ((i : ℕ) → C i ↔ E i) → IsClash p m n s log C → IsClash p m n s log E
clash_same p m n s log same c =
    let q = c.quarrel in
    record {
      quarrel =
          record {
            none_common = λ (x, met). q.none_common (x, λ i h. met i ((same i).0 h));
            none_to_spare = λ k h. let (x, met) = q.none_to_spare k ((same k).1 h) in (x, λ i (e, d). met i ((same i).1 e, d));
            y = q.y;
            y_row = q.y_row;
            earlier_agree = q.earlier_agree;
            contradicts = q.contradicts;
            members = λ i h. q.members i ((same i).1 h);
          };
      y_chosen = (same q.y).0 c.y_chosen;
      by = c.by;
      from_J = c.from_J;
      from_J_only = c.from_J_only;
      others_exactly = λ t l. let (f, g) = c.others_exactly t l in (λ h. f ((same t).1 h), λ h. (same t).0 (g h));
    }

-- ---- the first frame that contradicts the earlier ones is one only

first_once : (p n s : ℕ) (es : List Entry) {y z : ℕ} → Agree p n s es (λ i. i < y) → (Agree p n s es (λ i. i < suc y) → ⊥)
    → Agree p n s es (λ i. i < z) → (Agree p n s es (λ i. i < suc z) → ⊥) → y ≡ z
first_once p n s es {y} {z} (x, met) f (v, meets) g =
    let early : y < z → ⊥ = λ l. f (v, λ t b. meets t (omega arith)) in
    let late : z < y → ⊥ = λ l. g (x, λ t b. met t (omega arith)) in
    omega (arith, early, late)

module _ (p : ℕ) (ok : IsModulus p) (m n s : ℕ) (log : List ℕ) where
  abbrev A : Matrix (residues p)
  A = log_table p m n s log

  abbrev D : Matrix (residues p)
  D = log_inverse p ok m n s log

  -- frame y, and those that it combines from
  abbrev pub ChosenWith : ℕ → ℕ → Type 0
  ChosenWith y i = (i < m) × ((i ≡ y) ⊎ (product (residues p) n A D y i ≡ (residues p).zero → ⊥))

  module _ (y : ℕ) (found : FirstNotKept p ok m n s log y) (row : y < m) where
    abbrev word : ℕ
    word = (found.differs row).0

    in_words : word < s
    in_words = (found.differs row).1.0

    unmet : Kept p ok m n s log y word → ⊥
    unmet = (found.differs row).1.1

    outside : log_rows p ok m n s log y ≡ false
    outside = unmet_outside p ok m n s log y word row in_words unmet

    -- a row that it combines from is in J
    in_J : (i : ℕ) → (product (residues p) n A D y i ≡ (residues p).zero → ⊥) → log_rows p ok m n s log i ≡ true
    in_J i f =
        is_true (log_rows p ok m n s log i) (λ e. f (zero_column (residues p) (F p ok m n s log).ring (log_pivots p ok m n s log) y i e))

    -- D V meets it
    own_meets : (i : ℕ) → log_rows p ok m n s log i ≡ true → (w : ℕ) → Kept p ok m n s log i w
    own_meets i e w =
        rows_fit (residues p) (F p ok m n s log).ring (log_pivots p ok m n s log) (λ t. log_value p n s log t w) i e

    -- D V meets the frames of J; moved by column k of D it meets frame y and those of J but k
    own_agree : Agree p n s (frames_of m n s log) (λ i. (i < m) × (log_rows p ok m n s log i ≡ true))
    own_agree = (own p ok m n s log, λ i (l, e) w h. solves_met p m n s log i l (own p ok m n s log) w h (own_meets i e w))

    moved_agree : (k : ℕ) → (product (residues p) n A D y k ≡ (residues p).zero → ⊥)
        → Agree p n s (frames_of m n s log) (λ i. (i < m) × ((i ≡ y) ⊎ ((log_rows p ok m n s log i ≡ true) × (i ≡ k → ⊥))))
    moved_agree k used = (
      x,
      λ i (l, c) w h.
          let v : Vector (residues p) = λ t. log_value p n s log t w in
          solves_met p m n s log i l x w h
          (⊎_elim (λ q. rw q (moved_solves (residues p) (F p ok m n s log) (log_pivots p ok m n s log) y k used v))
          (λ (e, d). moved_keeps (residues p) (F p ok m n s log) (log_pivots p ok m n s log) y k used v i e d) c),
    )
      where
        x : Assignment p
        x t w = moved (residues p) (F p ok m n s log) (log_pivots p ok m n s log) y k used (λ i. log_value p n s log i w) t

    -- so, without any one of them, the chosen frames have a common assignment
    spared : (k : ℕ) → ChosenWith y k → Agree p n s (frames_of m n s log) (λ i. ChosenWith y i × (i ≡ k → ⊥))
    spared k (_, inl e) =
        let (x, met) = own_agree in
        (x, λ i ((l, c), d). met i (l, ⊎_elim (λ q. absurd (d (q ∙ sym e))) (λ f. in_J i f) c))
    spared k (_, inr used) =
        let (x, met) = moved_agree k used in
        (x, λ i ((l, c), d). met i (l, ⊎_elim inl (λ f. inr (in_J i f, d)) c))

    -- a row outside J gives nothing
    outside_zero : (t : ℕ) → Outside p m n s log t → product (residues p) n A D y t ≡ (residues p).zero
    outside_zero t h =
        zero_column (residues p) (F p ok m n s log).ring (log_pivots p ok m n s log) y t
        (is_false (log_rows p ok m n s log t)
        (λ e. row_free (residues p) (F p ok m n s log).ring (F p ok m n s log).one_not_zero (log_pivots p ok m n s log) t e h))

    pub found_clash : IsClash p m n s log (ChosenWith y)
    found_clash =
        record {
          quarrel =
              record {
                none_common = unmet_clash p ok m n s log y word row in_words unmet;
                none_to_spare = spared;
                y = y;
                y_row = row;
                earlier_agree = kept_agree p ok m n s log y (omega arith) found.before;
                contradicts = unmet_contradicts p ok m n s log y word row in_words unmet;
                members = λ i (l, c).
                    ⊎_elim inl (λ f. inr (combines_before p ok m n s log y word row in_words unmet i f, λ h. f (outside_zero i h))) c;
              };
          y_chosen = (row, inl refl);
          by = product (residues p) n A D y;
          from_J =
              record {
                combines = row_combined (residues p) (F p ok m n s log) (log_pivots p ok m n s log) y row outside;
                outside_zero = λ t l. outside_zero t;
              };
          from_J_only = λ u f.
              row_combined_once (residues p) (F p ok m n s log) (log_pivots p ok m n s log) y row outside u
              (λ t l e.
              f.outside_zero t l (row_depends (residues p) (F p ok m n s log).ring (log_pivots p ok m n s log) t (omega arith) e))
              f.combines;
          others_exactly = λ t l. (λ (_, c). ⊎_elim (λ e. absurd (omega arith)) (λ f. f) c, λ f. (omega arith, inr f));
        }

    -- ---- no other frames of these have no common assignment and none to spare

    module _ (C : ℕ → Type 0) (decide : (i : ℕ) → Dec (C i)) (none : Agree p n s (frames_of m n s log) C → ⊥)
        (members : (i : ℕ) → C i → (i ≡ y) ⊎ ((i < y) × (Outside p m n s log i → ⊥))) where
      -- an earlier one of J, in J's marks
      member_in_J : (i : ℕ) → i < y → (Outside p m n s log i → ⊥) → log_rows p ok m n s log i ≡ true
      member_in_J i l f =
          is_true (log_rows p ok m n s log i)
          (λ e. f (row_depends (residues p) (F p ok m n s log).ring (log_pivots p ok m n s log) i (omega arith) e))

      -- all frames that are selected are among them, since without one of these the rest of J and y have a common assignment
      selected_member : (k : ℕ) → ChosenWith y k → C k
      selected_member k (l, c) = go (decide k)
        where
          go : Dec (C k) → C k
          go (yes h) = h
          go (no f) = absurd (none (⊎_elim without_y without c))
            where
              without_y : k ≡ y → Agree p n s (frames_of m n s log) C
              without_y e =
                  let (x, met) = own_agree in (
                    x,
                    λ i h.
                        ⊎_elim (λ q. absurd (f (subst C (q ∙ sym e) h)))
                        (λ (b, o). met i (omega arith, member_in_J i b o)) (members i h),
                  )

              without : (product (residues p) n A D y k ≡ (residues p).zero → ⊥) → Agree p n s (frames_of m n s log) C
              without used =
                  let (x, met) = moved_agree k used in (
                    x,
                    λ i h.
                        ⊎_elim (λ q. met i (omega arith, inl q))
                        (λ (b, o). met i (omega arith, inr (member_in_J i b o, λ q. f (subst C q h)))) (members i h),
                  )

      -- and these are all, since any other could be spared
      pub quarrel_selected : ((k : ℕ) → C k → Agree p n s (frames_of m n s log) (λ i. C i × (i ≡ k → ⊥))) → (i : ℕ) → C i ↔ ChosenWith y i
      quarrel_selected spare i = (λ h. go h (ℕ_discrete i y) (equal? (product (residues p) n A D y i) (residues p).zero), selected_member i)
        where
          inside : C i → i < m
          inside h = ⊎_elim (λ e. omega arith) (λ (b, o). omega arith) (members i h)

          go : C i → Dec (i ≡ y) → Dec (product (residues p) n A D y i ≡ (residues p).zero) → ChosenWith y i
          go h (yes e) _ = (inside h, inl e)
          go h (no d) (no f) = (inside h, inr f)
          go h (no d) (yes z) =
              let (x, met) = spare i h in
              let other : (k : ℕ) → ChosenWith y k → k ≡ i → ⊥ = λ k (l, c) e.
              ⊎_elim (λ q. d (sym e ∙ q)) (λ f. f (subst (λ t. product (residues p) n A D y t ≡ (residues p).zero) (sym e) z)) c in
              absurd (found_clash.quarrel.none_common (x, λ k c. met k (selected_member k c, other k c)))

-- the frame that a quarrel is about is the definition's
pub quarrel_contradiction : (p : ℕ) (ok : IsModulus p) (m n s : ℕ) (log : List ℕ) {C : ℕ → Type 0} (q : IsQuarrel p m n s log C)
    → q.y ≡ contradiction p ok m n s log
quarrel_contradiction p ok m n s log q = go (dec_lt z m)
  where
    z : ℕ
    z = contradiction p ok m n s log

    found : FirstNotKept p ok m n s log z
    found = contradiction_found p ok m n s log

    agree : Agree p n s (frames_of m n s log) (λ i. i < z)
    agree = kept_agree p ok m n s log z found.within found.before

    go : Dec (z < m) → q.y ≡ z
    go (yes row) =
        let (w, (l, unmet)) = found.differs row in
        first_once p n s (frames_of m n s log) q.earlier_agree q.contradicts agree (unmet_contradicts p ok m n s log z w row l unmet)
    go (no f) =
        let (x, met) = agree in
        absurd (q.contradicts (x, λ i l. met i (omega (arith, q.y_row))))
