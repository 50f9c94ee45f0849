-- The first frame that contradicts the earlier ones, by D: the first that D V does not meet. D V meets all frames before it; with it
-- they have no common assignment. So the position that the definition finds by its decisions is the one that D V gives.
use mathlib.Core.Path.{◌≡◌, sym, subst}
use mathlib.Core.Bool.{Bool, false, true}
use mathlib.Core.List.{List}
use mathlib.Core.Logic.{◌⊎◌, ⊎_elim}
use Prim.Native.Nat.{ℕ, suc, ◌+◌, ◌≤◌, ◌<◌}
use native.Mathlib.Nat.{zero-add, eq-or-lt_of_le, le_of_suc-le-suc}
use native.Mathlib.Decide.{dec_lt}
use native.Mathlib.Omega.{arith}
use Rattle.algebra.specs.Choice.{pick, first_from}
use Rattle.algebra.specs.Ring.{IsField}
use Rattle.algebra.specs.Matrix.{Vector, Matrix, product, apply}
use Rattle.algebra.specs.Quasiinverse.{Marks, IsPivotInverse}
use Rattle.algebra.specs.Chosen.{chosen_columns}
use Rattle.algebra.proofs.Choice.{not_all_below}
use Rattle.algebra.proofs.First.{first_within, first_passes, first_before, picked_true, picked_false}
use Rattle.algebra.proofs.Marked.{inverse_pivots}
use Rattle.algebra.proofs.Clash.{differing_outside, multipliers_end, no_common_solution}
use Rattle.checks.specs.Prime.{IsModulus}
use Rattle.field.specs.Residue.{residues}
use Rattle.field.proofs.Field.{residues_field}
use Rattle.field.proofs.Views.{table_sized}
use Rattle.ledger.specs.Ledger.{Assignment}
use Rattle.ledger.specs.Decide.{combined?}
use Rattle.clash.specs.Decide.{agree?, given_inverse, equal?}
use Rattle.clash.specs.Calls.{frames_of, Agree, log_table, log_rows, log_inverse, contradiction}
use Rattle.clash.specs.Parts.{log_value}
use Rattle.clash.proofs.Frames.{met_solves, solves_met}

module _ (p : ℕ) (ok : IsModulus p) (m n s : ℕ) (log : List ℕ) where
  abbrev pub F : IsField (residues p)
  F = residues_field p ok.prime

  abbrev A : Matrix (residues p)
  A = log_table p m n s log

  abbrev D : Matrix (residues p)
  D = log_inverse p ok m n s log

  -- D with I and J is a pivot inverse of the multiplier rows
  abbrev pub log_columns : Marks
  log_columns = chosen_columns (residues p) (combined? p ok) m n A

  pub log_pivots : IsPivotInverse (residues p) m n A D log_columns (log_rows p ok m n s log)
  log_pivots =
      inverse_pivots (residues p) F (combined? p ok) (given_inverse p ok n s m log) (table_sized p log 0 (n + s) m n)

  -- D V
  abbrev pub own : Assignment p
  own t w = apply (residues p) m D (λ i. log_value p n s log i w) t

  -- D V meets frame i in word w
  abbrev pub Kept : (i w : ℕ) → Type 0
  Kept i w = apply (residues p) n A (λ t. own t w) i ≡ log_value p n s log i w

  -- r is the first frame that D V does not meet in some word, or m
  pub record FirstNotKept (r : ℕ) : Type 0 where
    pub within : r ≤ m
    pub before : (i : ℕ) → i < r → (w : ℕ) → w < s → Kept i w
    pub differs : r < m → (w : ℕ) × ((w < s) × (Kept r w → ⊥))

  -- there is one only
  pub first_not_kept_once : {q r : ℕ} → FirstNotKept q → FirstNotKept r → q ≡ r
  first_not_kept_once {q} {r} f g =
      let early : q < r → ⊥ = λ l. let (w, (h, d)) = f.differs (omega (arith, g.within)) in d (g.before q l w h) in
      let late : r < q → ⊥ = λ l. let (w, (h, d)) = g.differs (omega (arith, f.within)) in d (f.before r l w h) in
      omega (arith, early, late)

  -- frames that D V meets have a common assignment
  pub kept_agree : (k : ℕ) → k ≤ m → ((i : ℕ) → i < k → (w : ℕ) → w < s → Kept i w) → Agree p n s (frames_of m n s log) (λ i. i < k)
  kept_agree k l kept = (own, λ i h w b. solves_met p m n s log i (omega arith) own w b (kept i h w b))

  -- with a frame that it does not meet, the frames before have none
  module _ (y w : ℕ) (row : y < m) (word : w < s) (differs : Kept y w → ⊥) where
    -- the values of the word
    abbrev v : Vector (residues p)
    v i = log_value p n s log i w

    unmet : apply (residues p) n A (apply (residues p) m D v) y ≡ v y → ⊥
    unmet = differs

    -- row y is outside J
    pub unmet_outside : log_rows p ok m n s log y ≡ false
    unmet_outside = differing_outside (residues p) F log_pivots v y row unmet

    -- it combines from no row after it
    pub combines_before : (i : ℕ) → (product (residues p) n A D y i ≡ (residues p).zero → ⊥) → i < y
    combines_before i f = go (dec_lt i y)
      where
        go : Dec (i < y) → i < y
        go (yes l) = l
        go (no l) = absurd (f (multipliers_end (residues p) F log_pivots y row unmet_outside i (omega arith)))

    -- frame y and those that it combines from have no common assignment
    pub unmet_clash : Agree p n s (frames_of m n s log) (λ i. (i < m) × ((i ≡ y) ⊎ (product (residues p) n A D y i ≡ (residues p).zero → ⊥))) → ⊥
    unmet_clash (x, met) =
        no_common_solution (residues p) F log_pivots v y row unmet (λ t. x t w)
        (λ i l c. met_solves p m n s log i l x w word (met i (l, c) w word))

    pub unmet_contradicts : Agree p n s (frames_of m n s log) (λ i. i < suc y) → ⊥
    unmet_contradicts (x, met) =
        unmet_clash
        (x, λ i (l, c). met i (⊎_elim (λ e. let q : i < suc y = omega arith in q) (λ f. let q : i < suc y = omega (arith, combines_before i f) in q) c))

  -- ---- the position that the definition finds

  kept? : (i w : ℕ) → Dec (Kept i w)
  kept? i w = equal? (apply (residues p) n A (λ t. own t w) i) (log_value p n s log i w)

  -- a frame that agrees with those before it is met by D V
  agreeing_kept : (i : ℕ) → i < m → Agree p n s (frames_of m n s log) (λ t. t < suc i) → (w : ℕ) → w < s → Kept i w
  agreeing_kept i l a w h = go (kept? i w)
    where
      go : Dec (Kept i w) → Kept i w
      go (yes e) = e
      go (no f) = absurd (unmet_contradicts i w l h f a)

  pub contradiction_found : FirstNotKept (contradiction p ok m n s log)
  unfolding contradiction
  contradiction_found =
      record {
        within = subst (λ k. y ≤ k) (zero-add m) (first_within test 0 m);
        before = before;
        differs = λ l.
            not_all_below (Kept y) (kept? y) s
            (λ all.
            picked_true (agree? p ok n s (frames_of m n s log) (suc y)) (first_passes test 0 m (subst (λ k. y < k) (sym (zero-add m)) l))
            (kept_agree (suc y) l (λ i h. ⊎_elim (λ e. rw e all) (λ b. before i b) (eq-or-lt_of_le (le_of_suc-le-suc h)))));
      }
    where
      test : ℕ → Bool
      test k = pick (agree? p ok n s (frames_of m n s log) (suc k)) false true

      y : ℕ
      y = first_from test 0 m

      before : (i : ℕ) → i < y → (w : ℕ) → w < s → Kept i w
      before i h =
          agreeing_kept i (omega (arith, first_within test 0 m))
          (picked_false (agree? p ok n s (frames_of m n s log) (suc i)) (first_before test 0 m i (omega arith) h))
