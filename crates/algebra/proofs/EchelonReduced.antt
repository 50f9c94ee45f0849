-- What the worked rows say of D. A worked row e is u A with multipliers u on J, and u = e D. So e (D w) is e's number in the carried
-- column w: from the last row to the first this gives D w at the pivots (back substitution). Where e is zero at all pivots but its own, u is the row of D
-- at that pivot, and e is that row of D A. The rows are brought there from the last to the first too, each by those below it.
use mathlib.Core.Path.{◌≡◌, sym, ap, ap₂, ◌∙◌, subst}
use mathlib.Core.Bool.{true, false}
use Prim.Native.Nat.{ℕ, suc, ◌<◌}
use native.Mathlib.Nat.{lt_of_lt_of_le, ne_of_lt}
use native.Mathlib.Decide.{dec_lt, ℕ_discrete}
use native.Mathlib.Omega.{arith}
use borrow.Author.Tests.{eq-eqb, ne_eqb}
use Rattle.algebra.specs.Choice.{choose}
use Rattle.algebra.specs.Ring.{Ring, IsCommutativeRing}
use Rattle.algebra.specs.Matrix.{Vector, Matrix, sum, unit, product, apply, mixed, cut}
use Rattle.algebra.specs.Echelon.{Within, Worked, ReducedFrom, others, RowReduced}
use Rattle.algebra.proofs.Rings as rings
use Rattle.algebra.proofs.Sums as sums
use Rattle.algebra.proofs.Applied as applied
use Rattle.algebra.proofs.Counts.{true_not_false}
use Rattle.algebra.proofs.Marks.{by_test}
use Rattle.algebra.proofs.Decide.{mixed_cut}
use Rattle.algebra.proofs.Within.{within_same, within_added, within_mixed, within_back}
use Rattle.algebra.proofs.Echelon.{pivot_below, own_pivot, pivots_differ}

module _ (R : Ring) (L : IsCommutativeRing R) (one_not_zero : R.one ≡ R.zero → ⊥) where
  open R use {zero as 𝟘, one as 𝟙, plus as ◌⊕◌, times as ◌⊗◌, minus}

  infixl 60 ◌⊕◌
  infixl 70 ◌⊗◌
  module _ {m n width : ℕ} {M : Matrix R} {r : ℕ} {E : Matrix R} {pivot : ℕ → ℕ} (w : Worked R m n width M r E pivot) where
    -- the solution that D gives: D times the column u, which is carried
    abbrev solution : ℕ → Vector R
    solution u = apply R m w.D (λ i. M i u)

    -- it is zero outside the pivots
    solution_outside : (u c : ℕ) → w.I c ≡ false → solution u c ≡ 𝟘
    solution_outside u c e = applied.zero_row_apply R L m w.D (λ i. M i u) c (λ t l. w.inverse.row_outside c t e)

    -- and solves the equation of each worked row
    row_solved : (u : ℕ) → u < width → (t : ℕ) → t < r → sum R n (λ j. E t j ⊗ solution u j) ≡ E t u
    unfolding mixed
    row_solved u h t l =
        let W = w.combined t l in
        sym (applied.mixed_apply R L m n (E t) w.D (λ i. M i u))
        ∙ sums.sum_same R m (λ y. mixed R n (E t) w.D y ⊗ M y u) (λ y. W.by y ⊗ M y u)
        (λ y b. ap (λ a. a ⊗ M y u) (within_back R L w.narrow w.inverse W y))
        ∙ sym (W.combines u h)

    -- D w at the pivot of row t, where z has it at the pivots of the rows after t and is zero elsewhere
    module _ (u : ℕ) (carried : u < width) (z : Vector R) (t : ℕ) (l : t < r)
        (after : (s : ℕ) → t < s → s < r → z (pivot s) ≡ solution u (pivot s))
        (outside : (c : ℕ) → c < n → ((s : ℕ) → t < s → s < r → pivot s ≡ c → ⊥) → z c ≡ 𝟘)
      where
        -- at t's own pivot z is still zero
        z_own : z (pivot t) ≡ 𝟘
        z_own = outside (pivot t) (pivot_below R L one_not_zero w t l) (λ s h b e. ne_of_lt h (sym (pivots_differ R L one_not_zero w s t b l e)))

        -- at the other columns z and D w agree, or row t is zero
        other_term : (j : ℕ) → j < n → (pivot t ≡ j → ⊥) → E t j ⊗ solution u j ≡ E t j ⊗ z j
        other_term j b d = by_test (w.I j) inside (λ e. ap (λ a. E t j ⊗ a) (solution_outside u j e ∙ sym (z_outside e)))
          where
            z_outside : w.I j ≡ false → z j ≡ 𝟘
            z_outside e = outside j b (λ s h k p. true_not_false (ap w.I (sym p) ∙ w.chosen s k) e)

            at_pivot : (s : ℕ) → s < r → pivot s ≡ j → Dec (t < s) → E t (pivot s) ⊗ solution u (pivot s) ≡ E t (pivot s) ⊗ z (pivot s)
            at_pivot s k p (yes h) = ap (λ a. E t (pivot s) ⊗ a) (sym (after s h k))
            at_pivot s k p (no h) =
                ap (λ a. a ⊗ solution u (pivot s)) here
                ∙ rings.zero_times R L (solution u (pivot s))
                ∙ sym (ap (λ a. a ⊗ z (pivot s)) here ∙ rings.zero_times R L (z (pivot s)))
              where
                here : E t (pivot s) ≡ 𝟘
                here = w.cleared s t k l (omega arith) ∙ sums.unit_other R s t (λ e. d (ap pivot (sym e) ∙ p))

            inside : w.I j ≡ true → E t j ⊗ solution u j ≡ E t j ⊗ z j
            inside e =
                let (s, (k, p)) = w.found j e in
                subst (λ c. E t c ⊗ solution u c ≡ E t c ⊗ z c) p (at_pivot s k p (dec_lt t s))

        term : (j : ℕ) → j < n → E t j ⊗ solution u j ≡ E t j ⊗ z j ⊕ unit R (pivot t) j ⊗ solution u j
        term j b = go (ℕ_discrete (pivot t) j)
          where
            own : E t (pivot t) ⊗ solution u (pivot t) ≡ E t (pivot t) ⊗ z (pivot t) ⊕ unit R (pivot t) (pivot t) ⊗ solution u (pivot t)
            own =
                ap (λ a. a ⊗ solution u (pivot t)) (own_pivot R L one_not_zero w t l ∙ sym (sums.unit_same R (pivot t)))
                ∙ sym (rings.zero_plus R L (unit R (pivot t) (pivot t) ⊗ solution u (pivot t)))
                ∙ ap (λ a. a ⊕ unit R (pivot t) (pivot t) ⊗ solution u (pivot t))
                (sym (ap (λ a. E t (pivot t) ⊗ a) z_own ∙ rings.times_zero R L (E t (pivot t))))

            go : Dec (pivot t ≡ j) → E t j ⊗ solution u j ≡ E t j ⊗ z j ⊕ unit R (pivot t) j ⊗ solution u j
            go (yes e) = subst (λ c. E t c ⊗ solution u c ≡ E t c ⊗ z c ⊕ unit R (pivot t) c ⊗ solution u c) e own
            go (no d) =
                other_term j b d
                ∙ sym (L.plus_zero (E t j ⊗ z j))
                ∙ ap (λ a. E t j ⊗ z j ⊕ a)
                (sym (ap (λ a. a ⊗ solution u j) (sums.unit_other R (pivot t) j d) ∙ rings.zero_times R L (solution u j)))

        pub back_substituted : apply R m w.D (λ i. M i u) (pivot t) ≡ E t u ⊕ minus (sum R n (λ j. E t j ⊗ z j))
        back_substituted =
            sym (rings.plus_difference R L (sum R n (λ j. E t j ⊗ z j)) (solution u (pivot t)))
            ∙ sym (L.plus_assoc (sum R n (λ j. E t j ⊗ z j)) (solution u (pivot t)) (minus (sum R n (λ j. E t j ⊗ z j))))
            ∙ ap (λ a. a ⊕ minus (sum R n (λ j. E t j ⊗ z j)))
            (ap (λ a. sum R n (λ j. E t j ⊗ z j) ⊕ a)
            (sym (sums.unit_sum R L n (solution u) (pivot t) (pivot_below R L one_not_zero w t l)))
            ∙ sym (sums.sum_plus R L n (λ j. E t j ⊗ z j) (λ j. unit R (pivot t) j ⊗ solution u j))
            ∙ sums.sum_same R n (λ j. E t j ⊗ z j ⊕ unit R (pivot t) j ⊗ solution u j) (λ j. E t j ⊗ solution u j) (λ j b. sym (term j b))
            ∙ row_solved u carried t l)

    -- rows that are zero at all pivots but their own
    module _ (reduced : ReducedFrom R 0 r E pivot) (t : ℕ) (l : t < r) where
      -- the multipliers of row t are the row of D at its pivot
      multipliers_own : (y : ℕ) → (w.combined t l).by y ≡ w.D (pivot t) y
      unfolding mixed
      multipliers_own y =
          sym (within_back R L w.narrow w.inverse (w.combined t l) y)
          ∙ sums.sum_one R L n (λ c. E t c ⊗ w.D c y) (pivot t) (pivot_below R L one_not_zero w t l) (λ c b d. by_test (w.I c) (inside c d) (outside c))
          ∙ ap (λ a. a ⊗ w.D (pivot t) y) (own_pivot R L one_not_zero w t l)
          ∙ rings.one_times R L (w.D (pivot t) y)
        where
          outside : (c : ℕ) → w.I c ≡ false → E t c ⊗ w.D c y ≡ 𝟘
          outside c e = ap (λ a. E t c ⊗ a) (w.inverse.row_outside c y e) ∙ rings.times_zero R L (E t c)

          inside : (c : ℕ) → (c ≡ pivot t → ⊥) → w.I c ≡ true → E t c ⊗ w.D c y ≡ 𝟘
          inside c d e =
              let (s, (k, p)) = w.found c e in
              ap (λ a. a ⊗ w.D c y)
              (ap (E t) (sym p) ∙ reduced s t k (omega arith) l ∙ sums.unit_other R s t (λ q. d (sym p ∙ ap pivot q)))
              ∙ rings.zero_times R L (w.D c y)

      reduced_mixed : (j : ℕ) → j < width → E t j ≡ mixed R m (w.D (pivot t)) M j
      reduced_mixed j b =
          (w.combined t l).combines j b
          ∙ applied.mixed_same R m (w.combined t l).by (w.D (pivot t)) M (λ y h. multipliers_own y) j

    -- row t is row (pivot t) of D A
    pub reduced_row : ReducedFrom R 0 r E pivot → (t : ℕ) → t < r → (j : ℕ) → j < n → E t j ≡ product R m w.D (cut R m n M) (pivot t) j
    reduced_row reduced t l j b =
        reduced_mixed reduced t l j (lt_of_lt_of_le b w.narrow)
        ∙ sym (mixed_cut R m n M (w.D (pivot t)) j b)
        ∙ sym (applied.product_row R m w.D (cut R m n M) (pivot t) j)

    -- its number in the carried column w is D w there
    pub reduced_carried : ReducedFrom R 0 r E pivot → (t : ℕ) → t < r → (u : ℕ) → u < width → E t u ≡ apply R m w.D (λ i. M i u) (pivot t)
    unfolding mixed apply
    reduced_carried reduced t l = reduced_mixed reduced t l

  -- row t is reduced by the rows after it
  module _ {m n width : ℕ} {M : Matrix R} {r : ℕ} {E : Matrix R} {pivot : ℕ → ℕ} {t : ℕ} (w : Worked R m n width M r E pivot) (l : t < r)
      (after : ReducedFrom R (suc t) r E pivot)
    where
      others_own : others R t E pivot t ≡ 𝟘
      unfolding others
      others_own = ap (λ b. choose b 𝟘 (minus (E t (pivot t)))) (eq-eqb t t (λ i. t))

      others_other : (s : ℕ) → (s ≡ t → ⊥) → others R t E pivot s ≡ minus (E t (pivot s))
      unfolding others
      others_other s d = ap (λ b. choose b 𝟘 (minus (E t (pivot s)))) (ne_eqb s t d)

      -- the rows up to t are not used
      others_before : (s : ℕ) → s < suc t → others R t E pivot s ≡ 𝟘
      others_before s b = go (ℕ_discrete s t)
        where
          go : Dec (s ≡ t) → others R t E pivot s ≡ 𝟘
          go (yes e) = ap (others R t E pivot) e ∙ others_own
          go (no d) =
              others_other s d
              ∙ ap minus (w.cleared s t (omega arith) l (omega arith) ∙ sums.unit_other R s t d)
              ∙ rings.minus_zero R L

      -- at the pivot of row s only row s counts
      pick_row : (s : ℕ) → s < r → mixed R r (others R t E pivot) E (pivot s) ≡ others R t E pivot s
      unfolding mixed
      pick_row s b =
          sums.sum_same R r (λ q. others R t E pivot q ⊗ E q (pivot s)) (λ q. unit R s q ⊗ others R t E pivot q) (λ q k. term q k (dec_lt t q))
          ∙ sums.unit_sum R L r (others R t E pivot) s b
        where
          term : (q : ℕ) → q < r → Dec (t < q) → others R t E pivot q ⊗ E q (pivot s) ≡ unit R s q ⊗ others R t E pivot q
          term q k (yes c) = ap (λ a. others R t E pivot q ⊗ a) (after s q b c k) ∙ L.times_comm (others R t E pivot q) (unit R s q)
          term q k (no c) =
              let e = others_before q (omega arith) in
              ap (λ a. a ⊗ E q (pivot s)) e
              ∙ rings.zero_times R L (E q (pivot s))
              ∙ sym (ap (λ a. unit R s q ⊗ a) e ∙ rings.times_zero R L (unit R s q))

      -- with them the row is 0 at the pivots of the others, and 1 at its own
      pub others_at_pivot : (s : ℕ) → s < r → E t (pivot s) ⊕ mixed R r (others R t E pivot) E (pivot s) ≡ unit R s t
      others_at_pivot s b = ap (λ a. E t (pivot s) ⊕ a) (pick_row s b) ∙ go (ℕ_discrete s t)
        where
          go : Dec (s ≡ t) → E t (pivot s) ⊕ others R t E pivot s ≡ unit R s t
          go (yes e) =
              ap₂ (λ a c. a ⊕ c) (w.cleared s t b l (omega arith)) (ap (others R t E pivot) e ∙ others_own) ∙ L.plus_zero (unit R s t)
          go (no d) =
              ap (λ a. E t (pivot s) ⊕ a) (others_other s d) ∙ L.plus_minus (E t (pivot s)) ∙ sym (sums.unit_other R s t d)

  module _ {m n width : ℕ} {M : Matrix R} {r : ℕ} {E : Matrix R} {pivot : ℕ → ℕ} {E' : Matrix R} {t : ℕ} (w : Worked R m n width M r E pivot) (l : t < r)
      (after : ReducedFrom R (suc t) r E pivot) (h : RowReduced R width r t E pivot E')
    where
      row_at_pivot : (s : ℕ) → s < r → E' t (pivot s) ≡ unit R s t
      row_at_pivot s b = h.row (pivot s) (lt_of_lt_of_le (pivot_below R L one_not_zero w s b) w.narrow) ∙ others_at_pivot w l after s b

      -- the other rows stay at the pivots
      rest_at_pivot : (s q : ℕ) → s < r → q < r → (q ≡ t → ⊥) → E' q (pivot s) ≡ E q (pivot s)
      rest_at_pivot s q b k d = h.rest q (pivot s) k d (lt_of_lt_of_le (pivot_below R L one_not_zero w s b) w.narrow)

      by_row : (P : ℕ → Type 0) (q : ℕ) → P t → ((q ≡ t → ⊥) → P q) → P q
      by_row P q own rest = go (ℕ_discrete q t)
        where
          go : Dec (q ≡ t) → P q
          go (yes e) = subst P (sym e) own
          go (no d) = rest d

      reduced_within : (q : ℕ) → q < r → Within R m width M w.J (E' q)
      reduced_within q k =
          by_row (λ a. Within R m width M w.J (E' a)) q
          (within_same R L (within_added R L 𝟙 (w.combined t l) (within_mixed R L r (others R t E pivot) E w.combined))
          (λ j b. h.row j b ∙ ap (λ a. E t j ⊕ a) (sym (rings.one_times R L (mixed R r (others R t E pivot) E j)))))
          (λ d. within_same R L (w.combined q k) (λ j b. h.rest q j k d b))

      pub row_reduced : Worked R m n width M r E' pivot × ReducedFrom R t r E' pivot
      row_reduced = (
        record {
          narrow = w.narrow;
          D = w.D;
          I = w.I;
          J = w.J;
          inverse = w.inverse;
          rank = w.rank;
          chosen = w.chosen;
          found = w.found;
          combined = reduced_within;
          cleared = λ s q b k c.
              by_row (λ a. E' a (pivot s) ≡ unit R s a) q (row_at_pivot s b) (λ d. rest_at_pivot s q b k d ∙ w.cleared s q b k c);
        },
        λ s q b c k.
            by_row (λ a. E' a (pivot s) ≡ unit R s a) q (row_at_pivot s b) (λ d. rest_at_pivot s q b k d ∙ after s q b (omega arith) k),
      )
