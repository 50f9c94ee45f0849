-- The forward elimination, row after row (`specs/Echelon.antt`). A row is cleared at the pivots in groups of four worked rows. What then
-- is left of it is the remainder of `NextRow`: if it is zero the row is skipped, else it joins the worked rows, with the place of
-- its first number that is not zero as its pivot. Once every column has its pivot each further row is skipped.
use mathlib.Core.Path.{◌≡◌, refl, sym, ap, ◌∙◌, subst}
use mathlib.Core.Logic.{⊎_elim}
use mathlib.Core.Bool.{true, false}
use Prim.Native.Nat.{ℕ, suc, ◌+◌, ◌*◌, ◌/◌, ◌≤◌, ◌<◌, zero-le}
use native.Mathlib.Nat.{not-suc-le-zero, le_refl, lt-suc_self, le_step, le_of_suc-le-suc, eq-or-lt_of_le, lt_trans, lt_of_lt_of_le, ne_of_lt, add-zero}
use native.Mathlib.Decide.{dec_le, ℕ_discrete}
use native.Mathlib.Omega.{arith}
use borrow.Author.Tests.{eq-eqb, eqb-true, ne_eqb}
use Rattle.algebra.specs.Ring.{Ring, IsCommutativeRing}
use Rattle.algebra.specs.Matrix.{Vector, Matrix, unit, zeros, mixed, cut}
use Rattle.algebra.specs.Quasiinverse.{count, either, follow, none, only, IsPivotInverse}
use Rattle.algebra.specs.Echelon.{Within, Worked, Cleared, Grown, Leading}
use Rattle.algebra.proofs.Rings as rings
use Rattle.algebra.proofs.Sums as sums
use Rattle.algebra.proofs.Blocks.{Part, upper, lower, part}
use Rattle.algebra.proofs.Counts as counts
use Rattle.algebra.proofs.Marks.{is_false}
use Rattle.algebra.proofs.Base.{zero_table, count_none, count_only}
use Rattle.algebra.proofs.Chosen.{row_end}
use Rattle.algebra.proofs.Independent.{count_most, all_marked}
use Rattle.algebra.proofs.Decide.{cut_sized}
use Rattle.algebra.proofs.Within.{within_same, within_zero, within_added, within_mixed, within_wider, within_row}
use Rattle.algebra.proofs.NextRow.{remainder, remainder_is, remainder_none, next_depends, next_joins}

-- what holds at r and before it holds below r + 1
below_next : (P : ℕ → Type 0) (r : ℕ) → P r → ((t : ℕ) → t < r → P t) → (t : ℕ) → t < suc r → P t
below_next P r last before t l = ⊎_elim (λ e. subst P (sym e) last) (λ k. before t k) (eq-or-lt_of_le (le_of_suc-le-suc l))

module _ (R : Ring) (L : IsCommutativeRing R) (one_not_zero : R.one ≡ R.zero → ⊥) where
  open R use {Carrier, zero as 𝟘, one as 𝟙, plus as ◌⊕◌, times as ◌⊗◌, minus}

  infixl 60 ◌⊕◌
  infixl 70 ◌⊗◌
  module _ {m n width : ℕ} {M : Matrix R} {r : ℕ} {E : Matrix R} {pivot : ℕ → ℕ} (w : Worked R m n width M r E pivot) where
    pub pivot_below : (t : ℕ) → t < r → pivot t < n
    pivot_below t l = w.inverse.columns (pivot t) (w.chosen t l)

    -- there are at most as many worked rows as columns
    pub rank_columns : r ≤ n
    rank_columns = omega (arith, w.rank, count_most n w.I)

    pub own_pivot : (t : ℕ) → t < r → E t (pivot t) ≡ 𝟙
    own_pivot t l = w.cleared t t l l (le_refl (t / 4)) ∙ sums.unit_same R t

    -- no two rows share a pivot: one of them is zero at the other's, and 1 at its own
    pub pivots_differ : (s t : ℕ) → s < r → t < r → pivot s ≡ pivot t → s ≡ t
    pivots_differ s t hs ht e = go (dec_le (s / 4) (t / 4))
      where
        same : (a b : ℕ) → unit R a b ≡ 𝟙 → a ≡ b
        same a b d = by (ℕ_discrete a b)
          where
            by : Dec (a ≡ b) → a ≡ b
            by (yes h) = h
            by (no h) = absurd (one_not_zero (sym d ∙ sums.unit_other R a b h))

        go : Dec (s / 4 ≤ t / 4) → s ≡ t
        go (yes b) = same s t (sym (w.cleared s t hs ht b) ∙ ap (E t) e ∙ own_pivot t ht)
        go (no b) = sym (same t s (sym (w.cleared t s ht hs (omega arith)) ∙ ap (E s) (sym e) ∙ own_pivot s hs))

  -- before the first row
  pub worked_none : (n width : ℕ) (M E : Matrix R) (pivot : ℕ → ℕ) → n ≤ width → Worked R 0 n width M 0 E pivot
  unfolding none
  worked_none n width M E pivot narrow =
      record {
        narrow = narrow;
        D = zeros R;
        I = none;
        J = none;
        inverse = zero_table R L 0 n (cut R 0 n M) (λ i j. (cut_sized R 0 n M).rows_end i j zero-le);
        rank = sym (count_none n);
        chosen = λ t l. absurd (not-suc-le-zero l);
        found = λ c e. absurd (counts.true_not_false e refl);
        combined = λ t l. absurd (not-suc-le-zero l);
        cleared = λ s t l. absurd (not-suc-le-zero l);
      }

  -- a row that brings no pivot
  rows_kept : {i n width : ℕ} {M : Matrix R} {r : ℕ} {E : Matrix R} {pivot : ℕ → ℕ} → (w : Worked R i n width M r E pivot)
      → (D' : Matrix R) × IsPivotInverse R (suc i) n (cut R (suc i) n M) D' w.I w.J → Worked R (suc i) n width M r E pivot
  rows_kept {i} w (D', Q) =
      record {
        narrow = w.narrow;
        D = D';
        I = w.I;
        J = w.J;
        inverse = Q;
        rank = w.rank;
        chosen = w.chosen;
        found = w.found;
        combined = λ t l. within_wider R L (le_step (le_refl i)) (row_end R L w.inverse) (λ y e. e) (w.combined t l);
        cleared = w.cleared;
      }

  -- every column has its pivot: the next row follows from those above
  pub row_follows : {i n width : ℕ} {M : Matrix R} {E : Matrix R} {pivot : ℕ → ℕ} → Worked R i n width M n E pivot → Worked R (suc i) n width M n E pivot
  row_follows {n = n} {M = M} w =
      rows_kept w
      (next_depends R L M w.inverse one_not_zero (remainder_none R L M w.inverse (all_marked n w.I (sym w.rank))))

  -- the cleared row is what is left of row i
  remainder_cleared : {i n width : ℕ} {M : Matrix R} {r : ℕ} {E : Matrix R} {pivot : ℕ → ℕ} {x : Vector R}
      → (w : Worked R i n width M r E pivot) → Cleared R i width M r E pivot x → (j : ℕ) → j < n → remainder R i n M w.D 0 j ≡ x j
  remainder_cleared {i} {n} {width} {M} {r} {E} {pivot} {x} w c =
      let W : Within R i width M w.J (mixed R r c.by E) = within_mixed R L r c.by E w.combined in
      remainder_is R L M w.inverse x W.by
      (λ j l.
      let b = lt_of_lt_of_le l w.narrow in
      c.sums j b ∙ ap (λ a. M i j ⊕ a) (W.combines j b))
      W.supported zero_there
    where
      zero_there : (q : ℕ) → w.I q ≡ true → x q ≡ 𝟘
      zero_there q h = let (t, (l, e)) = w.found q h in ap x (sym e) ∙ c.zeros_at t l l

  -- the cleared row is zero
  pub row_skipped : {i n width : ℕ} {M : Matrix R} {r : ℕ} {E : Matrix R} {pivot : ℕ → ℕ} {x : Vector R}
      → Worked R i n width M r E pivot → Cleared R i width M r E pivot x → ((j : ℕ) → j < n → x j ≡ 𝟘) → Worked R (suc i) n width M r E pivot
  row_skipped {M = M} w c h =
      rows_kept w (next_depends R L M w.inverse one_not_zero (λ j l. remainder_cleared w c j l ∙ h j l))

  -- the cleared row joins the worked ones
  module _ {i n width : ℕ} {M : Matrix R} {r : ℕ} {E : Matrix R} {pivot : ℕ → ℕ} {x : Vector R} {v : ℕ} {s : Carrier} {E' : Matrix R} {pivot' : ℕ → ℕ}
      (w : Worked R i n width M r E pivot) (c : Cleared R i width M r E pivot x) (below : v < n) (before : (j : ℕ) → j < v → x j ≡ 𝟘)
      (inverse : x v ⊗ s ≡ 𝟙) (g : Grown R width r v s x E pivot E' pivot')
    where
      in_row : {q : ℕ} → q < n → q < width
      in_row l = lt_of_lt_of_le l w.narrow

      x_at_pivot : (t : ℕ) → t < r → x (pivot t) ≡ 𝟘
      x_at_pivot t l = c.zeros_at t l l

      -- v is no pivot yet
      v_new : w.I v ≡ false
      v_new =
          is_false (w.I v)
          (λ e.
          let (t, (l, p)) = w.found v e in
          one_not_zero (sym inverse ∙ ap (λ a. a ⊗ s) (ap x (sym p) ∙ x_at_pivot t l) ∙ rings.zero_times R L s))

      -- the new row at its pivot and at the others
      new_own : E' r v ≡ 𝟙
      new_own = g.new v (in_row below) ∙ L.times_comm s (x v) ∙ inverse

      new_other : (t : ℕ) → t < r → E' r (pivot t) ≡ 𝟘
      new_other t l = g.new (pivot t) (in_row (pivot_below w t l)) ∙ ap (λ a. s ⊗ a) (x_at_pivot t l) ∙ rings.times_zero R L s

      grown_inverse : (D' : Matrix R) × IsPivotInverse R (suc i) n (cut R (suc i) n M) D' (either w.I (only v)) (follow i w.J (only 0))
      grown_inverse =
          next_joins R L M w.inverse one_not_zero v s below (λ j l. remainder_cleared w c j (lt_trans l below) ∙ before j l)
          (ap (λ a. a ⊗ s) (remainder_cleared w c v below) ∙ inverse)

      -- combinations of the rows chosen before are combinations of those chosen now
      wider : {y : Vector R} → Within R i width M w.J y → Within R (suc i) width M (follow i w.J (only 0)) y
      wider = within_wider R L (le_step (le_refl i)) (row_end R L w.inverse) (λ t e. go (part i t) e)
        where
          go : {t : ℕ} → Part i t → follow i w.J (only 0) t ≡ false → w.J t ≡ false
          go {t} (upper h) e = sym (counts.follow_upper i w.J (only 0) t h) ∙ e
          go (lower k) e = row_end R L w.inverse (i + k) (omega arith)

      -- so is row i
      row_own : Within R (suc i) width M (follow i w.J (only 0)) (M i)
      unfolding only
      row_own = within_row R L i (lt-suc_self i) (λ t e d. counts.true_not_false (ap (follow i w.J (only 0)) (sym d) ∙ here) e)
        where
          here : follow i w.J (only 0) i ≡ true
          here = ap (follow i w.J (only 0)) (sym (add-zero i)) ∙ counts.follow_lower i w.J (only 0) 0

      new_within : Within R (suc i) width M (follow i w.J (only 0)) (E' r)
      new_within =
          within_same R L
          (within_added R L s (within_zero R L) (within_added R L 𝟙 row_own (within_mixed R L r c.by E (λ t l. wider (w.combined t l)))))
          (λ j l.
          g.new j l
          ∙ ap (λ a. s ⊗ a) (c.sums j l ∙ ap (λ a. M i j ⊕ a) (sym (rings.one_times R L (mixed R r c.by E j))))
          ∙ sym (rings.zero_plus R L (s ⊗ (M i j ⊕ 𝟙 ⊗ mixed R r c.by E j))))

      -- the rows of the group and the earlier ones
      by_group : {P : Type 0} (t : ℕ) → (r / 4 * 4 ≤ t → P) → (t < r / 4 * 4 → P) → P
      by_group {P} t in_group earlier = go (dec_le (r / 4 * 4) t)
        where
          go : Dec (r / 4 * 4 ≤ t) → P
          go (yes b) = in_group b
          go (no b) = earlier (omega arith)

      grown_within : (t : ℕ) → t < r → Within R (suc i) width M (follow i w.J (only 0)) (E' t)
      grown_within t l =
          by_group t
          (λ b. within_same R L (within_added R L (minus (E t v)) (wider (w.combined t l)) new_within) (λ j h. g.group t j l b h))
          (λ b. within_same R L (wider (w.combined t l)) (λ j h. g.earlier t j b h))

      -- at the pivots from before no row has changed
      old_pivot : (p t : ℕ) → p < r → t < r → E' t (pivot p) ≡ E t (pivot p)
      old_pivot p t k l =
          let h : pivot p < width = in_row (pivot_below w p k) in
          by_group t
          (λ b.
          g.group t (pivot p) l b h
          ∙ ap (λ a. E t (pivot p) ⊕ minus (E t v) ⊗ a) (new_other p k)
          ∙ ap (λ a. E t (pivot p) ⊕ a) (rings.times_zero R L (minus (E t v)))
          ∙ L.plus_zero (E t (pivot p)))
          (λ b. g.earlier t (pivot p) b h)

      -- at the new one those of the group are zero
      new_pivot_zero : (t : ℕ) → t < r → r / 4 ≤ t / 4 → E' t v ≡ 𝟘
      new_pivot_zero t l b =
          g.group t v l (omega arith) (in_row below)
          ∙ ap (λ a. E t v ⊕ minus (E t v) ⊗ a) new_own
          ∙ ap (λ a. E t v ⊕ a) (L.times_one (minus (E t v)))
          ∙ L.plus_minus (E t v)

      grown_cleared : (p t : ℕ) → p < suc r → t < suc r → p / 4 ≤ t / 4 → E' t (pivot' p) ≡ unit R p t
      grown_cleared p t k l = below_next (λ a. a / 4 ≤ t / 4 → E' t (pivot' a) ≡ unit R a t) r (at_new t l) (λ a h. at_old a h t l) p k
        where
          at_new : (t : ℕ) → t < suc r → r / 4 ≤ t / 4 → E' t (pivot' r) ≡ unit R r t
          at_new =
              below_next (λ a. r / 4 ≤ a / 4 → E' a (pivot' r) ≡ unit R r a) r
              (λ b. ap (E' r) g.new_pivot ∙ new_own ∙ sym (sums.unit_same R r))
              (λ a h b. ap (E' a) g.new_pivot ∙ new_pivot_zero a h b ∙ sym (sums.unit_other R r a (λ e. ne_of_lt h (sym e))))

          at_old : (p : ℕ) → p < r → (t : ℕ) → t < suc r → p / 4 ≤ t / 4 → E' t (pivot' p) ≡ unit R p t
          at_old p h =
              below_next (λ a. p / 4 ≤ a / 4 → E' a (pivot' p) ≡ unit R p a) r
              (λ b. ap (E' r) (g.pivots p h) ∙ new_other p h ∙ sym (sums.unit_other R p r (ne_of_lt h)))
              (λ a d b. ap (E' a) (g.pivots p h) ∙ old_pivot p a h d ∙ w.cleared p a h d b)

      grown_rank : suc r ≡ count n (either w.I (only v))
      unfolding only
      grown_rank = omega (arith, w.rank, counts.count_either n w.I (only v) apart, count_only n v below)
        where
          apart : (q : ℕ) → w.I q ≡ true → only v q ≡ false
          apart q e = ne_eqb q v (λ d. counts.true_not_false (ap w.I (sym d) ∙ e) v_new)

      grown_chosen : (t : ℕ) → t < suc r → either w.I (only v) (pivot' t) ≡ true
      unfolding only
      grown_chosen =
          below_next (λ t. either w.I (only v) (pivot' t) ≡ true) r
          (ap (either w.I (only v)) g.new_pivot ∙ counts.either_second w.I (only v) v (eq-eqb v v refl))
          (λ t l. ap (either w.I (only v)) (g.pivots t l) ∙ counts.either_first w.I (only v) (pivot t) (w.chosen t l))

      grown_found : (q : ℕ) → either w.I (only v) q ≡ true → (t : ℕ) × ((t < suc r) × (pivot' t ≡ q))
      unfolding only
      grown_found q h =
          counts.either_true w.I (only v) q h
          (λ e. let (t, (l, p)) = w.found q e in (t, (le_step l, g.pivots t l ∙ p)))
          (λ f e. (r, (lt-suc_self r, g.new_pivot ∙ sym (eqb-true q v e))))

      pub row_added : Worked R (suc i) n width M (suc r) E' pivot'
      row_added =
          record {
            narrow = w.narrow;
            D = grown_inverse.0;
            I = either w.I (only v);
            J = follow i w.J (only 0);
            inverse = grown_inverse.1;
            rank = grown_rank;
            chosen = grown_chosen;
            found = grown_found;
            combined = below_next (λ t. Within R (suc i) width M (follow i w.J (only 0)) (E' t)) r new_within grown_within;
            cleared = grown_cleared;
          }

  -- one row more, and the rows are still 0 in front of their pivots: where the new row would change one there, it is added 0 times
  pub grown_leading : {width r v : ℕ} {s : Carrier} {x : Vector R} {E : Matrix R} {pivot : ℕ → ℕ} {E' : Matrix R} {pivot' : ℕ → ℕ}
      → ((t : ℕ) → t < r → pivot t < width) → v < width → ((j : ℕ) → j < v → x j ≡ 𝟘) → Leading R r E pivot
      → Grown R width r v s x E pivot E' pivot' → Leading R (suc r) E' pivot'
  grown_leading {width} {r} {v} {s} {x} {E} {pivot} {E'} {pivot'} below in_row zero leading g = λ t j l h. below_next Front r new old t l j h
    where
      Front : ℕ → Type 0
      Front t = (j : ℕ) → j < pivot' t → E' t j ≡ 𝟘

      new_front : (j : ℕ) → j < v → E' r j ≡ 𝟘
      new_front j h = g.new j (omega arith) ∙ ap (λ a. s ⊗ a) (zero j h) ∙ rings.times_zero R L s

      new : Front r
      new j h = new_front j (omega (arith, g.new_pivot))

      old : (t : ℕ) → t < r → Front t
      old t l j h = at (dec_le (r / 4 * 4) t)
        where
          before : j < pivot t
          before = omega (arith, g.pivots t l)

          in_width : j < width
          in_width = omega (arith, before, below t l)

          -- E t v is 0 unless v is at the row's pivot or behind it, and then the new row is 0 at j
          nothing : Dec (v ≤ j) → minus (E t v) ⊗ E' r j ≡ 𝟘
          nothing (yes k) =
              ap (λ a. minus a ⊗ E' r j) (leading t v l (omega (arith, before))) ∙ ap (λ a. a ⊗ E' r j) (rings.minus_zero R L)
              ∙ rings.zero_times R L (E' r j)
          nothing (no k) = ap (λ a. minus (E t v) ⊗ a) (new_front j (omega arith)) ∙ rings.times_zero R L (minus (E t v))

          at : Dec (r / 4 * 4 ≤ t) → E' t j ≡ 𝟘
          at (yes k) =
              g.group t j l k in_width ∙ ap (λ a. a ⊕ minus (E t v) ⊗ E' r j) (leading t j l before)
              ∙ ap (λ a. 𝟘 ⊕ a) (nothing (dec_le v j)) ∙ L.plus_zero 𝟘
          at (no k) = g.earlier t j (omega arith) in_width ∙ leading t j l before
