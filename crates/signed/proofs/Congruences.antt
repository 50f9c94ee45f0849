-- A residue modulo p, and a record, reads with a low end as the one number in that range that is congruent to it (`IsReading`). Two numbers
-- congruent to a third differ by a multiple of p, and the range is too short for two of its numbers to do that, unless they are equal.
use mathlib.Core.Path.{◌≡◌, sym, ap, ◌∙◌, subst}
use Prim.Native.Nat.{ℕ, zero, suc, ◌+◌, ◌*◌, ◌-◌, ◌<◌, ◌≤◌}
use native.Mathlib.Omega.{arith}
use borrow.Author.Tests.{le-ltb}
use lib.IntN.{ℤ, pos, negsuc, neg_ℤ, suc_ℤ, pred_ℤ, ◌+ℤ◌, ◌-ℤ◌, ◌*ℤ◌, +ℤ_idl, +ℤ_idr, +ℤ_assoc, +ℤ_comm, +ℤ_invr, zero-*ℤ}
use lib.IntN.{suc_ℤ-+ℤ, pred_ℤ-+ℤ, suc_ℤ-*ℤ, pred_ℤ-*ℤ, -ℤ-+ℤ_cancel}
use Rattle.signed.specs.Reading.{reading, IsRecord, residue_of, Congruent, IsReading}
use Rattle.signed.proofs.Readings.{minus_above, le_of_pos, le_of_neg, read_elim, reading_is_record, reading_of_residue}

-- ---- sums and products

last_two : (a b c : ℤ) → (a +ℤ b) +ℤ c ≡ (a +ℤ c) +ℤ b
last_two a b c = +ℤ_assoc a b c ∙ ap (λ x. a +ℤ x) (+ℤ_comm b c) ∙ sym (+ℤ_assoc a c b)

-- one more, and one less, in the first factor of both
suc_times : (a b c : ℤ) → (a +ℤ b) *ℤ c ≡ a *ℤ c +ℤ b *ℤ c → (suc_ℤ a +ℤ b) *ℤ c ≡ suc_ℤ a *ℤ c +ℤ b *ℤ c
suc_times a b c e =
    ap (λ x. x *ℤ c) (suc_ℤ-+ℤ a b) ∙ suc_ℤ-*ℤ (a +ℤ b) c ∙ ap (λ x. x +ℤ c) e ∙ last_two (a *ℤ c) (b *ℤ c) c
    ∙ ap (λ x. x +ℤ b *ℤ c) (sym (suc_ℤ-*ℤ a c))

pred_times : (a b c : ℤ) → (a +ℤ b) *ℤ c ≡ a *ℤ c +ℤ b *ℤ c → (pred_ℤ a +ℤ b) *ℤ c ≡ pred_ℤ a *ℤ c +ℤ b *ℤ c
pred_times a b c e =
    ap (λ x. x *ℤ c) (pred_ℤ-+ℤ a b) ∙ pred_ℤ-*ℤ (a +ℤ b) c ∙ ap (λ x. x +ℤ neg_ℤ c) e ∙ last_two (a *ℤ c) (b *ℤ c) (neg_ℤ c)
    ∙ ap (λ x. x +ℤ b *ℤ c) (sym (pred_ℤ-*ℤ a c))

up_times : (n : ℕ) (b c : ℤ) → (pos n +ℤ b) *ℤ c ≡ pos n *ℤ c +ℤ b *ℤ c
up_times zero b c =
    ap (λ x. x *ℤ c) (+ℤ_idl b) ∙ sym (+ℤ_idl (b *ℤ c)) ∙ ap (λ x. x +ℤ b *ℤ c) (sym (zero-*ℤ c))
up_times (suc n) b c = suc_times (pos n) b c (up_times n b c)

down_times : (n : ℕ) (b c : ℤ) → (negsuc n +ℤ b) *ℤ c ≡ negsuc n *ℤ c +ℤ b *ℤ c
down_times zero b c = pred_times (pos zero) b c (up_times zero b c)
down_times (suc n) b c = pred_times (negsuc n) b c (down_times n b c)

plus_times : (a b c : ℤ) → (a +ℤ b) *ℤ c ≡ a *ℤ c +ℤ b *ℤ c
plus_times (pos n) = up_times n
plus_times (negsuc n) = down_times n

-- ---- two numbers congruent to a third

module _ (p : ℕ) where
  congruent_both : (x y z : ℤ) → Congruent p x z → Congruent p y z → Congruent p x y
  congruent_both x y z (k, e) (l, f) = (k +ℤ neg_ℤ l, e ∙ sym again)
    where
      P : ℤ
      P = pos p

      no_more : l *ℤ P +ℤ neg_ℤ l *ℤ P ≡ pos 0
      no_more = sym (plus_times l (neg_ℤ l) P) ∙ ap (λ a. a *ℤ P) (+ℤ_invr l) ∙ zero-*ℤ P

      again : y +ℤ (k +ℤ neg_ℤ l) *ℤ P ≡ z +ℤ k *ℤ P
      again =
          ap (λ a. y +ℤ a) (plus_times k (neg_ℤ l) P ∙ +ℤ_comm (k *ℤ P) (neg_ℤ l *ℤ P))
          ∙ ap (λ a. a +ℤ (neg_ℤ l *ℤ P +ℤ k *ℤ P)) f
          ∙ +ℤ_assoc z (l *ℤ P) (neg_ℤ l *ℤ P +ℤ k *ℤ P)
          ∙ ap (λ a. z +ℤ a)
          (sym (+ℤ_assoc (l *ℤ P) (neg_ℤ l *ℤ P) (k *ℤ P)) ∙ ap (λ a. a +ℤ k *ℤ P) no_more ∙ +ℤ_idl (k *ℤ P))

  pub congruent_self : (z : ℤ) → Congruent p z z
  congruent_self z = (pos 0, sym (ap (λ a. z +ℤ a) (zero-*ℤ (pos p)) ∙ +ℤ_idr z))

  chain : (x y z : ℤ) → Congruent p x y → Congruent p y z → Congruent p x z
  chain x y z c d = congruent_both x z y c (congruent_both z y z (congruent_self z) d)

  -- ---- in one range they are equal

  module _ (low : ℕ) (k : low < p) where
    -- a multiple of p that is not 0 leads out of the range
    too_far : (x y : ℤ) (a : ℕ) → IsRecord p low x → IsRecord p low y → x ≡ y +ℤ pos (suc a * p) → ⊥
    too_far x (pos m) a r s e =
        let r' : IsRecord p low (pos (m + suc a * p)) = subst (IsRecord p low) e r in
        let h : m + suc a * p ≤ p - 1 - low = le_of_pos r'.greatest in
        omega arith
    too_far x (negsuc m) a r s e =
        let h : m < low = le_of_neg low m s.least in
        let q = suc a * p in
        let far : suc m ≤ q = omega arith in
        let e' : x ≡ pos (q - suc m) = rw (le-ltb q (suc m) far) at e in
        let r' : IsRecord p low (pos (q - suc m)) = subst (IsRecord p low) e' r in
        let g : q - suc m ≤ p - 1 - low = le_of_pos r'.greatest in
        omega arith

    pub congruent_equal : (x y : ℤ) → IsRecord p low x → IsRecord p low y → Congruent p x y → x ≡ y
    congruent_equal x y r s (pos zero, e) = e ∙ ap (λ a. y +ℤ a) (zero-*ℤ (pos p)) ∙ +ℤ_idr y
    congruent_equal x y r s (pos (suc a), e) = absurd (too_far x y a r s e)
    congruent_equal x y r s (negsuc a, e) =
        let q = pos (suc a * p) in
        absurd (too_far y x a s r (sym (-ℤ-+ℤ_cancel y q) ∙ ap (λ b. b +ℤ q) (sym e)))

    -- so a number of the range that is congruent to z is what z reads as
    pub reads_as : (z y : ℤ) → IsRecord p low y → Congruent p y z → IsReading p low z y
    reads_as z y r c =
        record { in_range = r; congruent = c; only = λ x s d. congruent_equal x y s r (congruent_both x y z d c) }

    -- ---- the reading is one

    -- p less, and p more
    less_congruent : (v : ℕ) → v < p → Congruent p (neg_ℤ (pos (p - v))) (pos v)
    less_congruent v l =
        let once : p ≡ 1 * p = omega arith in
        (negsuc 0, sym (minus_above v p l) ∙ ap (λ q. pos v -ℤ pos q) once)

    more_congruent : (n : ℕ) → suc n ≤ p → Congruent p (pos (p - suc n)) (negsuc n)
    more_congruent n l =
        let once : p ≡ 1 * p = omega arith in
        (pos 1, sym (rw (le-ltb p (suc n) l)) ∙ ap (λ q. negsuc n +ℤ pos q) once)

    reading_congruent : (v : ℕ) → v < p → Congruent p (reading p low v) (pos v)
    reading_congruent v l = read_elim (λ z. Congruent p z (pos v)) p low v l (λ _. congruent_self (pos v)) (λ _. less_congruent v l)

    -- a residue reads as its reading
    pub residue_reads : (v : ℕ) → v < p → IsReading p low (pos v) (reading p low v)
    residue_reads v l = reads_as (pos v) (reading p low v) (reading_is_record p low v k l) (reading_congruent v l)

    -- and so does a record of any range: the reading of its residue
    residue_congruent : (z : ℤ) (other : ℕ) → other < p → IsRecord p other z → Congruent p (pos (residue_of p z)) z
    unfolding residue_of
    residue_congruent (pos n) other l r = congruent_self (pos n)
    residue_congruent (negsuc n) other l r =
        let h : n < other = le_of_neg other n r.least in more_congruent n (omega arith)

    pub record_reads : (z : ℤ) (other : ℕ) → other < p → IsRecord p other z → IsReading p low z (reading p low (residue_of p z))
    record_reads z other l r =
        let v = residue_of p z in
        let below = (reading_of_residue p other z l r).0 in
        reads_as z (reading p low v) (reading_is_record p low v k below)
        (chain (reading p low v) (pos v) z (reading_congruent v below) (residue_congruent z other l r))
