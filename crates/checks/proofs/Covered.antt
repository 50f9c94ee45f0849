-- What a part of the table tells of p, over plain numbers. Where no product of p with an entry is low, no number that the part
-- covers divides p: a number with an entry would have a low product, and any other has a smaller divisor. Where one is low, the
-- number of that entry divides p.
use mathlib.Core.Path.{◌≡◌, refl, subst}
use mathlib.Core.Bool.{Bool, true, false}
use mathlib.Core.List.{List, [], ◌∷◌}
use Prim.Native.Nat.{ℕ, zero, suc, ◌+◌, ◌*◌, ◌-◌, ◌/◌, ◌%◌, ◌≤◌, ◌<◌, ◌∣◌}
use native.Mathlib.Nat.{dvd_trans, dvd_of_mod-eq-zero, mul-le-mul_right, le-div_iff_mul-le}
use native.Mathlib.Omega.{arith}
use lib.Dec.{T, leb, ltb, eqb, leb→le, ltb→lt, eqb→eq}
use lib.ListN.{length, get_or}
use Rattle.checks.specs.Prime.{IsModulus, NoneBelow, largest_modulus}
use Rattle.checks.specs.Inverses.{word_base, both, small, divides, ones, covers, start, is_part, part_size, Part, Strikes}
use Rattle.checks.proofs.Trial.{one_more}
use Rattle.checks.proofs.Wrapped.{multiple_low, low_multiple, one_high}

both_left : (a b : Bool) → T (both a b) → T a
both_left true b t = tt
both_left false b t = t

both_right : (a b : Bool) → T (both a b) → T b
both_right true b t = t
both_right false b t = absurd t

-- a number with a divisor does not divide p, where no smaller one does
passed_over : (ds : List ℕ) (n p : ℕ) → T (divides ds n) → NoneBelow n p → n ∣ p → ⊥
unfolding divides
passed_over [] n p t below v = t
passed_over (d ∷ ds) n p t below v = go (n % d) refl (λ h. passed_over ds n p h below v) t
  where
    go :
        (r : ℕ) →
        n % d ≡ r →
        (T (divides ds n) → ⊥) →
        T (elim r [ zero ↦ both (ltb 1 d) (ltb d n) | suc r ↦ divides ds n ]) →
        ⊥
    go zero e later h =
        below d (ltb→lt 1 d (both_left (ltb 1 d) (ltb d n) h)) (ltb→lt d n (both_right (ltb 1 d) (ltb d n) h))
        (dvd_trans d (dvd_of_mod-eq-zero d e) v)
    go (suc r) e later h = later h

-- a divisor of p from n up to e
record DivisorIn (n e p : ℕ) : Type 0 where
  divisor : ℕ
  from : n ≤ divisor
  below : divisor < e
  divides_p : divisor ∣ p

module _ (p s : ℕ) (two : 2 ≤ p) (range : p ≤ largest_modulus) (above : 1 < s) where
  -- the numbers covered, where no product is low
  none_covered :
      (k n : ℕ) (vs : List ℕ) →
      T (covers k n vs) →
      s ≤ n →
      ((j : ℕ) → j < length vs → p * get_or vs j 0 % word_base ≤ p / s → ⊥) →
      NoneBelow n p →
      NoneBelow (n + k) p
  unfolding covers
  none_covered zero n vs t l high below e h u v = below e h (omega arith) v
  none_covered (suc k) n [] t l high below e h u v =
      let f = both_left (divides small n) (covers k (suc n) []) t in
      none_covered k (suc n) [] (both_right (divides small n) (covers k (suc n) []) t) (omega arith) high
      (one_more n p below (passed_over small n p f below))
      e h (omega arith) v
  none_covered (suc k) n (w ∷ vs) t l high below e h u v =
      go (eqb (n * w % word_base) 1) (eqb→eq (n * w % word_base) 1)
      (λ r not. none_covered k (suc n) vs r (omega arith) (λ j i. high (suc j) (omega arith)) (one_more n p below not) e h (omega arith) v)
      (λ r not. none_covered k (suc n) (w ∷ vs) r (omega arith) high (one_more n p below not) e h (omega arith) v)
      t
    where
      go :
          (b : Bool) →
          (T b → n * w % word_base ≡ 1) →
          (T (covers k (suc n) vs) → (n ∣ p → ⊥) → ⊥) →
          (T (covers k (suc n) (w ∷ vs)) → (n ∣ p → ⊥) → ⊥) →
          T (elim b [ true ↦ covers k (suc n) vs | false ↦ both (divides small n) (covers k (suc n) (w ∷ vs)) ]) →
          ⊥
      go true inverse taken passed r =
          taken r (λ d. high 0 (omega arith) (multiple_low p n w s (inverse tt) (omega arith) l (omega arith) d))
      go false inverse taken passed r =
          passed (both_right (divides small n) (covers k (suc n) (w ∷ vs)) r)
          (passed_over small n p (both_left (divides small n) (covers k (suc n) (w ∷ vs)) r) below)

  -- the ones that fill a part have no low product
  ones_high : (vs : List ℕ) → T (ones vs) → (j : ℕ) → j < length vs → p * get_or vs j 0 % word_base ≤ p / s → ⊥
  unfolding ones
  ones_high [] t j i low = omega arith
  ones_high (w ∷ vs) t zero i low =
      one_high p s (omega arith) above (omega arith)
      (subst (λ (n : ℕ). p * n % word_base ≤ p / s) (eqb→eq w 1 (both_left (eqb w 1) (ones vs) t)) low)
  ones_high (w ∷ vs) t (suc j) i low = ones_high vs (both_right (eqb w 1) (ones vs) t) j (omega arith) low

  -- the number of an entry with a low product
  one_covered :
      (k n : ℕ) (vs : List ℕ) →
      T (covers k n vs) →
      n + k ≤ 2 * s →
      (j : ℕ) →
      j < length vs →
      p * get_or vs j 0 % word_base ≤ p / s →
      DivisorIn n (n + k) p
  unfolding covers
  one_covered zero n vs t l j i low = absurd (ones_high vs t j i low)
  one_covered (suc k) n [] t l j i low = absurd (omega arith)
  one_covered (suc k) n (w ∷ vs) t l j i low =
      go (eqb (n * w % word_base) 1) (eqb→eq (n * w % word_base) 1)
      (λ r j i low. later (one_covered k (suc n) vs r (omega arith) j i low))
      (λ r. later (one_covered k (suc n) (w ∷ vs) r (omega arith) j i low))
      t j i low
    where
      later : DivisorIn (suc n) (suc n + k) p → DivisorIn n (n + suc k) p
      later d = record { divisor = d.divisor; from = omega (arith, d.from); below = omega (arith, d.below); divides_p = d.divides_p }

      go :
          (b : Bool) →
          (T b → n * w % word_base ≡ 1) →
          (T (covers k (suc n) vs) → (j : ℕ) → j < length vs → p * get_or vs j 0 % word_base ≤ p / s → DivisorIn n (n + suc k) p) →
          (T (covers k (suc n) (w ∷ vs)) → DivisorIn n (n + suc k) p) →
          T (elim b [ true ↦ covers k (suc n) vs | false ↦ both (divides small n) (covers k (suc n) (w ∷ vs)) ]) →
          (j : ℕ) →
          j < length (w ∷ vs) →
          p * get_or (w ∷ vs) j 0 % word_base ≤ p / s →
          DivisorIn n (n + suc k) p
      go true inverse taken passed r zero i low =
          record {
            divisor = n;
            from = omega arith;
            below = omega arith;
            divides_p = low_multiple p n w s (inverse tt) (omega arith) (omega arith) low;
          }
      go true inverse taken passed r (suc j) i low = taken r j (omega arith) low
      go false inverse taken passed r j i low = passed (both_right (divides small n) (covers k (suc n) (w ∷ vs)) r)

-- what was computed of a part with the start f, up to e
record Facts (k f e : ℕ) (vs : List ℕ) : Type 0 where
  first : f ≡ start k
  rising : f < e
  doubled : e ≤ 2 * f
  covering : T (covers (e - f) f vs)

facts : (k f : ℕ) (vs : List ℕ) → T (is_part k (f ∷ vs)) → Facts k f (start (suc k)) vs
unfolding is_part
facts k f vs t = go (start (suc k)) t
  where
    go : (e : ℕ) → T (both (eqb f (start k)) (both (ltb f e) (both (leb e (2 * f)) (covers (e - f) f vs)))) → Facts k f e vs
    go e t =
        let cover = covers (e - f) f vs in
        let double = both (leb e (2 * f)) cover in
        let t₁ = both_right (eqb f (start k)) (both (ltb f e) double) t in
        let t₂ = both_right (ltb f e) double t₁ in
        record {
          first = eqb→eq f (start k) (both_left (eqb f (start k)) (both (ltb f e) double) t);
          rising = ltb→lt f e (both_left (ltb f e) double t₁);
          doubled = leb→le e (2 * f) (both_left (leb e (2 * f)) cover t₂);
          covering = both_right (leb e (2 * f)) cover t₂;
        }

-- the first number of a part is its start, which is below the next part's
pub part_first : (k : ℕ) (ws : List ℕ) → Part k ws → get_or ws 0 0 ≡ start k
unfolding is_part
part_first k [] part = absurd part.computed
part_first k (f ∷ vs) part = (facts k f vs part.computed).first

pub part_rises : (k : ℕ) (ws : List ℕ) → Part k ws → start k < start (suc k)
unfolding is_part
part_rises k [] part = absurd part.computed
part_rises k (f ∷ vs) part =
    let a = facts k f vs part.computed in
    omega (arith, a.first, a.rising)

-- past a part with no low product the search stands at the next part's start
pub part_passed :
    (p k : ℕ) (ws : List ℕ) →
    2 ≤ p →
    p ≤ largest_modulus →
    1 < start k →
    Part k ws →
    (Strikes p (p / get_or ws 0 0) ws → ⊥) →
    NoneBelow (start k) p →
    NoneBelow (start (suc k)) p
unfolding is_part
part_passed p k [] two range above part high below e h l v = absurd part.computed
part_passed p k (f ∷ vs) two range above part high below e h l v =
    let a = facts k f vs part.computed in
    none_covered p f two range (omega (arith, a.first)) (start (suc k) - f) f vs a.covering (omega arith)
    (λ j i low. high (record { place = suc j; past_start = omega arith; inside = omega (arith, part.size); low = low }))
    (rw a.first below) e h (omega (arith, a.rising)) v

-- a low product refutes that p is a modulus, where the square of the part's start is at most p
pub part_strikes :
    (p k : ℕ) (ws : List ℕ) →
    2 ≤ p →
    p ≤ largest_modulus →
    1 < get_or ws 0 0 →
    get_or ws 0 0 ≤ p / get_or ws 0 0 →
    Part k ws →
    Strikes p (p / get_or ws 0 0) ws →
    IsModulus p →
    ⊥
unfolding is_part
part_strikes p k [] two range above l part struck m = absurd part.computed
part_strikes p k (f ∷ vs) two range above l part struck m = go struck.place struck.past_start struck.inside struck.low
  where
    a : Facts k f (start (suc k)) vs
    a = facts k f vs part.computed

    found : DivisorIn f (f + (start (suc k) - f)) p → ⊥
    found d =
        let positive : 0 < f = omega arith in
        let square : f * f ≤ p = (le-div_iff_mul-le positive).0 l in
        let inside : d.divisor < p = omega (arith, d.below, a.rising, a.doubled, mul-le-mul_right f above) in
        m.prime.no_divisor d.divisor (omega (arith, d.from)) inside d.divides_p

    go : (j : ℕ) → 0 < j → j < part_size → p * get_or (f ∷ vs) j 0 % word_base ≤ p / f → ⊥
    go zero h i low = omega arith
    go (suc j) h i low =
        found
        (one_covered p f two range above (start (suc k) - f) f vs a.covering (omega (arith, a.rising, a.doubled)) j
        (omega (arith, part.size)) low)
