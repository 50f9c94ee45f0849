-- What follows from the laws of a commutative ring: the mirrored laws, zero and the negative.
use mathlib.Core.Path.{◌≡◌, sym, ap, ◌∙◌}
use Rattle.algebra.specs.Ring.{Ring, IsCommutativeRing}

module _ (R : Ring) (L : IsCommutativeRing R) where
  open R use {Carrier, zero as 𝟘, one as 𝟙, plus as ◌⊕◌, times as ◌⊗◌, minus}

  infixl 60 ◌⊕◌
  infixl 70 ◌⊗◌
  pub zero_plus : (a : Carrier) → 𝟘 ⊕ a ≡ a
  zero_plus a = L.plus_comm 𝟘 a ∙ L.plus_zero a

  pub minus_plus : (a : Carrier) → minus a ⊕ a ≡ 𝟘
  minus_plus a = L.plus_comm (minus a) a ∙ L.plus_minus a

  pub one_times : (a : Carrier) → 𝟙 ⊗ a ≡ a
  one_times a = L.times_comm 𝟙 a ∙ L.times_one a

  pub plus_times : (a b c : Carrier) → (a ⊕ b) ⊗ c ≡ (a ⊗ c) ⊕ (b ⊗ c)
  plus_times a b c = L.times_comm (a ⊕ b) c ∙ L.times_plus c a b ∙ (λ i. L.times_comm c a i ⊕ L.times_comm c b i)

  -- a sum is its own summand only by adding zero
  pub plus_cancel : (a b : Carrier) → a ⊕ b ≡ a → b ≡ 𝟘
  plus_cancel a b e =
      sym (zero_plus b)
      ∙ ap (λ x. x ⊕ b) (sym (minus_plus a))
      ∙ L.plus_assoc (minus a) a b
      ∙ ap (λ x. minus a ⊕ x) e
      ∙ minus_plus a

  pub times_zero : (a : Carrier) → a ⊗ 𝟘 ≡ 𝟘
  times_zero a = plus_cancel (a ⊗ 𝟘) (a ⊗ 𝟘) (sym (L.times_plus a 𝟘 𝟘) ∙ ap (λ x. a ⊗ x) (L.plus_zero 𝟘))

  pub zero_times : (a : Carrier) → 𝟘 ⊗ a ≡ 𝟘
  zero_times a = L.times_comm 𝟘 a ∙ times_zero a

  -- what adds up to zero with a is its negative
  pub minus_unique : (a b : Carrier) → a ⊕ b ≡ 𝟘 → b ≡ minus a
  minus_unique a b e =
      sym (zero_plus b)
      ∙ ap (λ x. x ⊕ b) (sym (minus_plus a))
      ∙ L.plus_assoc (minus a) a b
      ∙ ap (λ x. minus a ⊕ x) e
      ∙ L.plus_zero (minus a)

  pub minus_zero : minus 𝟘 ≡ 𝟘
  minus_zero = sym (minus_unique 𝟘 𝟘 (L.plus_zero 𝟘))

  pub minus_minus : (a : Carrier) → minus (minus a) ≡ a
  minus_minus a = sym (minus_unique (minus a) a (minus_plus a))

  pub times_minus : (a b : Carrier) → a ⊗ minus b ≡ minus (a ⊗ b)
  times_minus a b =
      minus_unique (a ⊗ b) (a ⊗ minus b) (sym (L.times_plus a b (minus b)) ∙ ap (λ x. a ⊗ x) (L.plus_minus b) ∙ times_zero a)

  pub minus_times : (a b : Carrier) → minus a ⊗ b ≡ minus (a ⊗ b)
  minus_times a b = L.times_comm (minus a) b ∙ times_minus b a ∙ ap minus (L.times_comm b a)

  pub plus_left_comm : (a b c : Carrier) → a ⊕ (b ⊕ c) ≡ b ⊕ (a ⊕ c)
  plus_left_comm a b c = sym (L.plus_assoc a b c) ∙ ap (λ x. x ⊕ c) (L.plus_comm a b) ∙ L.plus_assoc b a c

  -- the middle two of four summands change places
  pub plus_middle : (a b c d : Carrier) → (a ⊕ b) ⊕ (c ⊕ d) ≡ (a ⊕ c) ⊕ (b ⊕ d)
  plus_middle a b c d =
      L.plus_assoc a b (c ⊕ d) ∙ ap (λ x. a ⊕ x) (plus_left_comm b c d) ∙ sym (L.plus_assoc a c (b ⊕ d))

  pub minus_of_plus : (a b : Carrier) → minus (a ⊕ b) ≡ minus a ⊕ minus b
  minus_of_plus a b =
      sym
      (minus_unique (a ⊕ b) (minus a ⊕ minus b)
      (plus_middle a b (minus a) (minus b)
      ∙ (λ i. L.plus_minus a i ⊕ L.plus_minus b i)
      ∙ L.plus_zero 𝟘))

  -- a difference is zero exactly between equals
  pub difference_zero : (a b : Carrier) → a ⊕ minus b ≡ 𝟘 → a ≡ b
  difference_zero a b e = sym (minus_minus a) ∙ ap minus (sym (minus_unique a (minus b) e)) ∙ minus_minus b

  pub plus_difference : (a b : Carrier) → a ⊕ (b ⊕ minus a) ≡ b
  plus_difference a b = plus_left_comm a b (minus a) ∙ ap (λ x. b ⊕ x) (L.plus_minus a) ∙ L.plus_zero b
