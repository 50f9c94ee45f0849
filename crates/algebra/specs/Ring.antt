-- Commutative rings and fields: the operations are one record, the laws another, so that a definition which only
-- computes names no law.
use Rattle.std.specs.Prelude.{◌≡◌}

-- a carrier with the operations of a ring
pub record Ring : Type 1 where
  pub Carrier : Type 0
  pub zero : Carrier
  pub one : Carrier
  pub plus : Carrier → Carrier → Carrier
  pub times : Carrier → Carrier → Carrier
  pub minus : Carrier → Carrier

-- the laws of a commutative ring
pub record IsCommutativeRing (R : Ring) : Type 0 where
  pub plus_assoc : (a b c : R.Carrier) → R.plus (R.plus a b) c ≡ R.plus a (R.plus b c)
  pub plus_comm : (a b : R.Carrier) → R.plus a b ≡ R.plus b a
  pub plus_zero : (a : R.Carrier) → R.plus a R.zero ≡ a
  pub plus_minus : (a : R.Carrier) → R.plus a (R.minus a) ≡ R.zero
  pub times_assoc : (a b c : R.Carrier) → R.times (R.times a b) c ≡ R.times a (R.times b c)
  pub times_comm : (a b : R.Carrier) → R.times a b ≡ R.times b a
  pub times_one : (a : R.Carrier) → R.times a R.one ≡ a
  pub times_plus : (a b c : R.Carrier) → R.times a (R.plus b c) ≡ R.plus (R.times a b) (R.times a c)

-- the laws of a field whose equality is decided
pub record IsField (R : Ring) : Type 0 where
  pub ring : IsCommutativeRing R
  pub one_not_zero : R.one ≡ R.zero → ⊥
  pub inverse : R.Carrier → R.Carrier
  pub times_inverse : (a : R.Carrier) → (a ≡ R.zero → ⊥) → R.times a (inverse a) ≡ R.one
  pub equal? : (a b : R.Carrier) → Dec (a ≡ b)
