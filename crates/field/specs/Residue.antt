-- Residues modulo p, and the ring of them. 01, "The field and the tables": residues are numbers from 0 to p - 1; here a
-- residue is a number that `% p` leaves as it is, so that every operation is defined for every p.
use Rattle.std.specs.Prelude.{◌≡◌, ℕ, ◌+◌, ◌*◌, ◌-◌, ◌%◌}
use Rattle.std.proofs.Math.Nat.{mod-mod}
use Rattle.algebra.specs.Ring.{Ring}

pub record Residue (p : ℕ) : Type 0 where
  pub value : ℕ
  pub reduced : value % p ≡ value

-- the residue of a number
unfoldable pub reduce : (p : ℕ) → ℕ → Residue p
reduce p n = record { value = n % p; reduced = mod-mod n p }

infixl 60 ◌⊕◌
infixl 70 ◌⊗◌
-- the sum modulo p
unfoldable pub ◌⊕◌ : {p : ℕ} → Residue p → Residue p → Residue p
◌⊕◌ {p} a b = reduce p (a.value + b.value)

-- the product modulo p
unfoldable pub ◌⊗◌ : {p : ℕ} → Residue p → Residue p → Residue p
◌⊗◌ {p} a b = reduce p (a.value * b.value)

-- the negative modulo p
unfoldable pub negated : {p : ℕ} → Residue p → Residue p
negated {p} a = reduce p (p - a.value)

abbrev pub residues : ℕ → Ring
residues p =
    record {
      Carrier = Residue p;
      zero = reduce p 0;
      one = reduce p 1;
      plus = ◌⊕◌ {p = p};
      times = ◌⊗◌ {p = p};
      minus = negated {p = p};
    }
