-- The numbers of the kernel vector of a column without a pivot, from the reduced form: row j of D A is a row of it, or zeros.
use mathlib.Core.Path.{◌≡◌, sym, ap, ap₂, ◌∙◌}
use mathlib.Core.List.{List}
use Prim.Native.Nat.{ℕ, suc, ◌+◌, ◌*◌, ◌-◌}
use native.Mathlib.Omega.{arith}
use lib.ListN.{get_or}
use Rattle.algebra.specs.Matrix.{unit}
use Rattle.algebra.specs.Kernel.{kernel_vector}
use Rattle.algebra.proofs.Applied.{less_zero}
use Rattle.algebra.proofs.Sums.{unit_same, unit_other}
use Rattle.field.specs.Residue.{Residue, residues, reduce, ◌⊕◌, negated}
use Rattle.field.proofs.Field.{residues_ring}
use Rattle.field.proofs.Residues.{reduce_small}
use Rattle.matrix.specs.Parts.{ReducedRows, IsFree}

module _ {p n : ℕ} {at e : List ℕ} (h : ReducedRows p n at e) (c j : ℕ) where
  -- number j of the vector of column c
  abbrev entry : Residue p
  entry = kernel_vector (residues p) h.m h.D h.A c j

  -- where j has no pivot either
  no_pivot : get_or at j 0 ≡ 0 → entry ≡ unit (residues p) j c
  unfolding kernel_vector
  no_pivot z = less_zero (residues p) (residues_ring p (omega (arith, h.is_modulus.prime.two_or_more))) (unit (residues p) j c) _ (h.zeros j c z)

  pub own_number : get_or at j 0 ≡ 0 → j ≡ c → 1 ≡ entry.value
  own_number z d =
      sym (reduce_small p 1 h.is_modulus.prime.two_or_more)
      ∙ ap (λ v. v.value) (sym (no_pivot z ∙ ap (unit (residues p) j) (sym d) ∙ unit_same (residues p) j))

  pub other_number : get_or at j 0 ≡ 0 → (j ≡ c → ⊥) → 0 ≡ entry.value
  other_number z d =
      sym (reduce_small p 0 (omega (arith, h.is_modulus.prime.two_or_more)))
      ∙ ap (λ v. v.value) (sym (no_pivot z ∙ unit_other (residues p) j c d))

  -- where j has a pivot: what its row's number at c gives
  module _ (pivot : get_or at j 0 ≡ 0 → ⊥) where
    pub pivot_number : IsFree n at c → (r : ℕ) → r ≡ (reduce p 0 ⊕ negated (reduce p (get_or e ((get_or at j 0 - 1) * n + c) 0))).value
        → r ≡ entry.value
    unfolding kernel_vector
    pivot_number free r x =
        let row : get_or at j 0 ≡ suc (get_or at j 0 - 1) = omega arith in
        x
        ∙ ap₂ (λ u v. (u ⊕ negated v).value) (sym (unit_other (residues p) j c (λ d. pivot (ap (λ q. get_or at q 0) d ∙ free.1))))
        (h.row j (get_or at j 0 - 1) c row free.0)
