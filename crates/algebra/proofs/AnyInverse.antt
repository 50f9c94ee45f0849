-- What every quasiinverse D of A gives, on whatever rows and columns it was made: D w decides the system A x = w, for which A D A = A
-- is enough, and nothing less, and D has the rank of A. For A = A (D A), so that A and D A have the same row space; in the same way D and D A have the
-- same column space. Where A D A = A alone holds, D A D is a quasiinverse.
use mathlib.Core.Path.{◌≡◌, sym, ap, ◌∙◌, fun_ext, subst}
use mathlib.Core.Logic.{◌↔◌}
use Prim.Native.Nat.{ℕ, ◌<◌}
use Rattle.algebra.specs.Ring.{Ring, IsCommutativeRing, IsField}
use Rattle.algebra.specs.Matrix.{Vector, Matrix, Sized, unit, product, apply, transpose}
use Rattle.algebra.specs.Span.{IsCombination, Solves}
use Rattle.algebra.specs.Quasiinverse.{Absorbs, IsQuasiinverse}
use Rattle.algebra.specs.Chosen.{DecidesCombinations, chosen_columns, rank}
use Rattle.algebra.specs.Solve.{remainder}
use Rattle.algebra.proofs.Matrices as matrices
use Rattle.algebra.proofs.Applied.{product_row, apply_unit}
use Rattle.algebra.proofs.Sized.{absorbs_inside}
use Rattle.algebra.proofs.Transpose.{transpose_product, absorbs_transposed}
use Rattle.algebra.proofs.Unique.{absorbs_left}
use Rattle.algebra.proofs.Solve.{candidate_solves}
use Rattle.algebra.proofs.Fit.{remainder_zero, zero_remainder}
use Rattle.algebra.proofs.Marked.{columns_counted, same_span_rank}

-- ---- systems

module _ (R : Ring) (L : IsCommutativeRing R) {m n : ℕ} {A D : Matrix R} (E : Absorbs R m n A D) (w : Vector R) where
  -- D w leaves nothing over of w exactly if the system has a solution
  pub remainder_decides :
      ((i : ℕ) → i < m → remainder R n A (apply R m D w) w i ≡ R.zero) ↔ ((x : Vector R) × Solves R m n A x w)
  remainder_decides = (
    (λ h. (apply R m D w, λ i l. zero_remainder R L n A (apply R m D w) w i (h i l))),
    (λ (x, s) i l. remainder_zero R L n A (apply R m D w) w i (candidate_solves R L E x w s i l)),
  )

module _ (R : Ring) (L : IsCommutativeRing R) {m n : ℕ} {A : Matrix R} (sA : Sized R m n A) (D : Matrix R) where
  -- and no D without A D A = A solves every system that has a solution, as the columns of A show
  pub solves_absorbs : ((x : Vector R) → Solves R m n A (apply R m D (apply R n A x)) (apply R n A x)) → Absorbs R m n A D
  unfolding product apply
  solves_absorbs h =
      absorbs_inside R L sA D
      (λ i c k l.
      let column : apply R n A (λ t. unit R t c) ≡ (λ s. A s c) = fun_ext (λ s. apply_unit R L n A s c l) in
      subst (λ w. apply R n A (apply R m D w) i ≡ w i) column (h (λ t. unit R t c) i k))

-- ---- an inner inverse D makes a quasiinverse D A D

module _ (R : Ring) (L : IsCommutativeRing R) {m n : ℕ} {A D : Matrix R} (E : Absorbs R m n A D) where
  AD : Matrix R
  AD = product R n A D

  DAD : Matrix R
  DAD = product R m D (product R n A D)

  -- (A D)(A D) = A D
  idempotent : product R m AD AD ≡ AD
  unfolding AD
  idempotent =
      sym (matrices.product_assoc R L n m (product R n A D) A D) ∙ ap (λ X. product R n X D) (absorbs_left R L E)

  -- (D A D) A = D A and A (D A D) = A D
  right_factor : product R m DAD A ≡ product R m D A
  unfolding DAD
  right_factor = matrices.product_assoc R L m m D (product R n A D) A ∙ ap (product R m D) (absorbs_left R L E)

  left_factor : product R n A DAD ≡ AD
  unfolding AD DAD
  left_factor = sym (matrices.product_assoc R L m n A D (product R n A D)) ∙ idempotent

  pub quasiinverse_made : IsQuasiinverse R m n A (product R m D (product R n A D))
  unfolding AD DAD
  quasiinverse_made =
      record {
        absorbs = record { equation = ap (product R n A) right_factor ∙ E.equation };
        reflects =
            record {
              equation =
                  ap (product R m DAD) left_factor
                  ∙ matrices.product_assoc R L m m D (product R n A D) (product R n A D)
                  ∙ ap (product R m D) idempotent;
            };
      }

-- ---- ranks

module _ (R : Ring) (F : IsField R) (decide : DecidesCombinations R) where
  -- the transpose has the same rank
  pub rank_transposed : (m n : ℕ) (X : Matrix R) → rank R decide n m (transpose R X) ≡ rank R decide m n X
  unfolding rank chosen_columns
  rank_transposed m n X = columns_counted R F decide m n X

  -- the rows of X Y are combinations of those of Y
  product_spanned : (k n : ℕ) (X Y : Matrix R) (y : ℕ) → IsCombination R k n Y (product R k X Y y)
  product_spanned k n X Y y = (X y, λ j l. product_row R k X Y y j)

  -- where A D A = A, A and D A have the same rank
  rank_absorbed : (m n : ℕ) (A D : Matrix R) → Absorbs R m n A D → rank R decide m n A ≡ rank R decide n n (product R m D A)
  rank_absorbed m n A D E =
      same_span_rank R F decide m n n A (product R m D A)
      (λ y l. subst (λ X. IsCombination R n n (product R m D A) (X y)) E.equation (product_spanned n n A (product R m D A) y))
      (λ y l. product_spanned m n D A y)

  -- a quasiinverse has the rank of the table: D A has both
  pub quasiinverse_rank : {m n : ℕ} {A D : Matrix R} → IsQuasiinverse R m n A D → rank R decide n m D ≡ rank R decide m n A
  quasiinverse_rank {m} {n} {A} {D} Q =
      sym (rank_transposed n m D)
      ∙ rank_absorbed m n (transpose R D) (transpose R A) (absorbs_transposed R F.ring Q.reflects)
      ∙ ap (rank R decide n n) (sym (transpose_product R F.ring m D A))
      ∙ rank_transposed n n (product R m D A)
      ∙ sym (rank_absorbed m n A D Q.absorbs)
