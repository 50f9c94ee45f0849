-- The recursion of Algorithm Q on tables in memory: from the quasiinverses of the two halves, with -T and C as the step between
-- leaves them and G and E - G T as the step after them does, algebra's `step` gives the quasiinverse of the whole table.
use mathlib.Core.Path.{◌≡◌, refl, ap, ◌∙◌}
use mathlib.Core.List.{List}
use Prim.Native.Nat.{ℕ, ◌+◌, ◌*◌, ◌≤◌}
use native.Mathlib.Omega.{arith}
use lib.ListN.{drop}
use Rattle.algebra.specs.Ring.{IsField}
use Rattle.algebra.specs.Matrix.{Matrix, add, negative, product}
use Rattle.algebra.specs.Quasiinverse.{Marks, either, follow, IsPivotInverse}
use Rattle.algebra.proofs.Matrices.{product_negative, negative_product}
use Rattle.algebra.proofs.Step.{step}
use Rattle.checks.specs.Prime.{IsModulus}
use Rattle.field.specs.Residue.{residues}
use Rattle.field.specs.View.{table}
use Rattle.field.proofs.Field.{residues_field}
use Rattle.matrix_mul.specs.Places.{place, Kept}
use Rattle.matrix_inverse.specs.Steps.{split, Reduced, Joined}
use Rattle.matrix_mul.proofs.Places.{table_kept}
use Rattle.matrix_inverse.proofs.ElimTables.{table_stack, table_beside}

module _ (p m₁ m₂ n : ℕ) (a d₁ d₂ d₃ : List ℕ) (at stride : ℕ) (t c t₁ c₁ : List ℕ) (I₁ I₂ J₁ J₂ : Marks)
    (is_modulus : IsModulus p)
    (fits : at + (m₁ + m₂) ≤ stride)
    (Q₁ : IsPivotInverse (residues p) m₁ n (table p a 0 n m₁ n) (table p d₁ at stride n m₁) I₁ J₁)
    (reduced : Reduced p (split m₁ m₂ n) a (drop (m₁ * n) a) d₁ (place at stride) t c t₁ c₁)
    (kept : Kept p d₁ d₂ (place (at + m₁) stride) n m₂)
    (Q₂ : IsPivotInverse (residues p) m₂ n (table p c₁ 0 n m₂ n) (table p d₂ (at + m₁) stride n m₂) I₂ J₂)
    (joined : Joined p (split m₁ m₂ n) a t₁ d₂ d₃ (place at stride))
  where
    field : IsField (residues p)
    field = residues_field p is_modulus.prime

    B : Matrix (residues p)
    B = table p a 0 n m₁ n

    K : Matrix (residues p)
    K = table p (drop (m₁ * n) a) 0 n m₂ n

    E : Matrix (residues p)
    E = table p d₁ at stride n m₁

    F : Matrix (residues p)
    F = table p d₂ (at + m₁) stride n m₂

    C : Matrix (residues p)
    C = table p c₁ 0 n m₂ n

    G : Matrix (residues p)
    G = table p d₃ (at + m₁) stride n m₂

    X : Matrix (residues p)
    X = table p d₃ at stride n m₁

    T : Matrix (residues p)
    T = product (residues p) n K E

    -- the call for the lower rows has left E as it was
    E_stays : table p d₂ at stride n m₁ ≡ E
    unfolding E
    E_stays = table_kept at n m₁ (omega arith) (omega arith) (λ j l h b e. omega arith) kept

    is_C : C ≡ add (residues p) K (negative (residues p) (product (residues p) m₁ T B))
    unfolding B K E C T
    is_C =
        reduced.is_C
        ∙ ap (λ Y. add (residues p) K (product (residues p) m₁ Y B)) reduced.is_T
        ∙ ap (add (residues p) K) (negative_product (residues p) field.ring m₁ T B)

    is_G : G ≡ add (residues p) F (negative (residues p) (product (residues p) m₁ E (product (residues p) n B F)))
    unfolding B E F G
    is_G =
        joined.is_G
        ∙ ap (λ Y. add (residues p) F (negative (residues p) (product (residues p) m₁ Y (product (residues p) n B F)))) E_stays

    is_X : X ≡ add (residues p) E (negative (residues p) (product (residues p) m₂ G T))
    unfolding K E G X T
    is_X =
        joined.is_X
        ∙ ap (λ Y. add (residues p) Y (product (residues p) m₂ G (table p t₁ 0 m₁ m₂ m₁))) E_stays
        ∙ ap (λ Y. add (residues p) E (product (residues p) m₂ G Y)) reduced.is_T
        ∙ ap (add (residues p) E) (product_negative (residues p) field.ring m₂ G T)

    pub whole_quasiinverse :
        IsPivotInverse (residues p) (m₁ + m₂) n (table p a 0 n (m₁ + m₂) n) (table p d₃ at stride n (m₁ + m₂)) (either I₁ I₂)
        (follow m₁ J₁ J₂)
    unfolding B K E F C G X T
    whole_quasiinverse =
        rw (table_stack p a m₁ m₂ n, table_beside p d₃ at stride n m₁ m₂)
        (step (residues p) field.ring field.one_not_zero m₁ m₂ n B K E F T C G X I₁ I₂ J₁ J₂ refl is_C is_G is_X Q₁ Q₂)
