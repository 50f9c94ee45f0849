-- Theorems 1 and 2 of document 001 for a table cut into its upper rows B and its lower rows K. E is a quasiinverse of B
-- and F one of the reduced table C = K - TB with T = KE; then, with G = F - E(BF), the table [E - GT | G] is one of the
-- whole. The equations are variables of the section, so that code which has made T, C and G can hand them in.
use mathlib.Core.Path.{◌≡◌, sym, ap, ◌∙◌}
use Prim.Native.Nat.{ℕ, ◌+◌}
use Rattle.algebra.specs.Ring.{Ring, IsCommutativeRing}
use Rattle.algebra.specs.Matrix.{Matrix, zeros, add, negative, product, stack, beside}
use Rattle.algebra.proofs.Matrices as matrices
use Rattle.algebra.proofs.Blocks as blocks

module _ (R : Ring) (L : IsCommutativeRing R) (m₁ m₂ n : ℕ) (B K E F T C G X : Matrix R)
    (is_T : T ≡ product R n K E)
    (is_C : C ≡ add R K (negative R (product R m₁ T B)))
    (is_G : G ≡ add R F (negative R (product R m₁ E (product R n B F))))
    (is_X : X ≡ add R E (negative R (product R m₂ G T)))
  where
    -- K E B = T B
    lower_times : product R n K (product R m₁ E B) ≡ product R m₁ T B
    lower_times = sym (matrices.product_assoc R L m₁ n K E B) ∙ ap (λ Y. product R m₁ Y B) (sym is_T)

    -- D A = E B + G C
    pub whole : product R (m₁ + m₂) (beside R m₁ X G) (stack R m₁ B K) ≡ add R (product R m₁ E B) (product R m₂ G C)
    whole =
        blocks.beside_stack R L m₁ m₂ X G B K
        ∙ ap (λ Y. add R Y (product R m₂ G K)) left
        ∙ matrices.add_assoc R L (product R m₁ E B) (negative R (product R m₂ G (product R m₁ T B))) (product R m₂ G K)
        ∙ ap (add R (product R m₁ E B)) right
      where
        left : product R m₁ X B ≡ add R (product R m₁ E B) (negative R (product R m₂ G (product R m₁ T B)))
        left =
            ap (λ Y. product R m₁ Y B) is_X
            ∙ matrices.difference_product R L m₁ E (product R m₂ G T) B
            ∙ ap (λ Y. add R (product R m₁ E B) (negative R Y)) (matrices.product_assoc R L m₁ m₂ G T B)

        right : add R (negative R (product R m₂ G (product R m₁ T B))) (product R m₂ G K) ≡ product R m₂ G C
        right =
            matrices.add_comm R L (negative R (product R m₂ G (product R m₁ T B))) (product R m₂ G K)
            ∙ sym (matrices.product_difference R L m₂ G K (product R m₁ T B))
            ∙ ap (product R m₂ G) (sym is_C)

    -- G C = F C - (E B)(F C)
    pub second : product R m₂ G C ≡ add R (product R m₂ F C) (negative R (product R n (product R m₁ E B) (product R m₂ F C)))
    second =
        ap (λ Y. product R m₂ Y C) is_G
        ∙ matrices.difference_product R L m₂ F (product R m₁ E (product R n B F)) C
        ∙ ap (λ Y. add R (product R m₂ F C) (negative R Y))
        (matrices.product_assoc R L m₂ m₁ E (product R n B F) C
        ∙ ap (product R m₁ E) (matrices.product_assoc R L m₂ n B F C)
        ∙ sym (matrices.product_assoc R L n m₁ E B (product R m₂ F C)))

    module _ (absorbs-B : product R n B (product R m₁ E B) ≡ B) where
      -- B G = 0
      pub upper_right : product R n B G ≡ zeros R
      upper_right =
          ap (product R n B) is_G
          ∙ matrices.product_difference R L n B F (product R m₁ E (product R n B F))
          ∙ ap (λ Y. add R (product R n B F) (negative R Y)) again
          ∙ matrices.add_negative R L (product R n B F)
        where
          again : product R n B (product R m₁ E (product R n B F)) ≡ product R n B F
          again =
              ap (product R n B) (sym (matrices.product_assoc R L n m₁ E B F))
              ∙ sym (matrices.product_assoc R L n n B (product R m₁ E B) F)
              ∙ ap (λ Y. product R n Y F) absorbs-B

      -- K G = C F
      pub lower_right : product R n K G ≡ product R n C F
      lower_right =
          ap (product R n K) is_G
          ∙ matrices.product_difference R L n K F (product R m₁ E (product R n B F))
          ∙ ap (λ Y. add R (product R n K F) (negative R Y)) reached
          ∙ sym (matrices.difference_product R L n K (product R m₁ T B) F)
          ∙ ap (λ Y. product R n Y F) (sym is_C)
        where
          reached : product R n K (product R m₁ E (product R n B F)) ≡ product R n (product R m₁ T B) F
          reached =
              ap (product R n K) (sym (matrices.product_assoc R L n m₁ E B F))
              ∙ sym (matrices.product_assoc R L n n K (product R m₁ E B) F)
              ∙ ap (λ Y. product R n Y F) lower_times

      -- B X = B E
      pub upper_left : product R n B X ≡ product R n B E
      upper_left =
          ap (product R n B) is_X
          ∙ matrices.product_difference R L n B E (product R m₂ G T)
          ∙ ap (λ Y. add R (product R n B E) (negative R Y))
          (sym (matrices.product_assoc R L m₂ n B G T) ∙ ap (λ Y. product R m₂ Y T) upper_right ∙ matrices.zeros_product R L m₂ T)
          ∙ ap (λ Y. add R (product R n B E) Y) (matrices.negative_zeros R L)
          ∙ matrices.add_zeros R L (product R n B E)

      -- K X = T - (C F) T
      pub lower_left : product R n K X ≡ add R T (negative R (product R m₂ (product R n C F) T))
      lower_left =
          ap (product R n K) is_X
          ∙ matrices.product_difference R L n K E (product R m₂ G T)
          ∙ ap (λ Y. add R Y (negative R (product R n K (product R m₂ G T)))) (sym is_T)
          ∙ ap (λ Y. add R T (negative R Y)) (sym (matrices.product_assoc R L m₂ n K G T) ∙ ap (λ Y. product R m₂ Y T) lower_right)

      -- A D, block by block
      pub other_whole : product R n (stack R m₁ B K) (beside R m₁ X G)
          ≡ stack R m₁ (beside R m₁ (product R n B E) (zeros R)) (beside R m₁ (add R T (negative R (product R m₂ (product R n C F) T))) (product R n C F))
      other_whole =
          blocks.stack_product R L n m₁ B K (beside R m₁ X G)
          ∙ (λ i. stack R m₁ (blocks.product_beside R L n m₁ B X G i) (blocks.product_beside R L n m₁ K X G i))
          ∙ (λ i. stack R m₁ (beside R m₁ (upper_left i) (upper_right i)) (beside R m₁ (lower_left i) (lower_right i)))

      -- A D A = A
      pub absorbs_whole : product R m₂ (product R n C F) C ≡ C
          → product R n (stack R m₁ B K) (product R (m₁ + m₂) (beside R m₁ X G) (stack R m₁ B K)) ≡ stack R m₁ B K
      absorbs_whole absorbs-C =
          ap (product R n (stack R m₁ B K)) whole
          ∙ blocks.stack_product R L n m₁ B K (add R (product R m₁ E B) (product R m₂ G C))
          ∙ (λ i. stack R m₁ (top i) (bottom i))
        where
          top : product R n B (add R (product R m₁ E B) (product R m₂ G C)) ≡ B
          top =
              matrices.product_add R L n B (product R m₁ E B) (product R m₂ G C)
              ∙ (λ i. add R (absorbs-B i) (product R n B (product R m₂ G C)))
              ∙ ap (add R B) (sym (matrices.product_assoc R L m₂ n B G C))
              ∙ ap (λ Y. add R B (product R m₂ Y C)) upper_right
              ∙ ap (add R B) (matrices.zeros_product R L m₂ C)
              ∙ matrices.add_zeros R L B

          bottom : product R n K (add R (product R m₁ E B) (product R m₂ G C)) ≡ K
          bottom =
              matrices.product_add R L n K (product R m₁ E B) (product R m₂ G C)
              ∙ ap (λ Y. add R Y (product R n K (product R m₂ G C))) lower_times
              ∙ ap (add R (product R m₁ T B)) (sym (matrices.product_assoc R L m₂ n K G C) ∙ ap (λ Y. product R m₂ Y C) lower_right ∙ absorbs-C ∙ is_C)
              ∙ matrices.add_difference R L (product R m₁ T B) K
