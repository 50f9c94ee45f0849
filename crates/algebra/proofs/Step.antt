-- The recursion of Algorithm Q: pivot inverses of the upper rows and of the reduced lower rows make one of the whole table,
-- with the union of their columns and the one's rows before the other's.
use mathlib.Core.Path.{◌≡◌, sym, ap, ◌∙◌, subst}
use mathlib.Core.Bool.{true, false}
use Prim.Native.Nat.{ℕ, ◌+◌, ◌<◌}
use native.Mathlib.Nat.{ne_of_lt}
use native.Mathlib.Decide.{dec_lt}
use native.Mathlib.Omega.{arith}
use Rattle.algebra.specs.Ring.{Ring, IsCommutativeRing}
use Rattle.algebra.specs.Matrix.{Matrix, unit, zeros, add, negative, product, stack, beside}
use Rattle.algebra.specs.Quasiinverse.{Marks, either, follow, IsPivotInverse}
use Rattle.algebra.proofs.Rings as rings
use Rattle.algebra.proofs.Sums as sums
use Rattle.algebra.proofs.Matrices as matrices
use Rattle.algebra.proofs.Blocks as blocks
use Rattle.algebra.proofs.Blocks.{Part, upper, lower, part}
use Rattle.algebra.proofs.Marks.{by_test}
use Rattle.algebra.proofs.Counts as counts
use Rattle.algebra.proofs.Elimination as elimination

module _ (R : Ring) (L : IsCommutativeRing R) where
  open R use {Carrier, zero as 𝟘, one as 𝟙, plus as ◌⊕◌, times as ◌⊗◌, minus}

  infixl 60 ◌⊕◌
  infixl 70 ◌⊗◌
  -- X is zero below its diagonal
  abbrev pub Upper : Matrix R → Type 0
  Upper X = (i c : ℕ) → c < i → X i c ≡ 𝟘

  pub upper_product : (n : ℕ) (X Y : Matrix R) → Upper X → Upper Y → Upper (product R n X Y)
  unfolding product
  upper_product n X Y hX hY i c l = sums.sum_zeros R L n (λ t. X i t ⊗ Y t c) (λ t h. go t (dec_lt t i))
    where
      go : (t : ℕ) → Dec (t < i) → X i t ⊗ Y t c ≡ 𝟘
      go t (yes b) = ap (λ x. x ⊗ Y t c) (hX i t b) ∙ rings.zero_times R L (Y t c)
      go t (no b) = ap (λ y. X i t ⊗ y) (hY t c (omega arith)) ∙ rings.times_zero R L (X i t)

  pub upper_difference : (X Y : Matrix R) → Upper X → Upper Y → Upper (add R X (negative R Y))
  unfolding add negative
  upper_difference X Y hX hY i c l = (λ k. hX i c l k ⊕ minus (hY i c l k)) ∙ L.plus_minus 𝟘

  pub upper_add : (X Y : Matrix R) → Upper X → Upper Y → Upper (add R X Y)
  unfolding add
  upper_add X Y hX hY i c l = (λ k. hX i c l k ⊕ hY i c l k) ∙ L.plus_zero 𝟘

  -- a column that X fixes, and what a product makes of a zero column or a zero row
  pub product_column : (k : ℕ) (X Y : Matrix R) (c : ℕ) → ((t : ℕ) → t < k → Y t c ≡ 𝟘) → (i : ℕ) → product R k X Y i c ≡ 𝟘
  unfolding product
  product_column k X Y c h i =
      sums.sum_zeros R L k (λ t. X i t ⊗ Y t c) (λ t l. ap (λ y. X i t ⊗ y) (h t l) ∙ rings.times_zero R L (X i t))

  pub product_row : (k : ℕ) (X Y : Matrix R) (i : ℕ) → ((t : ℕ) → t < k → X i t ≡ 𝟘) → (j : ℕ) → product R k X Y i j ≡ 𝟘
  unfolding product
  product_row k X Y i h j =
      sums.sum_zeros R L k (λ t. X i t ⊗ Y t j) (λ t l. ap (λ x. x ⊗ Y t j) (h t l) ∙ rings.zero_times R L (Y t j))

  pub product_unit_column : (k : ℕ) (X Y : Matrix R) (c : ℕ) → c < k → ((t : ℕ) → Y t c ≡ unit R t c) → (i : ℕ) → product R k X Y i c ≡ X i c
  unfolding product
  product_unit_column k X Y c l h i =
      sums.sum_same R k (λ t. X i t ⊗ Y t c) (λ t. X i t ⊗ unit R t c) (λ t b. ap (λ y. X i t ⊗ y) (h t)) ∙ sums.sum_unit R L k (X i) c l

  pub product_unit_row : (k : ℕ) (X Y : Matrix R) (y : ℕ) → y < k → ((t : ℕ) → X y t ≡ unit R y t) → (j : ℕ) → product R k X Y y j ≡ Y y j
  unfolding product
  product_unit_row k X Y y l h j =
      sums.sum_same R k (λ t. X y t ⊗ Y t j) (λ t. unit R y t ⊗ Y t j) (λ t b. ap (λ x. x ⊗ Y t j) (h t)) ∙ sums.unit_sum R L k (λ t. Y t j) y l

  -- an entry of X - Y where Y's is X's, or where both are zero
  difference_same : (X Y : Matrix R) (i j : ℕ) → Y i j ≡ X i j → add R X (negative R Y) i j ≡ 𝟘
  unfolding add negative
  difference_same X Y i j e = ap (λ y. X i j ⊕ minus y) e ∙ L.plus_minus (X i j)

  difference_plain : (X Y : Matrix R) (i j : ℕ) → Y i j ≡ 𝟘 → add R X (negative R Y) i j ≡ X i j
  unfolding add negative
  difference_plain X Y i j e = ap (λ y. X i j ⊕ minus y) e ∙ ap (λ y. X i j ⊕ y) (rings.minus_zero R L) ∙ L.plus_zero (X i j)

  add_entry : (X Y : Matrix R) (i j : ℕ) → Y i j ≡ 𝟘 → add R X Y i j ≡ X i j
  unfolding add
  add_entry X Y i j e = ap (λ y. X i j ⊕ y) e ∙ L.plus_zero (X i j)

  module _ (one_not_zero : 𝟙 ≡ 𝟘 → ⊥) (m₁ m₂ n : ℕ) (B K E F T C G X : Matrix R) (I₁ I₂ J₁ J₂ : Marks)
      (is_T : T ≡ product R n K E)
      (is_C : C ≡ add R K (negative R (product R m₁ T B)))
      (is_G : G ≡ add R F (negative R (product R m₁ E (product R n B F))))
      (is_X : X ≡ add R E (negative R (product R m₂ G T)))
      (Q₁ : IsPivotInverse R m₁ n B E I₁ J₁)
      (Q₂ : IsPivotInverse R m₂ n C F I₂ J₂)
    where
      A : Matrix R
      A = stack R m₁ B K

      D : Matrix R
      D = beside R m₁ X G

      EB : Matrix R
      EB = product R m₁ E B

      FC : Matrix R
      FC = product R m₂ F C

      CF : Matrix R
      CF = product R n C F

      -- the columns chosen above are zero in the reduced table
      chosen_column_zero : (c : ℕ) → I₁ c ≡ true → (i : ℕ) → C i c ≡ 𝟘
      chosen_column_zero c h i =
          matrices.entry R is_C i c
          ∙ difference_same K (product R m₁ T B) i c
          (matrices.entry R (ap (λ Y. product R m₁ Y B) is_T ∙ matrices.product_assoc R L m₁ n K E B) i c
          ∙ product_unit_column n K (product R m₁ E B) c (Q₁.columns c h) (λ t. Q₁.fixes_column t c h) i)

      -- so no column is chosen twice
      disjoint : (c : ℕ) → I₁ c ≡ true → I₂ c ≡ false
      disjoint c h =
          by_test (I₂ c)
          (λ t.
          absurd
          (one_not_zero
          (sym (sums.unit_same R c) ∙ sym (Q₂.fixes_column c c t) ∙ product_column m₂ F C c (λ s l. chosen_column_zero c h s) c)))
          (λ f. f)

      whole : product R (m₁ + m₂) D A ≡ add R EB (product R m₂ G C)
      unfolding A D EB
      whole = elimination.whole R L m₁ m₂ n B K E F T C G X is_T is_C is_G is_X

      second : product R m₂ G C ≡ add R FC (negative R (product R n EB FC))
      unfolding FC EB
      second = elimination.second R L m₁ m₂ n B K E F T C G X is_T is_C is_G is_X

      -- where a column of F C is a unit column, E B plus G C fixes it
      fixes_column : (i c : ℕ) → either I₁ I₂ c ≡ true → product R (m₁ + m₂) D A i c ≡ unit R i c
      unfolding EB FC add negative
      fixes_column i c h = counts.either_true I₁ I₂ c h first other
        where
          first : I₁ c ≡ true → product R (m₁ + m₂) D A i c ≡ unit R i c
          first t =
              matrices.entry R whole i c
              ∙ add_entry EB (product R m₂ G C) i c (product_column m₂ G C c (λ s l. chosen_column_zero c t s) i)
              ∙ Q₁.fixes_column i c t

          other : I₁ c ≡ false → I₂ c ≡ true → product R (m₁ + m₂) D A i c ≡ unit R i c
          other f t =
              matrices.entry R whole i c
              ∙ ap (λ y. EB i c ⊕ y) (matrices.entry R second i c)
              ∙ (λ k. EB i c ⊕ (Q₂.fixes_column i c t k ⊕ minus (product_unit_column n EB FC c (Q₂.columns c t) (λ s. Q₂.fixes_column s c t) i k)))
              ∙ rings.plus_difference R L (EB i c) (unit R i c)

      upper_D : Upper (product R (m₁ + m₂) D A)
      unfolding EB FC
      upper_D =
          subst Upper (sym whole)
          (upper_add EB (product R m₂ G C) Q₁.upper
          (subst Upper (sym second) (upper_difference FC (product R n EB FC) Q₂.upper (upper_product n EB FC Q₁.upper Q₂.upper))))

      corner : Matrix R
      corner = add R T (negative R (product R m₂ CF T))

      other_whole : product R n A D ≡ stack R m₁ (beside R m₁ (product R n B E) (zeros R)) (beside R m₁ corner CF)
      unfolding A D CF corner
      other_whole = elimination.other_whole R L m₁ m₂ n B K E F T C G X is_T is_C is_G is_X Q₁.absorbs.equation

      -- the entries of A D, block by block
      at_upper_left : (y j : ℕ) → y < m₁ → j < m₁ → product R n A D y j ≡ product R n B E y j
      at_upper_left y j hy hj =
          matrices.entry R other_whole y j
          ∙ blocks.stack_upper R m₁ (beside R m₁ (product R n B E) (zeros R)) (beside R m₁ corner CF) y j hy
          ∙ blocks.beside_left R m₁ (product R n B E) (zeros R) y j hj

      at_upper_right : (y k : ℕ) → y < m₁ → product R n A D y (m₁ + k) ≡ 𝟘
      unfolding zeros
      at_upper_right y k hy =
          matrices.entry R other_whole y (m₁ + k)
          ∙ blocks.stack_upper R m₁ (beside R m₁ (product R n B E) (zeros R)) (beside R m₁ corner CF) y (m₁ + k) hy
          ∙ blocks.beside_right R m₁ (product R n B E) (zeros R) y k

      at_lower_left : (y j : ℕ) → j < m₁ → product R n A D (m₁ + y) j ≡ corner y j
      at_lower_left y j hj =
          matrices.entry R other_whole (m₁ + y) j
          ∙ blocks.stack_lower R m₁ (beside R m₁ (product R n B E) (zeros R)) (beside R m₁ corner CF) y j
          ∙ blocks.beside_left R m₁ corner CF y j hj

      at_lower_right : (y k : ℕ) → product R n A D (m₁ + y) (m₁ + k) ≡ CF y k
      at_lower_right y k =
          matrices.entry R other_whole (m₁ + y) (m₁ + k)
          ∙ blocks.stack_lower R m₁ (beside R m₁ (product R n B E) (zeros R)) (beside R m₁ corner CF) y (m₁ + k)
          ∙ blocks.beside_right R m₁ corner CF y k

      fixes_row : (y j : ℕ) → follow m₁ J₁ J₂ y ≡ true → product R n A D y j ≡ unit R y j
      unfolding CF corner
      fixes_row y j h = go (part m₁ y) (part m₁ j) h
        where
          go : {y j : ℕ} → Part m₁ y → Part m₁ j → follow m₁ J₁ J₂ y ≡ true → product R n A D y j ≡ unit R y j
          go {y} {j} (upper hy) (upper hj) t = at_upper_left y j hy hj ∙ Q₁.fixes_row y j (sym (counts.follow_upper m₁ J₁ J₂ y hy) ∙ t)
          go {y} (upper hy) (lower k) t = at_upper_right y k hy ∙ sym (sums.unit_other R y (m₁ + k) (λ e. ne_of_lt hy' e))
            where
              hy' : y < m₁ + k
              hy' = omega arith
          go {j} (lower y) (upper hj) t =
              at_lower_left y j hj
              ∙ difference_same T (product R m₂ CF T) y j
              (product_unit_row m₂ CF T y (Q₂.rows y (sym (counts.follow_lower m₁ J₁ J₂ y) ∙ t))
              (λ s. Q₂.fixes_row y s (sym (counts.follow_lower m₁ J₁ J₂ y) ∙ t)) j)
              ∙ sym (sums.unit_other R (m₁ + y) j (λ e. ne_of_lt hj' (sym e)))
            where
              hj' : j < m₁ + y
              hj' = omega arith
          go (lower y) (lower k) t =
              at_lower_right y k ∙ Q₂.fixes_row y k (sym (counts.follow_lower m₁ J₁ J₂ y) ∙ t) ∙ sym (blocks.unit_lower R m₁ y k)

      lower_D : (y j : ℕ) → y < j → product R n A D y j ≡ 𝟘
      unfolding CF
      lower_D y j h = go (part m₁ y) (part m₁ j) h
        where
          go : {y j : ℕ} → Part m₁ y → Part m₁ j → y < j → product R n A D y j ≡ 𝟘
          go {y} {j} (upper hy) (upper hj) l = at_upper_left y j hy hj ∙ Q₁.lower y j l
          go {y} (upper hy) (lower k) l = at_upper_right y k hy
          go {j} (lower y) (upper hj) l = absurd (impossible hj l)
            where
              impossible : j < m₁ → m₁ + y < j → ⊥
              impossible a b = omega arith
          go (lower y) (lower k) l = at_lower_right y k ∙ Q₂.lower y k (below l)
            where
              below : m₁ + y < m₁ + k → y < k
              below b = omega arith

      -- the rows of D outside the union, and its columns outside J
      row_outside : (i j : ℕ) → either I₁ I₂ i ≡ false → D i j ≡ 𝟘
      unfolding D
      row_outside i j h = go (part m₁ j)
        where
          out₁ : I₁ i ≡ false
          out₁ = (counts.either_false I₁ I₂ i h).0

          out₂ : I₂ i ≡ false
          out₂ = (counts.either_false I₁ I₂ i h).1

          G_zero : (k : ℕ) → G i k ≡ 𝟘
          G_zero k =
              matrices.entry R is_G i k
              ∙ difference_plain F (product R m₁ E (product R n B F)) i k (product_row m₁ E (product R n B F) i (λ t l. Q₁.row_outside i t out₁) k)
              ∙ Q₂.row_outside i k out₂

          go : {j : ℕ} → Part m₁ j → D i j ≡ 𝟘
          go {j} (upper hj) =
              blocks.beside_left R m₁ X G i j hj
              ∙ matrices.entry R is_X i j
              ∙ difference_plain E (product R m₂ G T) i j (product_row m₂ G T i (λ t l. G_zero t) j)
              ∙ Q₁.row_outside i j out₁
          go (lower k) = blocks.beside_right R m₁ X G i k ∙ G_zero k

      column_outside : (i j : ℕ) → follow m₁ J₁ J₂ j ≡ false → D i j ≡ 𝟘
      unfolding D
      column_outside i j h = go (part m₁ j) h
        where
          go : {j : ℕ} → Part m₁ j → follow m₁ J₁ J₂ j ≡ false → D i j ≡ 𝟘
          go {j} (upper hj) f =
              let out : J₁ j ≡ false = sym (counts.follow_upper m₁ J₁ J₂ j hj) ∙ f in
              blocks.beside_left R m₁ X G i j hj
              ∙ matrices.entry R is_X i j
              ∙ difference_plain E (product R m₂ G T) i j
              (product_column m₂ G T j (λ s l. matrices.entry R is_T s j ∙ product_column n K E j (λ t b. Q₁.column_outside t j out) s) i)
              ∙ Q₁.column_outside i j out
          go (lower k) f =
              let out : J₂ k ≡ false = sym (counts.follow_lower m₁ J₁ J₂ k) ∙ f in
              blocks.beside_right R m₁ X G i k
              ∙ matrices.entry R is_G i k
              ∙ difference_plain F (product R m₁ E (product R n B F)) i k
              (product_column m₁ E (product R n B F) k (λ s l. product_column n B F k (λ t b. Q₂.column_outside t k out) s) i)
              ∙ Q₂.column_outside i k out

      rows : (y : ℕ) → follow m₁ J₁ J₂ y ≡ true → y < m₁ + m₂
      rows y h = go (part m₁ y) h
        where
          go : {y : ℕ} → Part m₁ y → follow m₁ J₁ J₂ y ≡ true → y < m₁ + m₂
          go (upper hy) t = omega arith
          go (lower k) t = let l : k < m₂ = Q₂.rows k (sym (counts.follow_lower m₁ J₁ J₂ k) ∙ t) in omega arith

      -- the whole table's pivot inverse
      pub step : IsPivotInverse R (m₁ + m₂) n (stack R m₁ B K) (beside R m₁ X G) (either I₁ I₂) (follow m₁ J₁ J₂)
      unfolding A D
      step =
          record {
            row_outside = row_outside;
            column_outside = column_outside;
            fixes_column = fixes_column;
            fixes_row = fixes_row;
            absorbs =
                record {
                  equation =
                      elimination.absorbs_whole R L m₁ m₂ n B K E F T C G X is_T is_C is_G is_X Q₁.absorbs.equation
                      (matrices.product_assoc R L m₂ n C F C ∙ Q₂.absorbs.equation);
                };
            upper = upper_D;
            lower = lower_D;
            columns = λ c h. counts.either_true I₁ I₂ c h (λ t. Q₁.columns c t) (λ f t. Q₂.columns c t);
            rows = rows;
            equally_many =
                counts.count_either n I₁ I₂ disjoint
                ∙ (λ i. Q₁.equally_many i + Q₂.equally_many i)
                ∙ sym (counts.count_follow m₁ m₂ J₁ J₂);
          }
