-- Every table over a field has a pivot inverse, with any number of rows: row after row by the recursion of `Step`, each last
-- row by `Base`.
use mathlib.Core.Path.{◌≡◌, refl, sym, ap, ◌∙◌, subst}
use mathlib.Core.Bool.{Bool, true, false}
use mathlib.Core.Logic.{◌⊎◌, inl, inr}
use Prim.Native.Nat.{ℕ, suc, ◌+◌, ◌<◌, zero-le}
use native.Mathlib.Nat.{lt-suc_self, le_step}
use native.Mathlib.Numerals.{add-one}
use native.Mathlib.Decide.{dec_lt}
use native.Mathlib.Omega.{arith}
use lib.Dec.{ltb}
use borrow.Author.Tests.{le-ltb}
use borrow.Author.Count.{below_more}
use Rattle.algebra.specs.Choice.{choose}
use Rattle.algebra.specs.Ring.{Ring, IsCommutativeRing, IsField}
use Rattle.algebra.specs.Matrix.{Vector, Matrix, Sized, zeros, add, negative, product, stack, beside, upper_rows, lower_rows}
use Rattle.algebra.specs.Quasiinverse.{Marks, none, only, single, either, follow, IsPivotInverse}
use Rattle.algebra.proofs.Matrices as matrices
use Rattle.algebra.proofs.Blocks.{Part, upper, lower, part, stack_upper, stack_lower, choose_upper}
use Rattle.algebra.proofs.Step as steps
use Rattle.algebra.proofs.Base as base

-- a pivot inverse of a table, with its marks
pub record PivotInverse (R : Ring) (m n : ℕ) (A : Matrix R) : Type 0 where
  pub D : Matrix R
  pub I : Marks
  pub J : Marks
  pub holds : IsPivotInverse R m n A D I J

module _ (R : Ring) where
  open R use {Carrier, zero as 𝟘}

  upper_rows_in : (m : ℕ) (A : Matrix R) (i j : ℕ) → i < m → upper_rows R m A i j ≡ A i j
  unfolding upper_rows
  upper_rows_in m A i j h = choose_upper m i (A i j) 𝟘 h

  -- a table is its upper rows above its lower ones
  pub split_rows : (m : ℕ) (A : Matrix R) → A ≡ stack R m (upper_rows R m A) (lower_rows R m A)
  unfolding lower_rows
  split_rows m A = matrices.entries R A (stack R m (upper_rows R m A) (lower_rows R m A)) (λ i j. go (part m i) j)
    where
      go : {i : ℕ} → Part m i → (j : ℕ) → A i j ≡ stack R m (upper_rows R m A) (lower_rows R m A) i j
      go {i} (upper h) j = sym (upper_rows_in m A i j h) ∙ sym (stack_upper R m (upper_rows R m A) (lower_rows R m A) i j h)
      go (lower k) j = sym (stack_lower R m (upper_rows R m A) (lower_rows R m A) k j)

  pub upper_rows_sized : (m k n : ℕ) (A : Matrix R) → Sized R (m + k) n A → Sized R m n (upper_rows R m A)
  unfolding upper_rows
  upper_rows_sized m k n A s =
      record {
        rows_end = λ i j h. ap (λ b. choose b (A i j) 𝟘) (le-ltb i m h);
        columns_end = λ i j h. either_way (ltb i m) (A i j) (s.columns_end i j h);
      }
    where
      either_way : (b : Bool) (x : Carrier) → x ≡ 𝟘 → choose b x 𝟘 ≡ 𝟘
      either_way true x e = e
      either_way false x e = refl

  pub lower_rows_sized : (m k n : ℕ) (A : Matrix R) → Sized R (m + k) n A → Sized R k n (lower_rows R m A)
  unfolding lower_rows
  lower_rows_sized m k n A s =
      record { rows_end = λ i j h. s.rows_end (m + i) j (omega arith); columns_end = λ i j h. s.columns_end (m + i) j h }

  -- the reduced table K - T B has the sizes of K
  pub reduced_sized : (L : IsCommutativeRing R) (m k n : ℕ) (K E B : Matrix R) → Sized R k n K → Sized R m n B
      → Sized R k n (add R K (negative R (product R m (product R n K E) B)))
  unfolding add negative
  reduced_sized L m k n K E B sK sB =
      record {
        rows_end = λ i j h.
            (λ e.
            R.plus (sK.rows_end i j h e)
            (R.minus (steps.product_row R L m (product R n K E) B i (λ t l. steps.product_row R L n K E i (λ u g. sK.rows_end i u h) t) j e)))
            ∙ L.plus_minus 𝟘;
        columns_end = λ i j h.
            (λ e. R.plus (sK.columns_end i j h e) (R.minus (steps.product_column R L m (product R n K E) B j (λ t l. sB.columns_end t j h) i e)))
            ∙ L.plus_minus 𝟘;
      }

module _ (R : Ring) (F : IsField R) where
  open R use {Carrier, zero as 𝟘, one as 𝟙}

  -- v is the least position below n at which f is not zero
  pub record Least (n : ℕ) (f : Vector R) (v : ℕ) : Type 0 where
    pub below : v < n
    pub not_zero : f v ≡ 𝟘 → ⊥
    pub before : (t : ℕ) → t < v → f t ≡ 𝟘

  pub least : (n : ℕ) (f : Vector R) → ((v : ℕ) × Least n f v) ⊎ ((t : ℕ) → t < n → f t ≡ 𝟘)
  least ℕ.zero f = inr (λ t h. absurd (omega arith))
  least (suc n) f = go (least n f) (F.equal? (f n) 𝟘)
    where
      go : ((v : ℕ) × Least n f v) ⊎ ((t : ℕ) → t < n → f t ≡ 𝟘) → Dec (f n ≡ 𝟘)
          → ((v : ℕ) × Least (suc n) f v) ⊎ ((t : ℕ) → t < suc n → f t ≡ 𝟘)
      go (inl (v, l)) d = inl (v, record { below = le_step l.below; not_zero = l.not_zero; before = l.before })
      go (inr z) (no d) = inl (n, record { below = lt-suc_self n; not_zero = d; before = z })
      go (inr z) (yes e) = inr (λ t h. below_more (λ k. f k ≡ 𝟘) n z e t (subst (λ k. t < k) (sym (add-one n)) h))

  -- one row
  one_row_inverse : (n : ℕ) (A : Matrix R) → Sized R 1 n A → PivotInverse R 1 n A
  one_row_inverse n A s = go (least n (A 0))
    where
      rest : ((t : ℕ) → t < n → A 0 t ≡ 𝟘) → (i j : ℕ) → A i j ≡ 𝟘
      rest z ℕ.zero j = inside (dec_lt j n)
        where
          inside : Dec (j < n) → A 0 j ≡ 𝟘
          inside (yes l) = z j l
          inside (no l) = s.columns_end 0 j (omega arith)
      rest z (suc i) j = s.rows_end (suc i) j (omega arith)

      go : ((v : ℕ) × Least n (A 0) v) ⊎ ((t : ℕ) → t < n → A 0 t ≡ 𝟘) → PivotInverse R 1 n A
      go (inl (v, l)) =
          record {
            D = single R v (F.inverse (A 0 v));
            I = only v;
            J = only 0;
            holds = base.one_row R F.ring n A s v l.below l.before (F.inverse (A 0 v)) (F.times_inverse (A 0 v) l.not_zero);
          }
      go (inr z) = record { D = zeros R; I = none; J = none; holds = base.zero_table R F.ring 1 n A (rest z) }

  pub pivot_inverse : (m n : ℕ) (A : Matrix R) → Sized R m n A → PivotInverse R m n A
  pivot_inverse ℕ.zero n A s =
      record { D = zeros R; I = none; J = none; holds = base.zero_table R F.ring 0 n A (λ i j. s.rows_end i j zero-le) }
  pivot_inverse (suc m) n A s = whole (pivot_inverse m n (upper_rows R m A) (upper_rows_sized R m 1 n A s'))
    where
      s' : Sized R (m + 1) n A
      s' = subst (λ k. Sized R k n A) (sym (add-one m)) s

      whole : PivotInverse R m n (upper_rows R m A) → PivotInverse R (suc m) n A
      whole U = last (one_row_inverse n C (reduced_sized R F.ring m 1 n K U.D B (lower_rows_sized R m 1 n A s') (upper_rows_sized R m 1 n A s')))
        where
          B : Matrix R
          B = upper_rows R m A

          K : Matrix R
          K = lower_rows R m A

          T : Matrix R
          T = product R n K U.D

          C : Matrix R
          C = add R K (negative R (product R m T B))

          last : PivotInverse R 1 n C → PivotInverse R (suc m) n A
          last W =
              record {
                D = beside R m X G;
                I = either U.I W.I;
                J = follow m U.J W.J;
                holds =
                    subst (λ k. IsPivotInverse R k n A (beside R m X G) (either U.I W.I) (follow m U.J W.J)) (add-one m)
                    (subst (λ Y. IsPivotInverse R (m + 1) n Y (beside R m X G) (either U.I W.I) (follow m U.J W.J)) (sym (split_rows R m A))
                    (steps.step R F.ring F.one_not_zero m 1 n B K U.D W.D T C G X U.I W.I U.J W.J refl refl refl refl U.holds W.holds));
              }
            where
              G : Matrix R
              G = add R W.D (negative R (product R m U.D (product R n B W.D)))

              X : Matrix R
              X = add R U.D (negative R (product R 1 G T))
