-- Over a field it is decided whether a vector is a combination of rows: it is one exactly if (vD)X = v for a D with
-- XDX = X; and whether rows are independent: if J has them all.
use mathlib.Core.Path.{◌≡◌, refl, sym, ap, ◌∙◌}
use mathlib.Core.Bool.{Bool, true, false, true≢false}
use Prim.Native.Nat.{ℕ, ◌<◌}
use lib.Dec.{ltb}
use borrow.Author.Tests.{lt-ltb, le-ltb}
use Rattle.algebra.specs.Choice.{choose}
use Rattle.algebra.specs.Ring.{Ring, IsField}
use Rattle.algebra.specs.Matrix.{Vector, Matrix, Sized, mixed, cut}
use Rattle.algebra.specs.Span.{Combines, IsCombination, Independent}
use Rattle.algebra.proofs.Choice.{all_below?}
use Rattle.algebra.proofs.Alike.{mixed_alike}
use Rattle.algebra.proofs.Exists.{PivotInverse, pivot_inverse}
use Rattle.algebra.proofs.Independent.{combination_found, independent_chosen, chosen_independent}

module _ (R : Ring) where
  pub cut_inside : (m n : ℕ) (X : Matrix R) (i j : ℕ) → i < m → j < n → cut R m n X i j ≡ X i j
  unfolding cut
  cut_inside m n X i j h l =
      ap (λ b. choose b (choose (ltb j n) (X i j) R.zero) R.zero) (lt-ltb i m h)
      ∙ ap (λ b. choose b (X i j) R.zero) (lt-ltb j n l)

  pub cut_sized : (m n : ℕ) (X : Matrix R) → Sized R m n (cut R m n X)
  unfolding cut
  cut_sized m n X =
      record {
        rows_end = λ i j h. ap (λ b. choose b (choose (ltb j n) (X i j) R.zero) R.zero) (le-ltb i m h);
        columns_end = λ i j h. ap (λ b. choose (ltb i m) (choose b (X i j) R.zero) R.zero) (le-ltb j n h) ∙ same (ltb i m);
      }
    where
      same : (b : Bool) → choose b R.zero R.zero ≡ R.zero
      same true = refl
      same false = refl

  -- the rows that are cut combine as the whole ones do
  pub mixed_cut : (m n : ℕ) (X : Matrix R) (u : Vector R) (j : ℕ) → j < n → mixed R m u (cut R m n X) j ≡ mixed R m u X j
  mixed_cut m n X u j l = mixed_alike R m n (cut R m n X) X (cut_inside m n X) u j l

module _ (R : Ring) (F : IsField R) where
  -- whether v, n numbers, is a combination of the first k rows of X
  pub combination? : (k n : ℕ) (X : Matrix R) (v : Vector R) → Dec (IsCombination R k n X v)
  combination? k n X v =
      go (all_below? (λ j. v j ≡ mixed R k u X j) (λ j. F.equal? (v j) (mixed R k u X j)) n)
    where
      u : Vector R
      u = mixed R n v (pivot_inverse R F k n (cut R k n X) (cut_sized R k n X)).D

      go : Dec (Combines R k n X u v) → Dec (IsCombination R k n X v)
      go (yes h) = yes (u, h)
      go (no f) =
          no
          (λ (w, h). f
          (λ j l.
          combination_found R F.ring (pivot_inverse R F k n (cut R k n X) (cut_sized R k n X)).holds.absorbs v w
          (λ i b. h i b ∙ sym (mixed_cut R k n X w i b)) j l
          ∙ mixed_cut R k n X u j l))

  -- whether the first k rows of X are independent
  pub independent? : (k n : ℕ) (X : Matrix R) → Dec (Independent R k n X)
  independent? k n X = go (all_below? (λ y. S.J y ≡ true) (λ y. true? (S.J y)) k)
    where
      S : PivotInverse R k n (cut R k n X)
      S = pivot_inverse R F k n (cut R k n X) (cut_sized R k n X)

      true? : (b : Bool) → Dec (b ≡ true)
      true? true = yes refl
      true? false = no (λ e. true≢false (sym e))

      go : Dec ((y : ℕ) → y < k → S.J y ≡ true) → Dec (Independent R k n X)
      go (yes h) =
          yes (λ u c. chosen_independent R F.ring S.holds h u (λ j l. c j l ∙ sym (mixed_cut R k n X u j l)))
      go (no f) =
          no
          (λ g. f
          (independent_chosen R F.ring F.one_not_zero S.holds (λ u c. g u (λ j l. c j l ∙ mixed_cut R k n X u j l))))
