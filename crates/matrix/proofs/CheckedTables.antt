-- The checker on tables in memory: tests over lists of numbers that compute, and what they tell. A modulus is tested by its
-- remainders, D and the marks by the checker over the residues, which are compared by their values.
use mathlib.Core.Path.{◌≡◌, ap}
use mathlib.Core.Bool.{Bool, true, not}
use mathlib.Core.List.{List}
use Prim.Native.Nat.{ℕ, ◌*◌, ◌%◌, ◌≤◌, ◌<◌}
use native.Mathlib.Nat.{mod-eq-zero_of_dvd}
use native.Mathlib.Omega.{arith}
use lib.Dec.{eqb, ltb, leb}
use lib.ListN.{length, get_or, get_or-eq_default}
use lib.Seq.{ext_get_or}
use borrow.Author.Tests.{eq-eqb, eqb-true, eqb-false, ltb-true, leb-true, lt-ltb, not-true}
use Rattle.checks.specs.Largest.{largest}
use Rattle.algebra.specs.Choice.{choose}
use Rattle.algebra.specs.Matrix.{product}
use Rattle.algebra.specs.Quasiinverse.{IsPivotInverse}
use Rattle.algebra.proofs.Counts.{true_not_false}
use Rattle.algebra.proofs.Matrices.{entry}
use Rattle.algebra.proofs.Sized.{by_size, absorbs_inside}
use Rattle.checks.specs.Prime.{Prime, IsModulus}
use Rattle.field.specs.Residue.{Residue, residues}
use Rattle.field.specs.View.{table}
use Rattle.words.specs.Words.{Below, Blank, LeastNonzero}
use Rattle.words.proofs.Zeros.{blank_inside}
use Rattle.field.proofs.Field.{residues_ring}
use Rattle.field.proofs.Residues.{residue_path}
use Rattle.field.proofs.Views.{table_sized}
use Rattle.field.specs.Written.{marked}
use Rattle.field.proofs.Written.{marked_no}
use Rattle.matrix.specs.Calls.{table_of, IsInner}
use Rattle.matrix.specs.Parts.{Checked, StoresInverse}
use Rattle.matrix.proofs.Stored.{inverted}
use Rattle.matrix.proofs.Checker.{◌and◌, ◌implies◌, every_below, every_place, is_pivot_inverse, both, implied, every_below_lem, below_every, every_place_lem, checked}

-- ---- lists of numbers

-- all are below p
unfoldable pub are_below : ℕ → List ℕ → Bool
are_below p xs = every_below (length xs) (λ i. ltb (get_or xs i 0) p)

pub all_below : (p : ℕ) (xs : List ℕ) → are_below p xs ≡ true → Below p xs
unfolding are_below
all_below p xs t i h = ltb-true _ _ (every_below_lem (length xs) _ t i h)

-- two lists are the same
unfoldable pub are_same : List ℕ → List ℕ → Bool
are_same xs ys = eqb (length xs) (length ys) and every_below (length xs) (λ i. eqb (get_or xs i 0) (get_or ys i 0))

pub all_same : (xs ys : List ℕ) → are_same xs ys ≡ true → xs ≡ ys
unfolding are_same
all_same xs ys t =
    let (long, each) = both _ _ t in
    ext_get_or 0 xs ys (eqb-true _ _ long) (λ i h. eqb-true _ _ (every_below_lem (length xs) _ each i h))

-- n marks, each 0 or 1
unfoldable pub are_marks : ℕ → List ℕ → Bool
are_marks n xs = eqb (length xs) n and every_below n (λ c. eqb (get_or xs c 0) (choose (marked xs c) 1 0))

pub marks_checked : (n : ℕ) (xs : List ℕ) → are_marks n xs ≡ true → (length xs ≡ n) × ((c : ℕ) → c < n → get_or xs c 0 ≡ choose (marked xs c) 1 0)
unfolding are_marks
marks_checked n xs t =
    let (long, each) = both _ _ t in
    (eqb-true _ _ long, (λ c h. eqb-true _ _ (every_below_lem n _ each c h)))

-- r is the least position of a number that is not 0, or the length
unfoldable pub is_least_nonzero : List ℕ → ℕ → Bool
is_least_nonzero xs r =
    leb r (length xs)
    and every_below r (λ i. eqb (get_or xs i 0) 0)
    and (ltb r (length xs) implies not (eqb (get_or xs r 0) 0))

module _ (xs : List ℕ) (r : ℕ) (t : is_least_nonzero xs r ≡ true) where
  zeros_before : (i : ℕ) → i < r → get_or xs i 0 ≡ 0
  unfolding is_least_nonzero
  zeros_before i h = eqb-true _ _ (every_below_lem r _ (both _ _ (both _ _ t).0).1 i h)

  pub least_nonzero : r < length xs → LeastNonzero xs r
  unfolding is_least_nonzero
  least_nonzero h =
      record {
        within = h;
        before = zeros_before;
        not_zero = eqb-false _ _ (not-true _ (implied (both _ _ t).1 (lt-ltb _ _ h)));
      }

  pub none_nonzero : length xs ≤ r → Blank xs
  none_nonzero h = blank_inside xs (λ i l. zeros_before i (omega arith))

-- ---- the table

-- at least 2, and no number from 2 on below p leaves no remainder
unfoldable pub is_prime : ℕ → Bool
is_prime p = leb 2 p and every_below p (λ k. ltb 1 k implies not (eqb (p % k) 0))

pub prime_checked : (p : ℕ) → is_prime p ≡ true → Prime p
unfolding is_prime
prime_checked p t =
    let (two, none) = both _ _ t in
    record {
      two_or_more = leb-true _ _ two;
      no_divisor = λ k h l v.
          eqb-false _ _ (not-true _ (implied (every_below_lem p _ none k l) (lt-ltb _ _ h))) (mod-eq-zero_of_dvd k v);
    }

-- a table of m rows and n columns passes the checks of the calls
unfoldable pub is_table : (p m n : ℕ) → List ℕ → Bool
is_table p m n a =
    is_prime p and leb p 2147483647 and leb m largest and leb n largest and eqb (length a) (m * n) and are_below p a

pub table_checked : (p m n : ℕ) (a : List ℕ) → is_table p m n a ≡ true → Checked p m n a
unfolding is_table
table_checked p m n a t =
    let (t, below) = both _ _ t in
    let (t, long) = both _ _ t in
    let (t, n_most) = both _ _ t in
    let (t, m_most) = both _ _ t in
    let (prime, in_range) = both _ _ t in
    record {
      is_modulus = record { prime = prime_checked p prime; in_range = leb-true _ _ in_range };
      m_most = leb-true _ _ m_most;
      n_most = leb-true _ _ n_most;
      a_long = eqb-true _ _ long;
      a_below = all_below p a below;
    }

-- ---- its D, I and J

-- residues are compared by their values
unfoldable pub same : {p : ℕ} → Residue p → Residue p → Bool
same x y = eqb x.value y.value

same_path : {p : ℕ} (x y : Residue p) → same x y ≡ true → x ≡ y
unfolding same
same_path x y t = residue_path (eqb-true _ _ t)

-- marks end with their list
marked_inside : (n : ℕ) (xs : List ℕ) → length xs ≡ n → (c : ℕ) → marked xs c ≡ true → c < n
marked_inside n xs long c t = by_size c n (λ h. h) (λ h. absurd (true_not_false t (marked_no xs c (get_or-eq_default xs 0 (omega arith)))))

module _ (p m n : ℕ) (a d columns rows : List ℕ) where
  -- d, columns and rows hold a pivot inverse of the table and its marks
  unfoldable pub holds_inverse : Bool
  holds_inverse =
      eqb (length d) (n * m)
      and are_below p d
      and are_marks n columns
      and are_marks m rows
      and is_pivot_inverse (residues p) same m n (table_of p m n a) (table p d 0 m n m) (marked columns) (marked rows)

  module _ (ok : IsModulus p) (t : holds_inverse ≡ true) where
    pub quasiinverse_checked : IsPivotInverse (residues p) m n (table_of p m n a) (table p d 0 m n m) (marked columns) (marked rows)
    unfolding holds_inverse
    quasiinverse_checked =
        let (t, holds) = both _ _ t in
        let (t, rows-marks) = both _ _ t in
        let (t, columns-marks) = both _ _ t in
        checked (residues p) (residues_ring p (omega (arith, ok.prime.two_or_more))) same same_path
        (table_sized p a 0 n m n) (table_sized p d 0 m n m)
        (marked_inside n columns (marks_checked n columns columns-marks).0)
        (marked_inside m rows (marks_checked m rows rows-marks).0) holds

    pub inverse_checked : StoresInverse p ok m n a d columns rows
    unfolding holds_inverse
    inverse_checked =
        let (t, holds) = both _ _ t in
        let (t, rows-marks) = both _ _ t in
        let (t, columns-marks) = both _ _ t in
        let (long, below) = both _ _ t in
        let (columns_long, columns-each) = marks_checked n columns columns-marks in
        let (rows_long, rows-each) = marks_checked m rows rows-marks in
        inverted p ok m n a d columns rows quasiinverse_checked (all_below p d below) (eqb-true _ _ long)
        columns_long columns-each rows_long rows-each

-- ---- A D A = A

module _ (p m n : ℕ) (a d : List ℕ) where
  -- every entry of A D A is that of A, where D has n rows and m columns
  unfoldable pub is_absorbed : Bool
  is_absorbed =
      every_place m n
      (λ i j. same (product (residues p) n (table_of p m n a) (product (residues p) m (table_of p n m d) (table_of p m n a)) i j) (table_of p m n a i j))

  pub absorbs_checked : IsModulus p → is_absorbed ≡ true → IsInner p m n a d
  unfolding is_absorbed
  absorbs_checked ok t =
      absorbs_inside (residues p) (residues_ring p (omega (arith, ok.prime.two_or_more))) (table_sized p a 0 n m n) (table_of p n m d)
      (λ i j h l. same_path _ _ (every_place_lem m n _ t i j h l))

  pub absorbs_unchecked : not is_absorbed ≡ true → IsInner p m n a d → ⊥
  unfolding is_absorbed same
  absorbs_unchecked t E =
      true_not_false
      (below_every m _
      (λ i h. below_every n _ (λ j l. eq-eqb _ _ (ap (λ (x : Residue p). x.value) (entry (residues p) E.equation i j)))))
      (not-true _ t)
