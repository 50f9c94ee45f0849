-- What `decimal` gives: digits, as few as there can be, that give the number back. All follow from one induction: below 10 there
-- is one digit, and from 10 on there are those of n / 10 and then the last.
use mathlib.Core.Path.{◌≡◌, refl, sym, ap, ◌∙◌, subst}
use mathlib.Core.Logic.{◌⊎◌, inl, inr, ⊎_elim}
use mathlib.Core.List.{List, [], ◌∷◌, ◌++◌}
use Prim.Native.Nat.{ℕ, zero, suc, ◌+◌, ◌-◌, ◌*◌, ◌/◌, ◌%◌, ◌^◌, ◌<◌, ◌≤◌}
use native.Mathlib.Decide.{dec_lt}
use native.Mathlib.Nat.{pow-suc}
use native.Mathlib.Omega.{arith}
use borrow.Author.Tests.{lt-ltb, le-ltb}
use lib.ListN.{length, get_or, length-append, get_or-append}
use lib.Seq.{get_or-append_seam}
use Rattle.codec.specs.Decimal.{digit, digits_within, decimal, read_digits}

below_or_from : (n k : ℕ) → (n < k) ⊎ (k ≤ n)
below_or_from n k = go (dec_lt n k)
  where
    go : Dec (n < k) → (n < k) ⊎ (k ≤ n)
    go (yes h) = inl h
    go (no f) = inr (omega arith)

-- ---- the two cases

within_one : (k n : ℕ) → n < 10 → digits_within (suc k) n ≡ digit n ∷ []
unfolding digits_within
within_one k n h = rw (lt-ltb n 10 h)

within_more : (k n : ℕ) → 10 ≤ n → digits_within (suc k) n ≡ digits_within k (n / 10) ++ digit (n % 10) ∷ []
unfolding digits_within
within_more k n h = rw (le-ltb n 10 h)

-- the bound does not matter once it is above n
within_same : (j k n : ℕ) → n < j → n < k → digits_within j n ≡ digits_within k n
within_same zero k n a b = absurd (omega arith)
within_same (suc j) zero n a b = absurd (omega arith)
within_same (suc j) (suc k) n a b =
    ⊎_elim
    (λ h. within_one j n h ∙ sym (within_one k n h))
    (λ h.
    within_more j n h
    ∙ ap (λ (front : List ℕ). front ++ digit (n % 10) ∷ []) (within_same j k (n / 10) (omega arith) (omega arith))
    ∙ sym (within_more k n h))
    (below_or_from n 10)

pub decimal_one : (n : ℕ) → n < 10 → decimal n ≡ digit n ∷ []
unfolding decimal
decimal_one n h = within_one n n h

pub decimal_more : (n : ℕ) → 10 ≤ n → decimal n ≡ decimal (n / 10) ++ digit (n % 10) ∷ []
unfolding decimal
decimal_more n h =
    within_more n n h
    ∙ ap (λ (front : List ℕ). front ++ digit (n % 10) ∷ []) (within_same n (suc (n / 10)) (n / 10) (omega arith) (omega arith))

-- from 10 on there is one digit more than n / 10 has
pub one_longer : (n : ℕ) → 10 ≤ n → length (decimal n) ≡ length (decimal (n / 10)) + 1
one_longer n h = rw (decimal_more n h) (length-append (decimal (n / 10)) (digit (n % 10) ∷ []))

-- ---- what holds of one digit, and of a longer number if of n / 10, holds of every number
module _
    (P : ℕ → List ℕ → Type 0)
    (one : (n : ℕ) → n < 10 → P n (digit n ∷ []))
    (more : (n : ℕ) (ds : List ℕ) → 10 ≤ n → P (n / 10) ds → P n (ds ++ digit (n % 10) ∷ []))
  where
    within_ind : (k n : ℕ) → n < k → P n (decimal n)
    within_ind zero n h = absurd (omega arith)
    within_ind (suc k) n h =
        ⊎_elim
        (λ small. subst (P n) (sym (decimal_one n small)) (one n small))
        (λ large. subst (P n) (sym (decimal_more n large)) (more n (decimal (n / 10)) large (within_ind k (n / 10) (omega arith))))
        (below_or_from n 10)

    pub decimal_ind : (n : ℕ) → P n (decimal n)
    decimal_ind n = within_ind (suc n) n (omega arith)

-- ---- the laws

-- every byte is a digit, from "0" to "9"
digits_then_last :
    (ds : List ℕ) (d : ℕ) → d < 10 → ((i : ℕ) → i < length ds → (48 ≤ get_or ds i 0) × (get_or ds i 0 ≤ 57))
    → (i : ℕ) → i < length (ds ++ digit d ∷ []) → (48 ≤ get_or (ds ++ digit d ∷ []) i 0) × (get_or (ds ++ digit d ∷ []) i 0 ≤ 57)
digits_then_last ds d b f i l =
    ⊎_elim
    (λ h. rw (get_or-append ds (digit d ∷ []) 0 i h) (f i h))
    (λ (h : length ds ≤ i).
    let e : i ≡ length ds = omega (arith, length-append ds (digit d ∷ [])) in
    rw (e, get_or-append_seam ds (digit d) [] 0) (omega arith))
    (below_or_from i (length ds))

pub digits_are_digits : (n i : ℕ) → i < length (decimal n) → (48 ≤ get_or (decimal n) i 0) × (get_or (decimal n) i 0 ≤ 57)
digits_are_digits =
    decimal_ind
    (λ n ds. (i : ℕ) → i < length ds → (48 ≤ get_or ds i 0) × (get_or ds i 0 ≤ 57))
    (λ n h i l. let e : i ≡ 0 = omega arith in rw e (omega arith))
    (λ n ds h f. digits_then_last ds (n % 10) (omega arith) f)

-- the first digit is 0 for 0 alone
first_digit : (n : ℕ) → (0 < length (decimal n)) × (0 < n → 48 < get_or (decimal n) 0 0)
first_digit =
    decimal_ind
    (λ n ds. (0 < length ds) × (0 < n → 48 < get_or ds 0 0))
    (λ n h. omega arith)
    (λ n ds h f. (
      omega (arith, length-append ds (digit (n % 10) ∷ [])),
      λ p. rw (get_or-append ds (digit (n % 10) ∷ []) 0 0 f.0) (f.1 (omega arith)),
    ))

pub no_leading_zero : (n : ℕ) → 0 < n → 48 < get_or (decimal n) 0 0
no_leading_zero n = (first_digit n).1

pub decimal_zero : decimal 0 ≡ 48 ∷ []
decimal_zero = decimal_one 0 (omega arith)

-- the digits, read from the left, give the number
read_last : (n : ℕ) (ds : List ℕ) (d : ℕ) → read_digits n (ds ++ d ∷ []) ≡ read_digits n ds * 10 + (d - 48)
unfolding read_digits
read_last n [] d = refl
read_last n (x ∷ ds) d = read_last (n * 10 + (x - 48)) ds d

pub digits_read_back : (n : ℕ) → read_digits 0 (decimal n) ≡ n
unfolding read_digits
digits_read_back =
    decimal_ind
    (λ n ds. read_digits 0 ds ≡ n)
    (λ n h. omega arith)
    (λ n ds h e. read_last 0 ds (digit (n % 10)) ∙ (let f : read_digits 0 ds * 10 + (digit (n % 10) - 48) ≡ n = omega arith in f))

-- there is at least one digit
pub digits_at_least : (n : ℕ) → 0 < length (decimal n)
digits_at_least n = (first_digit n).0

-- and there are at most k where n is below 10 ^ k
more_digits :
    (n : ℕ) (ds : List ℕ) → 10 ≤ n → ((k : ℕ) → n / 10 < 10 ^ suc k → length ds ≤ suc k)
    → (k : ℕ) → n < 10 ^ suc k → length (ds ++ digit (n % 10) ∷ []) ≤ suc k
more_digits n ds h f zero l = absurd (omega arith)
more_digits n ds h f (suc k) l =
    let p = pow-suc 10 (suc k) in
    omega (arith, f k (omega arith), length-append ds (digit (n % 10) ∷ []))

pub digits_at_most : (n k : ℕ) → n < 10 ^ suc k → length (decimal n) ≤ suc k
digits_at_most =
    decimal_ind
    (λ n ds. (k : ℕ) → n < 10 ^ suc k → length ds ≤ suc k)
    (λ n h k l. omega arith)
    more_digits
