-- A number and its bytes, most significant first: each gives the other back. Reading from the front keeps the number that was
-- read so far, so the laws are stated for any such number first. Then a number at a place, as the code reads and stores it byte by byte.
use mathlib.Core.Path.{◌≡◌, refl, sym, ap, ◌∙◌}
use mathlib.Core.List.{List, [], ◌∷◌, ◌++◌}
use Prim.Native.Nat.{ℕ, zero, suc, ◌+◌, ◌*◌, ◌/◌, ◌%◌, ◌^◌, ◌<◌, ◌≤◌}
use native.Mathlib.Nat.{pow-zero, pow-suc, mul-pos, zero-add, zero-mul, mul_comm, div-one, mod-lt, mod-eq_of_lt, mod-one, mul-add-div_right}
use native.Mathlib.Nat.{mul-add-mod_self_right, div-div-eq-div-mul, pow-le-pow_right}
use native.Mathlib.Numerals.{add-one}
use native.Mathlib.Omega.{arith}
use lib.Arith.{digits_lt, digits_div, mod-mul}
use lib.ListN.{length, get_or, set, take, drop, length-take, length-drop}
use lib.Seq.{get_or-take, get_or-drop, take-suc}
use Rattle.words.specs.Words.{Below}
use Rattle.codec.specs.Placed.{placed}
use Rattle.codec.specs.BigEndian.{bytes_of, number_from}
use Rattle.codec.proofs.Placed.{placed_none, placed_before}

-- ---- every number of a list below a bound

pub below_tail : (p x : ℕ) (xs : List ℕ) → Below p (x ∷ xs) → Below p xs
below_tail p x xs h i l = h (suc i) (omega arith)

pub below_head : (p x : ℕ) (xs : List ℕ) → Below p (x ∷ xs) → x < p
below_head p x xs h = h 0 (omega arith)

pub below_cons : (p x : ℕ) (xs : List ℕ) → x < p → Below p xs → Below p (x ∷ xs)
below_cons p x xs h t zero l = h
below_cons p x xs h t (suc i) l = t i (omega arith)

pub below_take : (p n : ℕ) (xs : List ℕ) → Below p xs → Below p (take n xs)
below_take p n xs h i l =
    let a : i < n = omega (arith, length-take n xs) in
    rw (get_or-take n xs i 0 a) (h i (omega (arith, length-take n xs)))

pub below_drop : (p n : ℕ) (xs : List ℕ) → Below p xs → Below p (drop n xs)
below_drop p n xs h i l = rw get_or-drop (h (n + i) (omega (arith, length-drop n xs)))

-- ---- the equations of bytes_of and number_from

bytes_none : (x : ℕ) → bytes_of 0 x ≡ []
unfolding bytes_of
bytes_none x = refl

bytes_more : (k x : ℕ) → bytes_of (suc k) x ≡ x / 256 ^ k % 256 ∷ bytes_of k x
unfolding bytes_of
bytes_more k x = refl

number_none : (acc : ℕ) → number_from acc [] ≡ acc
unfolding number_from
number_none acc = refl

number_more : (acc b : ℕ) (bs : List ℕ) → number_from acc (b ∷ bs) ≡ number_from (acc * 256 + b) bs
unfolding number_from
number_more acc b bs = refl

-- ---- one number

-- k bytes are k
pub bytes_length : (k x : ℕ) → length (bytes_of k x) ≡ k
bytes_length zero x = rw bytes_none
bytes_length (suc k) x = rw bytes_more (ap suc (bytes_length k x))

-- every byte of a number is below 256
pub bytes_below : (k x : ℕ) → Below 256 (bytes_of k x)
bytes_below zero x = rw bytes_none (λ i l. omega arith)
bytes_below (suc k) x =
    rw bytes_more (below_cons 256 (x / 256 ^ k % 256) (bytes_of k x) (mod-lt (x / 256 ^ k) (omega arith)) (bytes_below k x))

pow_256 : (k : ℕ) → 0 < 256 ^ k
pow_256 zero = rw pow-zero (omega arith)
pow_256 (suc k) = rw pow-suc (mul-pos (pow_256 k) (omega arith))

-- reading the last k bytes of x after a number puts them behind it
number_after : (k acc x : ℕ) → number_from acc (bytes_of k x) ≡ acc * 256 ^ k + x % 256 ^ k
number_after zero acc x = rw (bytes_none, number_none, pow-zero, mod-one) (omega arith)
number_after (suc k) acc x =
    let c = 256 ^ k in
    let e : x % (256 * c) ≡ (x / c % 256) * c + x % c = mod-mul x (omega arith) (pow_256 k) in
    rw (bytes_more, number_more, number_after k (acc * 256 + x / c % 256) x, pow-suc, mul_comm c 256, e) (omega arith)

-- a number that fits its bytes is read from them again
pub number_of_bytes : (k x : ℕ) → x < 256 ^ k → number_from 0 (bytes_of k x) ≡ x
number_of_bytes k x h = number_after k 0 x ∙ rw (mod-eq_of_lt h) (omega arith)

-- the number after acc is acc before the number itself, which is below 256 for each byte
number_split : (acc : ℕ) (bs : List ℕ) → number_from acc bs ≡ acc * 256 ^ length bs + number_from 0 bs
number_split acc [] = simp (number_none, pow-zero) (omega arith)
number_split acc (b ∷ bs) =
    simp (number_more) (rw (number_split (acc * 256 + b) bs, number_split (0 * 256 + b) bs, pow-suc) (omega arith))

pub number_below : (bs : List ℕ) → Below 256 bs → number_from 0 bs < 256 ^ length bs
number_below [] h = rw (number_none, pow-zero) (omega arith)
number_below (b ∷ bs) h =
    rw (number_more, zero-mul, zero-add, number_split b bs, pow-suc, mul_comm (256 ^ length bs) 256)
    (digits_lt (below_head 256 b bs h) (number_below bs (below_tail 256 b bs h)))

-- a number's last k bytes do not look at what stands before them
bytes_behind : (k y x : ℕ) → bytes_of k (y * 256 ^ k + x) ≡ bytes_of k x
bytes_behind zero y x = simp bytes_none
bytes_behind (suc k) y x =
    let c = 256 ^ k in
    let e : y * (c * 256) + x ≡ y * 256 * c + x = omega arith in
    rw (pow-suc, e) (simp bytes_more (rw (bytes_behind k (y * 256) x, mul-add-div_right (pow_256 k) (y * 256) x, mul-add-mod_self_right y 256 (x / c))))

-- the bytes of the number that was read from bytes are these bytes
pub bytes_of_number : (bs : List ℕ) → Below 256 bs → bytes_of (length bs) (number_from 0 bs) ≡ bs
bytes_of_number [] h = bytes_none (number_from 0 [])
bytes_of_number (b ∷ bs) h =
    let t = below_tail 256 b bs h in
    let first : (b * 256 ^ length bs + number_from 0 bs) / 256 ^ length bs % 256 ≡ b =
    rw (digits_div b (number_below bs t)) (mod-eq_of_lt (below_head 256 b bs h)) in
    let rest : bytes_of (length bs) (b * 256 ^ length bs + number_from 0 bs) ≡ bs =
    bytes_behind (length bs) b (number_from 0 bs) ∙ bytes_of_number bs t in
    rw (number_more, zero-mul, zero-add, number_split b bs, bytes_more, first, rest)

-- ---- reading, one byte after the other

-- after i of the bytes: what they make, below 256 for each
pub record NumberRead (bs : List ℕ) (i x : ℕ) : Type 0 where
  pub made : x ≡ number_from 0 (take i bs)
  pub small : x < 256 ^ i

pub read_none : (bs : List ℕ) → NumberRead bs 0 0
unfolding number_from
read_none bs = record { made = refl; small = omega arith }

-- three bytes leave room for one more in four
pub read_fits : (bs : List ℕ) (i x : ℕ) → NumberRead bs i x → i < 4 → x < 16777216
read_fits bs i x r h = omega (arith, r.small, pow-le-pow_right {n = 256} (omega arith) {i = i} {j = 3} (omega arith))

number_snoc : (acc : ℕ) (bs : List ℕ) (b : ℕ) → number_from acc (bs ++ (b ∷ [])) ≡ number_from acc bs * 256 + b
number_snoc acc [] b = simp (number_more, number_none)
number_snoc acc (c ∷ bs) b = simp number_more (number_snoc (acc * 256 + c) bs b)

pub read_more : (bs : List ℕ) (i x : ℕ) → NumberRead bs i x → i < length bs → get_or bs i 0 < 256 → NumberRead bs (i + 1) (x * 256 + get_or bs i 0)
read_more bs i x r h b =
    record {
      made = rw (r.made, add-one, take-suc bs i 0 h) (sym (number_snoc 0 (take i bs) (get_or bs i 0)));
      small = rw (add-one, pow-suc) (omega (arith, r.small));
    }

-- ---- writing at a place, the last byte first

-- the last k bytes of x stand from the place on, and the others as before; what is left of x are the bytes before them
pub record NumberPut (at k x rest : ℕ) (old new : List ℕ) : Type 0 where
  pub put : new ≡ placed at (bytes_of k x) old
  pub left : rest ≡ x / 256 ^ k

pub put_none : (at x : ℕ) (old : List ℕ) → NumberPut at 0 x x old old
put_none at x old = record { put = rw bytes_none (sym (placed_none at old)); left = rw pow-zero (sym (div-one x)) }

pub put_more :
    (at k x rest : ℕ) (old new : List ℕ) → NumberPut (at + 1) k x rest old new → at + 1 + k ≤ length old
    → NumberPut at (suc k) x (rest / 256) old (set new at (rest % 256))
put_more at k x rest old new w h =
    record {
      put = rw (w.put, w.left, bytes_more) (placed_before at (x / 256 ^ k % 256) (bytes_of k x) old (omega (arith, bytes_length k x)));
      left = rw (w.left, pow-suc) (div-div-eq-div-mul x (256 ^ k) 256);
    }
