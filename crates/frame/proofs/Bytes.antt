-- Lists of numbers, each as w bytes, one after the other: written and read back, and by places in the bytes.
use mathlib.Core.Path.{◌≡◌, refl, sym, ap, ◌∙◌}
use mathlib.Core.List.{List, [], ◌∷◌, ◌++◌, append_assoc, append-nil}
use Prim.Native.Nat.{ℕ, zero, suc, ◌+◌, ◌*◌, ◌^◌, ◌≤◌, ◌<◌}
use native.Mathlib.Nat.{mul-zero, mul-suc}
use native.Mathlib.Omega.{arith}
use lib.ListN.{length, get_or, take, drop, length-append, length-drop}
use lib.Seq.{take_at, drop_at, take-add, take_all, drop-drop, length-take-le}
use Rattle.words.specs.Words.{Below}
use Rattle.codec.specs.BigEndian.{bytes_of, number_from, number_at}
use Rattle.codec.proofs.BigEndian.{bytes_length, number_of_bytes, bytes_of_number, below_head, below_tail, below_take, below_drop}
use Rattle.frame.specs.Format.{value_bytes}
use Rattle.frame.specs.Reading.{numbers_in}

module _ (w : ℕ) where
  pub values_none : value_bytes w [] ≡ []
  unfolding value_bytes
  values_none = refl

  pub values_more : (v : ℕ) (vs : List ℕ) → value_bytes w (v ∷ vs) ≡ bytes_of w v ++ value_bytes w vs
  unfolding value_bytes
  values_more v vs = refl

  pub numbers_none : (bs : List ℕ) → numbers_in w 0 bs ≡ []
  unfolding numbers_in
  numbers_none bs = refl

  numbers_first : (k : ℕ) (bs : List ℕ) → numbers_in w (suc k) bs ≡ number_from 0 (take w bs) ∷ numbers_in w k (drop w bs)
  unfolding numbers_in
  numbers_first k bs = refl

  pub value_bytes_length : (vs : List ℕ) → length (value_bytes w vs) ≡ w * length vs
  value_bytes_length [] = rw values_none (omega arith)
  value_bytes_length (v ∷ vs) = rw (values_more, length-append, bytes_length w v, value_bytes_length vs) (omega (arith, mul-suc w (length vs)))

  pub numbers_length : (k : ℕ) (bs : List ℕ) → length (numbers_in w k bs) ≡ k
  numbers_length zero bs = rw numbers_none
  numbers_length (suc k) bs = rw numbers_first (ap suc (numbers_length k (drop w bs)))

  -- numbers that fit are read again from their bytes, whatever stands behind these
  pub numbers_of_values : (ns rest : List ℕ) → Below (256 ^ w) ns → numbers_in w (length ns) (value_bytes w ns ++ rest) ≡ ns
  numbers_of_values [] rest h = numbers_none (value_bytes w [] ++ rest)
  numbers_of_values (x ∷ ns) rest h =
      let front = bytes_of w x in
      let back = value_bytes w ns ++ rest in
      let taken = take_at front back w (bytes_length w x) in
      let dropped = drop_at front back w (bytes_length w x) in
      let first = number_of_bytes w x (below_head (256 ^ w) x ns h) in
      let others = numbers_of_values ns rest (below_tail (256 ^ w) x ns h) in
      rw (values_more, append_assoc, numbers_first, taken, dropped, first, others)

  -- and where nothing does
  pub numbers_of_all : (ns : List ℕ) → Below (256 ^ w) ns → numbers_in w (length ns) (value_bytes w ns) ≡ ns
  numbers_of_all ns h = ap (numbers_in w (length ns)) (sym (append-nil (value_bytes w ns))) ∙ numbers_of_values ns [] h

  -- the numbers that stand in bytes have these bytes
  pub values_of_numbers : (k : ℕ) (bs : List ℕ) → Below 256 bs → w * k ≤ length bs → value_bytes w (numbers_in w k bs) ≡ take (w * k) bs
  values_of_numbers zero bs h l = rw (numbers_none, values_none, mul-zero)
  values_of_numbers (suc k) bs h l =
      let e : w * suc k ≡ w + w * k = omega (arith, mul-suc w k) in
      let long : length (take w bs) ≡ w = length-take-le w bs (omega arith) in
      let front = rw long at (bytes_of_number (take w bs) (below_take 256 w bs h)) in
      let back = values_of_numbers k (drop w bs) (below_drop 256 w bs h) (omega (arith, length-drop w bs)) in
      rw (numbers_first, values_more, back, e, take-add w (w * k) bs, front)

  pub all_of_numbers : (k : ℕ) (bs : List ℕ) → Below 256 bs → length bs ≡ w * k → value_bytes w (numbers_in w k bs) ≡ bs
  all_of_numbers k bs h l = values_of_numbers k bs h (omega arith) ∙ take_all (w * k) bs (omega arith)

  -- the numbers that stand from a place on: the one there, and those from the next place on
  pub numbers_more :
      (bytes : List ℕ) (at k : ℕ) → numbers_in w (suc k) (drop at bytes) ≡ number_at w bytes at ∷ numbers_in w k (drop (at + w) bytes)
  unfolding numbers_in number_at
  numbers_more bytes at k = rw drop-drop

  -- each of them
  pub numbers_at : (bytes : List ℕ) (at k i : ℕ) → i < k → get_or (numbers_in w k (drop at bytes)) i 0 ≡ number_at w bytes (at + w * i)
  numbers_at bytes at zero i h = absurd (omega arith)
  numbers_at bytes at (suc k) zero h = rw numbers_more (let e : at + w * 0 ≡ at = omega arith in rw e)
  numbers_at bytes at (suc k) (suc i) h =
      let e : at + w * suc i ≡ at + w + w * i = omega (arith, mul-suc w i) in
      rw (numbers_more, e) (numbers_at bytes (at + w) k i (omega arith))
