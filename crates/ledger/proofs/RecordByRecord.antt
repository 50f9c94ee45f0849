-- Lists of signed numbers: how many are written and what stands at each place, one after the other (`tabulateℤ`) and record after record
-- (`record_by_record`): word w of record j at j × s + w; and a list with these numbers at these places is that list.
use mathlib.Core.Path.{◌≡◌, refl, sym, ap, ◌∙◌}
use mathlib.Core.List.{List}
use Prim.Native.Nat.{ℕ, zero, suc, ◌+◌, ◌*◌, ◌/◌, ◌%◌, ◌<◌}
use native.Mathlib.Nat.{zero-mul, mul-le-mul_right, not-suc-le-zero, le_of_suc-le-suc, mod-lt, div-add-mod', div-lt_iff_lt-mul}
use native.Mathlib.Omega.{arith}
use lib.IntN.{ℤ, pos}
use lib.ListN.{length, get_or, length-append, get_or-append}
use lib.Seq.{ext_get_or, get_or-append-add}
use Rattle.frame.specs.Sealing.{word_place, word_of}
use Rattle.ledger.specs.Steps.{tabulateℤ, record_by_record}

-- how many signed numbers are written, and what stands at each place
pub length_tabulateℤ : (k : ℕ) (f : ℕ → ℤ) → length (tabulateℤ k f) ≡ k
unfolding tabulateℤ
length_tabulateℤ zero f = refl
length_tabulateℤ (suc k) f = ap suc (length_tabulateℤ k (λ t. f (suc t)))

pub getD_tabulateℤ : (k : ℕ) (f : ℕ → ℤ) (i : ℕ) → i < k → get_or (tabulateℤ k f) i (pos 0) ≡ f i
unfolding tabulateℤ
getD_tabulateℤ zero f i h = absurd (not-suc-le-zero h)
getD_tabulateℤ (suc k) f zero h = refl
getD_tabulateℤ (suc k) f (suc i) h = getD_tabulateℤ k (λ t. f (suc t)) i (le_of_suc-le-suc h)

-- a list of k signed numbers with f i at each place i is what is written
pub is_tabulateℤ : (k : ℕ) (f : ℕ → ℤ) (zs : List ℤ) → length zs ≡ k → ((i : ℕ) → i < k → get_or zs i (pos 0) ≡ f i) → zs ≡ tabulateℤ k f
is_tabulateℤ k f zs l h =
    ext_get_or (pos 0) zs (tabulateℤ k f) (l ∙ sym (length_tabulateℤ k f))
    (λ i b. h i (rw l at b) ∙ sym (getD_tabulateℤ k f i (rw l at b)))

-- ---- record after record

pub length_records : (n s : ℕ) (f : ℕ → ℕ → ℤ) → length (record_by_record n s f) ≡ n * s
unfolding record_by_record
length_records zero s f = sym (zero-mul s)
length_records (suc n) s f =
    omega (
      arith,
      length-append (tabulateℤ s (f 0)) (record_by_record n s (λ j. f (suc j))),
      length_tabulateℤ s (f 0),
      length_records n s (λ j. f (suc j)),
    )

-- word w of record j stands at j × s + w
pub word_of_records : (n s : ℕ) (f : ℕ → ℕ → ℤ) (j w : ℕ) → j < n → w < s → word_of s (record_by_record n s f) j w ≡ f j w
unfolding record_by_record
word_of_records zero s f j w h l = absurd (not-suc-le-zero h)
word_of_records (suc n) s f zero w h l =
    let front = tabulateℤ s (f 0) in
    let long = length_tabulateℤ s (f 0) in
    let place : 0 * s + w ≡ w = omega arith in
    ap (λ q. get_or (record_by_record (suc n) s f) q (pos 0)) place
    ∙ get_or-append front (record_by_record n s (λ j. f (suc j))) (pos 0) w (omega arith)
    ∙ getD_tabulateℤ s (f 0) w l
word_of_records (suc n) s f (suc j) w h l =
    let front = tabulateℤ s (f 0) in
    let long = length_tabulateℤ s (f 0) in
    let place : suc j * s + w ≡ length front + (j * s + w) = omega arith in
    ap (λ q. get_or (record_by_record (suc n) s f) q (pos 0)) place
    ∙ get_or-append-add front (record_by_record n s (λ i. f (suc i))) (j * s + w) (pos 0)
    ∙ word_of_records n s (λ i. f (suc i)) j w (le_of_suc-le-suc h) l

-- that place is among n × s
pub place_inside : (n s j w : ℕ) → j < n → w < s → word_place s j w < n * s
place_inside n s j w h l = omega (arith, mul-le-mul_right s h)

-- and every one of them is that of a word of a record
pub word_place_lem : (n s q : ℕ) → q < n * s → (j : ℕ) × (w : ℕ) × (j < n) × (w < s) × (q ≡ j * s + w)
word_place_lem n zero q h = absurd (omega arith)
word_place_lem n (suc s) q h =
    let split : q / suc s * suc s + q % suc s ≡ q = div-add-mod' q (suc s) in
    let some : 0 < suc s = omega arith in
    (q / suc s, q % suc s, (div-lt_iff_lt-mul some).1 h, mod-lt q some, omega arith)

-- n × s signed numbers with f j w as word w of record j are what is written
pub is_records : (n s : ℕ) (f : ℕ → ℕ → ℤ) (zs : List ℤ) → length zs ≡ n * s
    → ((j w : ℕ) → j < n → w < s → word_of s zs j w ≡ f j w) → zs ≡ record_by_record n s f
is_records n s f zs long at =
    ext_get_or (pos 0) zs (record_by_record n s f) (long ∙ sym (length_records n s f))
    (λ q b.
    let (j, w, h, l, e) = word_place_lem n s q (rw long at b) in
    ap (λ k. get_or zs k (pos 0)) e ∙ at j w h l ∙ sym (ap (λ k. get_or (record_by_record n s f) k (pos 0)) e ∙ word_of_records n s f j w h l))
