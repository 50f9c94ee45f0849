-- The sum of products that the sealer takes over the residues of one word is the frame's value for that word, and the values of all words
-- are the frame's. Then how many words the records have.
use mathlib.Core.Path.{◌≡◌, ap}
use mathlib.Core.List.{List}
use Prim.Native.Nat.{ℕ, ◌+◌, ◌*◌, ◌<◌, ◌≤◌}
use native.Mathlib.Nat.{mul-le-mul}
use native.Mathlib.Omega.{arith}
use lib.IntN.{ℤ}
use lib.ListN.{length, get_or, take}
use lib.Seq.{get_or-take, length-take-le}
use Rattle.algebra.proofs.Sums.{sum_same}
use Rattle.field.specs.Residue.{Residue, residues}
use Rattle.field.specs.View.{line}
use Rattle.field.specs.Products.{sum_of_products}
use Rattle.field.proofs.Written.{is_tabulate}
use Rattle.signed.specs.Reading.{residue_of}
use Rattle.frame.specs.Sealing.{word_of, sealed_word, sealed}

pub seal_sum :
    (p n s : ℕ) (zs : List ℤ) (xs rs : List ℕ) (w : ℕ) → n ≤ length rs → ((j : ℕ) → j < n → get_or rs j 0 ≡ residue_of p (word_of s zs j w))
    → (sum_of_products p (take n rs) xs 0 1).value ≡ sealed_word p n s zs xs w
unfolding sealed_word line
seal_sum p n s zs xs rs w h at =
    rw (length-take-le n rs h)
    (ap (λ (r : Residue p). r.value)
    (sum_same (residues p) n _ _
    (λ t l.
    let e : 0 + t * 1 ≡ t = omega arith in
    rw (e, get_or-take n rs t 0 l, at t l))))

-- values that are the sums of the s words, each, are the frame's
pub is_sealed : (p n s : ℕ) (zs : List ℤ) (xs vs : List ℕ) → length vs ≡ s → ((w : ℕ) → w < s → get_or vs w 0 ≡ sealed_word p n s zs xs w)
    → vs ≡ sealed p n s zs xs
unfolding sealed
is_sealed p n s zs xs vs long each = is_tabulate s (sealed_word p n s zs xs) vs long each

-- at most 64 records of at most 16 words have at most 1024
pub few_words : (n s : ℕ) → n ≤ 64 → s ≤ 16 → n * s ≤ 1024
few_words n s h l = mul-le-mul {n₁ = n} {m₁ = s} {n₂ = 64} {m₂ = 16} h l
