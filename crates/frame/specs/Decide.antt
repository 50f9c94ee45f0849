-- What reading and sealing check is decided; the types say what, and nothing computes with it.
use Rattle.std.specs.Prelude.{◌≡◌, refl, Bool, true, false, List, ℕ, ◌≤◌, ℤ, pos, length, get_or}
use Rattle.std.proofs.Common.{true≢false}
use Rattle.std.proofs.Math.Decide.{dec_le}
use Rattle.algebra.proofs.Choice.{all_below?}
use Rattle.signed.specs.Reading.{IsRecord}
use Rattle.signed.specs.Decide.{record?}
use Rattle.frame.specs.Bitmap.{bit_at, Unpadded}
use Rattle.frame.specs.Sealing.{Records}

false? : (b : Bool) → Dec (b ≡ false)
false? true = no true≢false
false? false = yes refl

clear? : (n : ℕ) (bytes : List ℕ) (j : ℕ) → Dec (n ≤ j → bit_at bytes j ≡ false)
clear? n bytes j = go (dec_le n j) (false? (bit_at bytes j))
  where
    go : Dec (n ≤ j) → Dec (bit_at bytes j ≡ false) → Dec (n ≤ j → bit_at bytes j ≡ false)
    go (no f) d = yes (λ h. absurd (f h))
    go (yes h) (yes e) = yes (λ _. e)
    go (yes h) (no f) = no (λ g. f (g h))

pub unpadded? : (n : ℕ) (bytes : List ℕ) → Dec (Unpadded n bytes)
unpadded? n bytes = all_below? (λ j. n ≤ j → bit_at bytes j ≡ false) (clear? n bytes) _

pub records? : (p low : ℕ) (zs : List ℤ) → Dec (Records p low zs)
records? p low zs = all_below? (λ i. IsRecord p low (get_or zs i (pos 0))) (λ i. record? p low (get_or zs i (pos 0))) (length zs)
