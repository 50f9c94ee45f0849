-- What the calls check is decided; the types say what, and nothing computes with it. Whether a number is a modulus is decided
-- by looking at every number below it.
use Rattle.std.specs.Prelude.{◌≡◌, List, ℕ, ◌≤◌, ◌<◌, length}
use Rattle.std.proofs.Math.Logic.Dec
use Rattle.std.specs.Int.{◌∣◌}
use Rattle.std.proofs.Math.Decide.{dec_le, dec_lt, dec_dvd, ℕ_discrete}
use Rattle.algebra.proofs.Choice.{all_below?}
use Rattle.checks.specs.Prime.{largest_modulus, IsModulus}
use Rattle.checks.specs.Largest.{largest, Sizes, FrameSize, most_words, WordCount}

no_divisor? : (p d : ℕ) → Dec (1 < d → d ∣ p → ⊥)
no_divisor? p d = go (dec_lt 1 d) (dec_dvd d p)
  where
    go : Dec (1 < d) → Dec (d ∣ p) → Dec (1 < d → d ∣ p → ⊥)
    go (no f) v = yes (λ h. absurd (f h))
    go (yes h) (no f) = yes (λ _. f)
    go (yes h) (yes v) = no (λ f. f h v)

pub modulus? : (p : ℕ) → Dec (IsModulus p)
modulus? p = go (dec_le 2 p) (dec_le p largest_modulus) (all_below? (λ d. 1 < d → d ∣ p → ⊥) (no_divisor? p) p)
  where
    go : Dec (2 ≤ p) → Dec (p ≤ largest_modulus) → Dec ((d : ℕ) → d < p → 1 < d → d ∣ p → ⊥) → Dec (IsModulus p)
    go (no f) r a = no (λ m. f m.prime.two_or_more)
    go (yes t) (no f) a = no (λ m. f m.in_range)
    go (yes t) (yes r) (no f) = no (λ m. f (λ d l h v. m.prime.no_divisor d h l v))
    go (yes t) (yes r) (yes a) = yes (record { prime = record { two_or_more = t; no_divisor = λ d h l v. a d l h v }; in_range = r })

pub sizes? : (m n : ℕ) → Dec (Sizes m n)
sizes? m n = Dec.and (dec_le m largest) (dec_le n largest)

pub frame_size? : (n : ℕ) → Dec (FrameSize n)
frame_size? n = Dec.and (dec_le 1 n) (dec_le n largest)

pub word_count? : (s : ℕ) → Dec (WordCount s)
word_count? s = Dec.and (dec_le 1 s) (dec_le s most_words)

-- a slice has the length named
pub long? : {A : Type 0} (xs : List A) (k : ℕ) → Dec (length xs ≡ k)
long? xs k = ℕ_discrete (length xs) k
