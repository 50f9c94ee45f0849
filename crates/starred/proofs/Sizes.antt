-- A modulus, a size and a number of words are tested by a test that computes.
use mathlib.Core.Path.{◌≡◌}
use mathlib.Core.Bool.{Bool, true}
use Prim.Native.Nat.{ℕ}
use lib.Dec.{leb}
use borrow.Author.Tests.{leb-true}
use Rattle.checks.specs.Largest.{largest, FrameSize, most_words, WordCount}
use Rattle.checks.specs.Prime.{largest_modulus, IsModulus}
use Rattle.matrix.proofs.Checker.{◌and◌, both}
use Rattle.matrix.proofs.CheckedTables.{is_prime, prime_checked}

-- a modulus, a number of records of a heat, and of words of each
unfoldable pub are_sizes : (p n s : ℕ) → Bool
are_sizes p n s = is_prime p and leb p largest_modulus and leb 1 n and leb n largest and leb 1 s and leb s most_words

pub sizes_checked : (p n s : ℕ) → are_sizes p n s ≡ true → IsModulus p × FrameSize n × WordCount s
unfolding are_sizes
sizes_checked p n s t =
    let (t, most-words) = both _ _ t in
    let (t, least-words) = both _ _ t in
    let (t, most) = both _ _ t in
    let (t, least) = both _ _ t in
    let (prime, in_range) = both _ _ t in (
      record { prime = prime_checked p prime; in_range = leb-true _ _ in_range },
      (leb-true _ _ least, leb-true _ _ most),
      (leb-true _ _ least-words, leb-true _ _ most-words),
    )
