-- The front of the checks of read, write and seal, from the calls' own definitions: 1, then 2, then 12, and only then 3. 02, #103: "12, s
-- outside 1 to 16, checked after 2 at open and in the three frame calls", "with lent memory untouched". So whatever is lent, of whatever
-- lengths, where p and n are right and s is not the call is refused by 12, and where p is right and n is not by 2, whatever s is.
use mathlib.Core.Path.{◌≡◌}
use mathlib.Core.List.{List}
use Prim.Native.Nat.{ℕ}
use lib.IntN.{ℤ}
use Rattle.checks.specs.declared.Refusal.{Refusal}
use Rattle.checks.specs.declared.Refusal.TheVariants.{Modulus, Size, Words}
use Rattle.checks.specs.Prime.{IsModulus}
use Rattle.checks.specs.Largest.{FrameSize, WordCount}
use Rattle.checks.specs.InOrder.{Checks, ◌else◌, ◌⨾◌, FirstFailing}
use Rattle.checks.specs.Decide.{modulus?, frame_size?, word_count?}
use Rattle.checks.specs.Outcome.{untouched}
use Rattle.checks.proofs.InOrder.{in_order_refused, fails_here, ◌then◌}
use Rattle.frame.specs.Calls.{read_rest, read_checks, read_call, write_rest, write_checks, write_call, seal_rest, seal_checks, seal_call}

-- 12 is third, whatever is checked after it
words_fail : (p n s : ℕ) (rest : Checks Refusal) → IsModulus p → FrameSize n → (WordCount s → ⊥)
    → FirstFailing (modulus? p else Modulus ⨾ frame_size? n else Size ⨾ word_count? s else Words ⨾ rest) Words
words_fail p n s rest ok size bad = ok then size then fails_here bad

module _ (p n s : ℕ) (bytes xs vs : List ℕ) where
  pub read_modulus_refused : (IsModulus p → ⊥) → read_call p n s bytes xs vs ≡ untouched (xs, vs) Modulus
  unfolding read_call
  read_modulus_refused bad = in_order_refused _ _ (fails_here bad)

  pub read_size_refused : IsModulus p → (FrameSize n → ⊥) → read_call p n s bytes xs vs ≡ untouched (xs, vs) Size
  unfolding read_call
  read_size_refused ok bad = in_order_refused _ _ (ok then fails_here bad)

  pub read_words_refused : IsModulus p → FrameSize n → (WordCount s → ⊥) → read_call p n s bytes xs vs ≡ untouched (xs, vs) Words
  unfolding read_call
  read_words_refused ok size bad =
      let f : FirstFailing (read_checks p n s bytes xs vs) Words = words_fail p n s (read_rest p n s bytes xs vs) ok size bad in in_order_refused _ _ f

module _ (p n s : ℕ) (xs vs lent : List ℕ) where
  pub write_modulus_refused : (IsModulus p → ⊥) → write_call p n s xs vs lent ≡ untouched lent Modulus
  unfolding write_call
  write_modulus_refused bad = in_order_refused _ _ (fails_here bad)

  pub write_size_refused : IsModulus p → (FrameSize n → ⊥) → write_call p n s xs vs lent ≡ untouched lent Size
  unfolding write_call
  write_size_refused ok bad = in_order_refused _ _ (ok then fails_here bad)

  pub write_words_refused : IsModulus p → FrameSize n → (WordCount s → ⊥) → write_call p n s xs vs lent ≡ untouched lent Words
  unfolding write_call
  write_words_refused ok size bad =
      let f : FirstFailing (write_checks p n s xs vs lent) Words = words_fail p n s (write_rest p n s xs vs lent) ok size bad in in_order_refused _ _ f

module _ (p n s low : ℕ) (zs : List ℤ) (xs lent : List ℕ) where
  pub seal_modulus_refused : (IsModulus p → ⊥) → seal_call p n s low zs xs lent ≡ untouched lent Modulus
  unfolding seal_call
  seal_modulus_refused bad = in_order_refused _ _ (fails_here bad)

  pub seal_size_refused : IsModulus p → (FrameSize n → ⊥) → seal_call p n s low zs xs lent ≡ untouched lent Size
  unfolding seal_call
  seal_size_refused ok bad = in_order_refused _ _ (ok then fails_here bad)

  pub seal_words_refused : IsModulus p → FrameSize n → (WordCount s → ⊥) → seal_call p n s low zs xs lent ≡ untouched lent Words
  unfolding seal_call
  seal_words_refused ok size bad =
      let f : FirstFailing (seal_checks p n s low zs xs lent) Words = words_fail p n s (seal_rest p n s low zs xs lent) ok size bad in in_order_refused _ _ f
