-- That every number is below p is decided. 01, check 4: "a number not below p".
use Rattle.std.specs.Prelude.{List, ℕ, ◌<◌, length, get_or}
use Rattle.std.proofs.Math.Decide.{dec_lt}
use Rattle.algebra.proofs.Choice.{all_below?}
use Rattle.words.specs.Words.{Below}

pub below? : (p : ℕ) (xs : List ℕ) → Dec (Below p xs)
below? p xs = all_below? (λ i. get_or xs i 0 < p) (λ i. dec_lt (get_or xs i 0) p) (length xs)
