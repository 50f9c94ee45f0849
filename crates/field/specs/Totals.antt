-- Sums and products of natural numbers, as the loops of `sums` make them before anything is reduced.
use Rattle.std.specs.Prelude.{List, ℕ, zero, suc, ◌+◌, ◌*◌, get_or}

-- f 0 + .. + f (n - 1)
unfoldable pub total : ℕ → (ℕ → ℕ) → ℕ
total zero f = 0
total (suc n) f = total n f + f n

-- the products of the numbers of xs and of those of ys at start, start + step, ..
unfoldable pub products : List ℕ → List ℕ → ℕ → ℕ → ℕ → ℕ
products xs ys start step t = get_or xs t 0 * get_or ys (start + t * step) 0
