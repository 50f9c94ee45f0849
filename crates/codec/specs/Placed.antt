-- Bytes written to their place in others: these bytes there, and every other byte as before.
use Rattle.std.specs.Prelude.{◌≡◌, List, ◌++◌, ℕ, ◌+◌, length, take, drop}

-- the old bytes with the new ones in the place of those from `at` on
unfoldable pub placed : ℕ → List ℕ → List ℕ → List ℕ
placed at new old = take at old ++ new ++ drop (at + length new) old

-- these bytes written from `at` on; the answer is the place behind them
pub record Put (at : ℕ) (new before after : List ℕ) (answer : ℕ) : Type 0 where
  pub memory : after ≡ placed at new before
  pub end : answer ≡ at + length new
