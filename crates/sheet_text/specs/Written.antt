-- What a lent slice holds once a line is written into it: the line at the front, and every other byte as before.
use Rattle.std.specs.Prelude.{◌≡◌, List, ℕ, length}
use Rattle.codec.specs.Placed.{placed}

-- a line written at the front; the answer is its length
pub record Printed (line before after : List ℕ) (answer : ℕ) : Type 0 where
  pub memory : after ≡ placed 0 line before
  pub size : answer ≡ length line
