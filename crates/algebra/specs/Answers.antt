-- What a function that answers a question with true or false tells.
use Rattle.std.specs.Prelude.{◌≡◌, Bool, true, false}

-- the test tells whether P holds
abbrev pub Tells : Bool → Type 0 → Type 0
Tells b P = (b ≡ true → P) × (b ≡ false → P → ⊥)
