-- 02, #111: "A number in a frame now has the fewest bytes that hold p - 1, from 1 to 4, most significant first."
use Rattle.std.specs.Prelude.{ℕ, ◌-◌, ◌^◌, ◌≤◌, ◌<◌, leb}
use Rattle.algebra.specs.Choice.{choose}

-- the bytes of a number modulo p, a multiplier or a value: one holds 256 numbers, two hold 65536, three hold 16777216
unfoldable pub width : ℕ → ℕ
width p = choose (leb p 256) 1 (choose (leb p 65536) 2 (choose (leb p 16777216) 3 4))

-- k bytes hold x: it is one of their 256^k numbers
abbrev pub Holds : (k x : ℕ) → Type 0
Holds k x = x < 256 ^ k

-- "the fewest bytes that hold p - 1, from 1 to 4". That `width p` is this, for every modulus, is `width_fewest` in proofs/Widths.antt.
pub record Fewest (p k : ℕ) : Type 0 where
  pub holds : Holds k (p - 1)
  pub fewest : (i : ℕ) → Holds i (p - 1) → k ≤ i
  pub from : 1 ≤ k
  pub to : k ≤ 4
