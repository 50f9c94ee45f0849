-- Document 02, request 104: "the sum of products of a row and a column is to copy no column, but read it from the table by steps of
-- the row's width. Its contract gives the sum for any lent row and any start and step whose places all lie in the table."
use Rattle.std.specs.Prelude.{List, ℕ, ◌+◌, ◌*◌, ◌<◌, length}
use Rattle.algebra.specs.Matrix.{sum}
use Rattle.field.specs.Residue.{Residue, residues, ◌⊗◌}
use Rattle.field.specs.View.{line}

-- "places all lie in the table": start, start + step, .., k of them, lie in a list of length len
abbrev pub Reaches : (k start step len : ℕ) → Type 0
Reaches k start step len = (t : ℕ) → t < k → start + t * step < len

-- the sum of the products of the row's numbers and the table's at start, start + step, .., modulo p
abbrev pub sum_of_products : (p : ℕ) (row table : List ℕ) (start step : ℕ) → Residue p
sum_of_products p row table start step = sum (residues p) (length row) (λ t. line p row 0 1 t ⊗ line p table start step t)
