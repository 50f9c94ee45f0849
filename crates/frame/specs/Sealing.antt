-- 01: sealing gives a frame its value, the sum of products of records and multipliers modulo p. 02, #103: "Splits and reaction times
-- travel with the finish": a record has s words, and a frame one value for each. "Sealing takes n × s records in that order", "record
-- after record".
use Rattle.std.specs.Prelude.{List, ℕ, ◌+◌, ◌*◌, ◌<◌, ℤ, pos, length, get_or}
use Rattle.algebra.specs.Matrix.{sum}
use Rattle.field.specs.Residue.{reduce, residues, ◌⊗◌}
use Rattle.field.specs.Written.{tabulate}
use Rattle.signed.specs.Reading.{IsRecord, residue_of}

-- every number is a signed record, with the low end
abbrev pub Records : (p low : ℕ) → List ℤ → Type 0
Records p low zs = (i : ℕ) → i < length zs → IsRecord p low (get_or zs i (pos 0))

-- "record after record": where word w of record j stands among records of s words
abbrev pub word_place : (s j w : ℕ) → ℕ
word_place s j w = j * s + w

abbrev pub word_of : (s : ℕ) → List ℤ → (j w : ℕ) → ℤ
word_of s zs j w = get_or zs (word_place s j w) (pos 0)

-- the sum of products of word w of n records and n multipliers modulo p; a low end says only which numbers are records
unfoldable pub sealed_word : (p n s : ℕ) → List ℤ → List ℕ → (w : ℕ) → ℕ
sealed_word p n s zs xs w = (sum (residues p) n (λ j. reduce p (residue_of p (word_of s zs j w)) ⊗ reduce p (get_or xs j 0))).value

-- the values of the frame: one for each of the s words
unfoldable pub sealed : (p n s : ℕ) → List ℤ → List ℕ → List ℕ
sealed p n s zs xs = tabulate s (sealed_word p n s zs xs)
