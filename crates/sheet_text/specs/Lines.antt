-- 01, "The sheet program and the C side": what the sheet prints. The fixed words, and the lines made of them and of decimal
-- numbers, each as its list of ASCII bytes.
use Rattle.std.specs.Prelude.{List, [], ◌++◌, ℕ, zero, suc, eqb, ℤ, pos, get_or}
use Rattle.algebra.specs.Choice.{choose}
use Rattle.checks.specs.Told.{Told}
use Rattle.codec.specs.Decimal.{decimal, signed_decimal}
use Rattle.sheet_text.specs.Text.{ascii}

-- ---- the fixed words

unfoldable pub new_word : List ℕ
new_word = ascii "new "

unfoldable pub repeat_word : List ℕ
repeat_word = ascii "repeat "

unfoldable pub conflict_word : List ℕ
conflict_word = ascii "conflict "

unfoldable pub refused_word : List ℕ
refused_word = ascii "refused "

unfoldable pub missing_word : List ℕ
missing_word = ascii "missing "

unfoldable pub unknown_word : List ℕ
unknown_word = ascii "unknown"

unfoldable pub space : List ℕ
space = ascii " "

-- the line feed that ends each line
unfoldable pub line_feed : List ℕ
line_feed = ascii "\n"

-- ---- the lines

-- a word, a number and the line's end
unfoldable pub word_line : List ℕ → ℕ → List ℕ
word_line word n = word ++ decimal n ++ line_feed

-- `new K`, `repeat K`, `conflict K`, `refused N` and `missing M`
abbrev pub new_line : ℕ → List ℕ
new_line k = word_line new_word k

abbrev pub repeat_line : ℕ → List ℕ
repeat_line k = word_line repeat_word k

abbrev pub conflict_line : ℕ → List ℕ
conflict_line k = word_line conflict_word k

abbrev pub refused_line : ℕ → List ℕ
refused_line n = word_line refused_word n

abbrev pub missing_line : ℕ → List ℕ
missing_line m = word_line missing_word m

-- "Per frame one line: `new K`, `repeat K`, `conflict K` (refusal 9) or `refused N`, K the count afterwards, N the number": by what
-- take tells, which is 0 for new and 100 for repeat, and the count afterwards
unfoldable pub frame_line : Told → ℕ → List ℕ
frame_line t count =
    choose (eqb t.number 0) (new_line count)
    (choose (eqb t.number 100) (repeat_line count)
    (choose (eqb t.number 9) (conflict_line count)
    (refused_line t.number)))

-- a record's signed number where its mark is 1, `unknown` otherwise
unfoldable pub record_text : ℕ → ℤ → List ℕ
record_text mark z = choose (eqb mark 1) (signed_decimal z) unknown_word

-- the line of record j: its position, a space, and its signed number or `unknown`
unfoldable pub record_line : ℕ → ℕ → ℤ → List ℕ
record_line j mark z = decimal j ++ space ++ record_text mark z ++ line_feed

-- the lines of the first k records, from their marks and numbers
unfoldable pub record_lines : ℕ → List ℕ → List ℤ → List ℕ
record_lines zero marks numbers = []
record_lines (suc k) marks numbers = record_lines k marks numbers ++ record_line k (get_or marks k 0) (get_or numbers k (pos 0))
