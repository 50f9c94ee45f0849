-- How many numbers the rooms hold. 01: a table has up to 64 rows and up to 64 columns.
use Rattle.std.specs.Prelude.{ℕ}
use Rattle.checks.specs.Largest.{largest, most_words}

-- the longest row or column
abbrev pub longest_row : ℕ
longest_row = largest

-- the most numbers carried behind a row: one for each word of a record
abbrev pub most_carried : ℕ
most_carried = most_words

-- a row with as many carried behind it
abbrev pub widest_row : ℕ
widest_row = 80

-- half the longest row
abbrev pub half_rows : ℕ
half_rows = 32

-- the largest table
abbrev pub largest_table : ℕ
largest_table = 4096

-- as many of the widest rows as the largest table has rows
abbrev pub widest_table : ℕ
widest_table = 5120
