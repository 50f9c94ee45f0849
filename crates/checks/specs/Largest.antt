-- 01: "A table A has m rows and n columns, each from 0 to 64"; a heat has 1 to 64 records. 02, #103: "s words a record, 1 to 16".
use Rattle.std.specs.Prelude.{ℕ, ◌≤◌}

-- the most rows, columns or records
abbrev pub largest : ℕ
largest = 64

-- the sizes of a table
abbrev pub Sizes : ℕ → ℕ → Type 0
Sizes m n = (m ≤ largest) × (n ≤ largest)

-- the number of records of a heat: what a frame or a board is for
abbrev pub FrameSize : ℕ → Type 0
FrameSize n = (1 ≤ n) × (n ≤ largest)

-- the most words of a record, and the number of them: how many values a frame ends in
abbrev pub most_words : ℕ
most_words = 16

abbrev pub WordCount : ℕ → Type 0
WordCount s = (1 ≤ s) × (s ≤ most_words)
