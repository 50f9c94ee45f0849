-- The laws of a board's layout, by name: where rows and their values lie, and how large they are for at most 64 records of at most 16 words. All who
-- compute with places in a board go by these, and open no definition.
use mathlib.Core.Path.{◌≡◌, refl, ap}
use Prim.Native.Nat.{ℕ, suc, ◌+◌, ◌*◌, ◌-◌, ◌/◌, ◌%◌, ◌≤◌, ◌<◌}
use native.Mathlib.Nat.{mul-zero, zero-mul, mul-le-mul, mul-le-mul_right, mod-lt, div-add-mod', div-lt_iff_lt-mul}
use native.Mathlib.Omega.{arith}
use Rattle.checks.specs.Largest.{largest, most_words}
use Rattle.ledger.specs.Board.{header_length, row_length, row_start, value_start, board_length, largest_board}

-- what holds r < k * m has some m
some_length : (k m r : ℕ) → r < k * m → 0 < m
some_length k ℕ.zero r h = absurd (omega (arith, mul-zero k))
some_length k (suc m) r h = omega arith

module _ (n s : ℕ) where
  -- ---- rows one behind the other

  -- the first row begins behind the header, and row i ends where row i + 1 begins
  pub row_first : row_start n s 0 ≡ header_length
  unfolding row_start
  row_first = ap (λ q. header_length + q) (zero-mul (row_length n s))

  pub row_next : (i : ℕ) → row_start n s (suc i) ≡ row_start n s i + row_length n s
  unfolding row_start
  row_next i = omega arith

  -- rows in steps of their length, as a table of them is read
  pub row_step : (i : ℕ) → row_start n s i ≡ header_length + i * row_length n s
  unfolding row_start
  row_step i = refl

  -- behind the header
  pub row_behind : (i : ℕ) → header_length ≤ row_start n s i
  unfolding row_start
  row_behind i = omega arith

  -- a later row begins behind the whole of an earlier one, so that places of different rows differ
  pub row_later : (i j : ℕ) → i ≤ j → row_start n s i ≤ row_start n s j
  unfolding row_start
  row_later i j h = omega (arith, mul-le-mul_right (row_length n s) h)

  pub row_ends : (i j : ℕ) → i < j → row_start n s i + row_length n s ≤ row_start n s j
  row_ends i j h = omega (arith, row_next i, row_later (suc i) j h)

  -- and every place among k rows is a place of one of them
  pub row_place : (k q : ℕ) → header_length ≤ q → q < row_start n s k
      → (i : ℕ) × (t : ℕ) × (i < k) × (t < row_length n s) × (q ≡ row_start n s i + t)
  unfolding row_start
  row_place k q h l =
      let r : ℕ = q - header_length in
      let inside : r < k * row_length n s = omega arith in
      let some : 0 < row_length n s = some_length k (row_length n s) r inside in
      let split : r / row_length n s * row_length n s + r % row_length n s ≡ r = div-add-mod' r (row_length n s) in
      (r / row_length n s, r % row_length n s, (div-lt_iff_lt-mul some).1 inside, mod-lt r some, omega arith)

  -- ---- a row: n multipliers, and then its s values
  pub row_words_lem : row_length n s ≡ n + s
  unfolding row_length
  row_words_lem = refl

  pub value_behind : (i : ℕ) → value_start n s i ≡ row_start n s i + n
  unfolding value_start
  value_behind i = refl

  -- and with the values it ends
  pub value_last : (i : ℕ) → value_start n s i + s ≡ row_start n s (suc i)
  unfolding row_start value_start row_length
  value_last i = omega arith

  -- the values too stand in steps of a row's length
  pub value_step : (i : ℕ) → value_start n s i ≡ value_start n s 0 + i * row_length n s
  unfolding row_start value_start
  value_step i = omega (arith, zero-mul (row_length n s))

  -- ---- the whole board

  -- n rows are all, so that each of them, and its values, lie in the board
  pub board_rows : board_length n s ≡ row_start n s n
  unfolding board_length row_start
  board_rows = refl

  pub row_inside : (i : ℕ) → i ≤ n → row_start n s i ≤ board_length n s
  row_inside i h = omega (arith, board_rows, row_later i n h)

  pub value_inside : (i w : ℕ) → i < n → w < s → value_start n s i + w < board_length n s
  value_inside i w h l = omega (arith, value_last i, row_inside (suc i) h)

  pub header_inside : header_length ≤ board_length n s
  header_inside = omega (arith, board_rows, row_behind n)

  -- ---- at most 64 records of at most 16 words
  module _ (small : n ≤ largest) (few : s ≤ most_words) where
    pub row_most : (i : ℕ) → i ≤ largest → row_start n s i ≤ largest_board
    unfolding row_start row_length
    row_most i h = omega (arith, mul-le-mul {n₁ = i} {m₁ = n + s} {n₂ = 64} {m₂ = 80} h (omega arith))

    pub board_most : board_length n s ≤ largest_board
    board_most = omega (arith, board_rows, row_most n small)
