-- Whether a row f is a combination of the rows R of a board: the candidate c = f D is the only one that can be, and it is exactly if
-- c R = f. `combine` adds the rows, which it reads behind the header, with the multipliers c to zeros.
use mathlib.Core.Path.{◌≡◌, refl, sym, ap, ap₂, ◌∙◌}
use mathlib.Core.Bool.{Bool}
use mathlib.Core.List.{List, ◌++◌}
use Prim.Native.Nat.{ℕ, ◌+◌, ◌*◌, ◌-◌, ◌≤◌, ◌<◌}
use native.Mathlib.Decide.{dec_lt}
use native.Mathlib.Omega.{arith}
use lib.ListN.{length, get_or, take, drop, length-take}
use lib.Seq.{length-take-le, get_or-take, take_at, ext_get_or}
use Rattle.algebra.specs.Answers.{Tells}
use Rattle.algebra.specs.Matrix.{Vector, sum, mixed}
use Rattle.algebra.specs.Span.{Combines}
use Rattle.algebra.proofs.Sums.{sum_same}
use Rattle.algebra.proofs.Rings.{zero_plus}
use Rattle.algebra.proofs.Alike.{mixed_alike}
use Rattle.algebra.proofs.Applied.{mixed_same}
use Rattle.algebra.proofs.Independent.{combination_found}
use Rattle.checks.specs.Largest.{largest}
use Rattle.field.specs.Residue.{Residue, reduce, residues, ◌⊕◌, ◌⊗◌}
use Rattle.field.specs.View.{line}
use Rattle.field.specs.Products.{sum_of_products}
use Rattle.field.proofs.Field.{residues_ring}
use Rattle.field.proofs.Residues.{reduce_of_value, reduce_injective, below_of_value}
use Rattle.field.proofs.Views.{table_entry}
use Rattle.words.specs.Words.{Below, Zeros}
use Rattle.words.proofs.Parts.{part_length, part_at}
use Rattle.matrix_mul.specs.Rows.{CombinedInto}
use Rattle.ledger.specs.Board.{IsBoard, header_length, row_length, modulus_word, size_word, count_word, values_word, rows_end, multiplier_table, entries_of}
use Rattle.ledger.specs.Ledger.{multiplier_rows}
use Rattle.ledger.proofs.LayoutPlaces.{row_words_lem, row_step, row_ends, row_inside}
use Rattle.ledger.proofs.Parse.{words_count, rows_table}
use Rattle.board_solve.specs.Combination.{residues_of, Findable, Combination}
use Rattle.board_solve.proofs.Standing.{board_sizes}
use Rattle.board_solve.proofs.Candidates.{line_residues}

-- ---- the words behind the header

abbrev behind_header : List ℕ → List ℕ
behind_header ws = take (length ws - header_length) (drop header_length ws)

module _ (ws : List ℕ) (b : IsBoard ws) where
  part_long : length (behind_header ws) ≡ length ws - header_length
  part_long = part_length ws header_length (length ws - header_length) (omega (arith, b.four))

  -- they are below p: the rows, and the zeros behind them
  pub part_below : Below (modulus_word ws) (behind_header ws)
  part_below q l =
      let inside : q < length ws - header_length = omega (arith, part_long) in
      rw (part_at ws header_length (length ws - header_length) q inside) (by_place inside (dec_lt (header_length + q) (rows_end ws)))
    where
      by_place : q < length ws - header_length → Dec (header_length + q < rows_end ws) → get_or ws (header_length + q) 0 < modulus_word ws
      by_place inside (yes h) = b.below (header_length + q) (omega arith) h
      by_place inside (no h) = rw (b.zeros (header_length + q) (omega arith) (omega arith)) (board_sizes ws b).0

  -- row t lies in them, where rows are w words apart
  pub part_inside : (w : ℕ) → w ≡ row_length (size_word ws) (values_word ws) → (t : ℕ) → t < count_word ws → 0 + t * w + size_word ws ≤ length (behind_header ws)
  part_inside w wide t h =
      let n = size_word ws in
      let s = values_word ws in
      rw wide
      (omega
      (arith, part_long, b.long, row_step n s t, row_ends n s t (count_word ws) h, row_words_lem n s, row_inside n s (count_word ws) b.count))

  -- and the numbers from j on, in steps of a row's length, are column j of R
  part_entry : (t j : ℕ) → t < count_word ws → j < size_word ws
      → line (modulus_word ws) (behind_header ws) (0 + j) (row_length (size_word ws) (values_word ws)) t ≡ multiplier_table ws t j
  unfolding line
  part_entry t j h l =
      let n = size_word ws in
      let s = values_word ws in
      let place : header_length + (0 + j + t * row_length n s) ≡ header_length + t * row_length n s + j = omega arith in
      ap (reduce (modulus_word ws))
      (part_at ws header_length (length ws - header_length) (0 + j + t * row_length n s) (omega (arith, part_inside (row_length n s) refl t h, part_long))
      ∙ ap (λ q. get_or ws q 0) place)
      ∙ sym (table_entry (modulus_word ws) ws header_length (row_length n s) (count_word ws) n t j h l)

-- the multipliers are below p
pub multipliers_below : (ws f c : List ℕ) → Findable ws f c → Below (modulus_word ws) (take (count_word ws) c)
multipliers_below ws f c H i l =
    let p = modulus_word ws in
    let inside : i < count_word ws = omega (arith, length-take (count_word ws) c) in
    rw (get_or-take (count_word ws) c i 0 inside)
    (below_of_value (board_sizes ws H.candidate.inverse.board).0
    (mixed (residues p) (size_word ws) (residues_of p f) H.candidate.D i) (H.candidate.each i inside))

-- ---- g is c R, where `combine` has made it

module _ (ws f c zs g : List ℕ) (H : Findable ws f c) (z : Zeros largest zs) (w : ℕ) (wide : w ≡ row_length (size_word ws) (values_word ws))
    (made : CombinedInto (modulus_word ws) (take (count_word ws) c) (behind_header ws) 0 w (take (size_word ws) zs) g) where
  abbrev p : ℕ
  p = modulus_word ws

  abbrev n : ℕ
  n = size_word ws

  abbrev k : ℕ
  k = count_word ws

  board : IsBoard ws
  board = H.candidate.inverse.board

  positive : 0 < modulus_word ws
  positive = (board_sizes ws board).0

  multipliers_long : length (take k c) ≡ k
  multipliers_long = length-take-le k c (omega (arith, H.candidate.long, (board_sizes ws board).2))

  zeros_long : length (take n zs) ≡ n
  zeros_long = length-take-le n zs (omega (arith, z.0, (board_sizes ws board).1))

  g_long : length g ≡ n
  g_long = made.0 ∙ zeros_long

  -- the sum of products that is added at j
  abbrev added : ℕ → Residue p
  added j = sum_of_products p (take k c) (behind_header ws) (0 + j) w

  added_mixed : (j : ℕ) → j < n → added j ≡ mixed (residues p) k (residues_of p c) (multiplier_table ws) j
  unfolding mixed
  added_mixed j l =
      ap (λ m. sum (residues p) m (λ t. line p (take k c) 0 1 t ⊗ line p (behind_header ws) (0 + j) w t)) multipliers_long
      ∙ sum_same (residues p) k _ _
      (λ t h.
      ap₂ ◌⊗◌ (line_residues p (take k c) t ∙ ap (reduce p) (get_or-take k c t 0 h))
      (ap (λ s. line p (behind_header ws) (0 + j) s t) wide ∙ part_entry ws board t j h l))

  number : (j : ℕ) → j < n → get_or g j 0 ≡ (mixed (residues p) k (residues_of p c) (multiplier_table ws) j).value
  number j l =
      made.1 j (omega (arith, zeros_long))
      ∙ ap (λ (a : Residue p). a.value)
      (ap (λ x. reduce p x ⊕ added j) (get_or-take n zs j 0 l ∙ z.1 j)
      ∙ zero_plus (residues p) (residues_ring p positive) (added j)
      ∙ added_mixed j l)

  -- as residues, c is f D and g is c R
  first_mix : (t : ℕ) → t < k → residues_of p c t ≡ mixed (residues p) n (residues_of p f) H.candidate.D t
  first_mix t h = reduce_of_value _ (H.candidate.each t h)

  second_mix : (j : ℕ) → j < n → residues_of p g j ≡ mixed (residues p) k (residues_of p c) (multiplier_table ws) j
  second_mix j l = reduce_of_value _ (number j l)

  -- where g is f, c combines the rows to f
  same_combines : f ≡ g → Combines (residues p) k n (multiplier_table ws) (residues_of p c) (residues_of p f)
  same_combines e j l = ap (λ xs. reduce p (get_or xs j 0)) e ∙ second_mix j l

  -- and where any combination of the rows is f, g is f
  combines_same : (u : Vector (residues p)) → Combines (residues p) k n (multiplier_table ws) u (residues_of p f) → f ≡ g
  combines_same u h = ext_get_or 0 f g (H.row.long ∙ sym g_long) (λ j b. at j (rw H.row.long at b))
    where
      at : (j : ℕ) → j < n → get_or f j 0 ≡ get_or g j 0
      at j l =
          reduce_injective p (get_or f j 0) (get_or g j 0) (H.row.below j l)
          (below_of_value positive (mixed (residues p) k (residues_of p c) (multiplier_table ws) j) (number j l))
          (combination_found (residues p) (residues_ring p positive) H.candidate.inverse.inverse.absorbs (residues_of p f) u h j l
          ∙ mixed_same (residues p) k (mixed (residues p) n (residues_of p f) H.candidate.D) (residues_of p c) (multiplier_table ws)
          (λ t b. sym (first_mix t b)) j
          ∙ sym (second_mix j l))

  -- the rows are those of the entries
  entry_mixed : (u : Vector (residues p)) (j : ℕ) → j < n
      → mixed (residues p) (length (entries_of ws)) u (multiplier_rows p (entries_of ws)) j ≡ mixed (residues p) k u (multiplier_table ws) j
  entry_mixed u j l =
      ap (λ m. mixed (residues p) m u (multiplier_rows p (entries_of ws)) j) (words_count ws)
      ∙ mixed_alike (residues p) k n (multiplier_rows p (entries_of ws)) (multiplier_table ws) (rows_table ws p) u j l

  -- so the test whether that is f tells whether f is a combination of them
  pub found : {t : Bool} → Tells t (f ≡ take n (g ++ drop n zs)) → Combination ws f c t
  found told =
      let front = take_at g (drop n zs) n g_long in
      record {
        long = H.candidate.long;
        below = λ i h. below_of_value positive (mixed (residues p) n (residues_of p f) H.candidate.D i) (H.candidate.each i h);
        zeros = H.candidate.zeros;
        combines = λ e j l. same_combines (told.0 e ∙ front) j l ∙ sym (entry_mixed (residues_of p c) j l);
        differs = λ e (u, h). told.1 e (combines_same u (λ j l. h j l ∙ entry_mixed u j l) ∙ sym front);
      }
