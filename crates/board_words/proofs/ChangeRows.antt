-- What the functions that change a board's words leave, place by place: cleared words with a header, a row with its values behind
-- the standing rows, and the last rows cleared. Places of rows go by the laws of the layout.
use mathlib.Core.Path.{◌≡◌, ap, ◌∙◌}
use mathlib.Core.List.{List}
use Prim.Native.Nat.{ℕ, suc, ◌+◌, ◌-◌, ◌≤◌}
use native.Mathlib.Omega.{arith}
use lib.ListN.{length, get_or, take, drop, set, length-set}
use lib.Seq.{get_or-set_same, get_or-set_other}
use Rattle.words.specs.Words.{Blank}
use Rattle.words.proofs.Writes.{Put}
use Rattle.words.proofs.Parts.{replaced, replaced_length, replaced_inside, replaced_elsewhere, part_length}
use Rattle.ledger.specs.Board.{modulus_place, size_place, count_place, values_place, row_start, value_start, board_length}
use Rattle.ledger.specs.Changes.{Fresh, Appended, Dropped}
use Rattle.ledger.proofs.LayoutPlaces.{row_behind, row_later, value_behind, value_last, header_inside}

-- cleared words with p, n and s in the header are a fresh board
pub fresh_made : (p n s : ℕ) (ws : List ℕ) → length ws ≡ board_length n s → Blank ws
    → Fresh p n s (set (set (set ws modulus_place p) size_place n) values_place s)
fresh_made p n s ws long zero =
    let some : 4 ≤ length ws = omega (arith, header_inside n s) in
    record {
      long = length-set (set (set ws 0 p) 1 n) 3 s ∙ length-set (set ws 0 p) 1 n ∙ length-set ws 0 p ∙ long;
      modulus = behind 0 (omega arith) ∙ get_or-set_other (set ws 0 p) 1 0 n 0 (omega arith) ∙ get_or-set_same ws 0 p 0 (omega arith);
      size = behind 1 (omega arith) ∙ get_or-set_same (set ws 0 p) 1 n 0 (omega (arith, length-set ws 0 p));
      count = behind 2 (omega arith) ∙ cleared 2 (omega arith);
      words = get_or-set_same (set (set ws 0 p) 1 n) 3 s 0 (omega (arith, length-set (set ws 0 p) 1 n, length-set ws 0 p));
      zero_at = λ q h. behind q (omega arith) ∙ cleared q (omega arith);
    }
  where
    behind : (q : ℕ) → (q ≡ 3 → ⊥) → get_or (set (set (set ws 0 p) 1 n) 3 s) q 0 ≡ get_or (set (set ws 0 p) 1 n) q 0
    behind q other = get_or-set_other (set (set ws 0 p) 1 n) 3 q s 0 other

    cleared : (q : ℕ) → 2 ≤ q → get_or (set (set ws 0 p) 1 n) q 0 ≡ 0
    cleared q h = get_or-set_other (set ws 0 p) 1 q n 0 (omega arith) ∙ get_or-set_other ws 0 q p 0 (omega arith) ∙ zero q

-- the row, then its values behind it, then the count
pub put_appended : (n s k : ℕ) (xs vs before mid late : List ℕ)
    → Put xs (row_start n s k) n before mid → Put vs (value_start n s k) s mid late → row_start n s (suc k) ≤ length before
    → Appended n s k xs vs before (set late count_place (suc k))
put_appended n s k xs vs before mid late w v h =
    let start = row_behind n s k in
    let last = value_last n s k in
    let behind-row = value_behind n s k in
    record {
      long = length-set late 2 (suc k) ∙ v.long ∙ w.long;
      count = get_or-set_same late 2 (suc k) 0 (omega (arith, v.long, w.long));
      multiplier = λ j l. other (row_start n s k + j) (omega arith) ∙ v.front (row_start n s k + j) (omega arith) ∙ w.passed j l;
      value = λ u l. other (value_start n s k + u) (omega arith) ∙ v.passed u l;
      front = λ q e l. other q e ∙ v.front q (omega arith) ∙ w.front q l;
      behind = λ q l. other q (omega arith) ∙ v.behind q (omega arith) ∙ w.behind q (omega arith);
    }
  where
    other : (q : ℕ) → (q ≡ 2 → ⊥) → get_or (set late 2 (suc k)) q 0 ≡ get_or late q 0
    other q e = get_or-set_other late 2 q (suc k) 0 e

-- the words from row m to the end of row k cleared to ys, and m for the count
module _ (n s k m : ℕ) (ws ys : List ℕ) (fewer : m ≤ k) (inside : row_start n s k ≤ length ws)
    (long : length ys ≡ length (take (row_start n s k - row_start n s m) (drop (row_start n s m) ws))) (zero : Blank ys) where
  abbrev from : ℕ
  from = row_start n s m

  abbrev size : ℕ
  size = row_start n s k - row_start n s m

  fits : from + size ≤ length ws
  fits = omega (arith, row_later n s m k fewer)

  ys_long : length ys ≡ size
  ys_long = long ∙ part_length ws from size fits

  abbrev cleared : List ℕ
  cleared = replaced ws from size ys

  cleared_long : length cleared ≡ length ws
  cleared_long = replaced_length ws from size ys fits ys_long

  pub rows_dropped : Dropped n s k m ws (set (replaced ws (row_start n s m) (row_start n s k - row_start n s m) ys) count_place m)
  rows_dropped =
      let start = row_behind n s m in
      let later = row_later n s m k fewer in
      record {
        long = length-set cleared 2 m ∙ cleared_long;
        count = get_or-set_same cleared 2 m 0 (omega (arith, cleared_long));
        zero_at = λ q h l.
            let place : q ≡ from + (q - from) = omega arith in
            get_or-set_other cleared 2 q m 0 (omega arith)
            ∙ ap (λ r. get_or cleared r 0) place
            ∙ replaced_inside ws from size ys fits ys_long (q - from) (omega arith)
            ∙ zero (q - from);
        front = λ q other h.
            get_or-set_other cleared 2 q m 0 other ∙ replaced_elsewhere ws from size ys fits ys_long q (λ j l e. omega arith);
        behind = λ q h.
            get_or-set_other cleared 2 q m 0 (omega arith) ∙ replaced_elsewhere ws from size ys fits ys_long q (λ j l e. omega arith);
      }
