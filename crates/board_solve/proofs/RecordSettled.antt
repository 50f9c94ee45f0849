-- What row j of D R says of record j of the ledger that a board holds. The assignments that meet the standing frames are the
-- solutions of R x = v in every word, with v its values, so the record is settled exactly if row j of D R is the unit row of j, and then
-- its words are row j of D v; and show marks and reads exactly so.
use mathlib.Core.Path.{◌≡◌, sym, ap, ◌∙◌}
use mathlib.Core.List.{List}
use Prim.Native.Nat.{ℕ, suc, ◌<◌}
use native.Mathlib.Omega.{arith}
use lib.IntN.{pos}
use lib.ListN.{length}
use Rattle.algebra.specs.Ring.{Ring, IsCommutativeRing}
use Rattle.algebra.specs.Matrix.{Vector, Matrix, product, apply, unit}
use Rattle.algebra.specs.Span.{Solves}
use Rattle.algebra.proofs.Sums.{sum_same}
use Rattle.checks.specs.Prime.{IsModulus}
use Rattle.field.specs.Residue.{Residue, residues, ◌⊗◌}
use Rattle.field.proofs.Field.{residues_field}
use Rattle.signed.specs.Reading.{reading}
use Rattle.ledger.specs.Board.{modulus_word, size_word, count_word, values_word, multiplier_table, entries_of}
use Rattle.ledger.specs.Ledger.{Assignment, MeetsAll, Settled, multiplier_rows, value_table}
use Rattle.ledger.specs.Steps.{shown_mark, shown_number}
use Rattle.ledger.proofs.LedgerLaws.{shown_exactly}
use Rattle.ledger.proofs.Parse.{words_count, rows_table, board_proper}
use Rattle.board_words.specs.Inverse.{BoardInverse}
use Rattle.board_solve.specs.Records.{values_of}
use Rattle.board_solve.proofs.Standing.{values_same}
use Rattle.board_solve.proofs.RecordSolutions as solutions

-- ---- the system that is held, and the ledger's words, with the board's modulus, size and count

abbrev ring_of : List ℕ → Ring
ring_of ws = residues (modulus_word ws)

abbrev SolvesHeld : (ws : List ℕ) (w : ℕ) → Vector (ring_of ws) → Type 0
SolvesHeld ws w x = Solves (ring_of ws) (count_word ws) (size_word ws) (multiplier_table ws) x (values_of ws w)

abbrev MeetsHeld : (ws : List ℕ) → Assignment (modulus_word ws) → Type 0
MeetsHeld ws x = MeetsAll (modulus_word ws) (size_word ws) (values_word ws) (entries_of ws) x

abbrev SettledIn : List ℕ → ℕ → Type 0
SettledIn ws j = Settled (modulus_word ws) (size_word ws) (values_word ws) (entries_of ws) j

-- row j of D R is the unit row of j; and D v of each word
abbrev pub UnitIn : (ws : List ℕ) (D : Matrix (ring_of ws)) → ℕ → Type 0
UnitIn ws D j = (c : ℕ) → c < size_word ws → product (ring_of ws) (count_word ws) D (multiplier_table ws) j c ≡ unit (ring_of ws) j c

abbrev pub value_in : (ws : List ℕ) → Matrix (ring_of ws) → Assignment (modulus_word ws)
value_in ws D j w = apply (ring_of ws) (count_word ws) D (values_of ws w) j

module _ (ws : List ℕ) (D : Matrix (residues (modulus_word ws))) (held : BoardInverse ws D) where
  sums_same : (x : Vector (ring_of ws)) (i : ℕ) → i < count_word ws
      → apply (ring_of ws) (size_word ws) (multiplier_rows (modulus_word ws) (entries_of ws)) x i
      ≡ apply (ring_of ws) (size_word ws) (multiplier_table ws) x i
  unfolding apply
  sums_same x i h =
      sum_same (ring_of ws) (size_word ws) (λ j. multiplier_rows (modulus_word ws) (entries_of ws) i j ⊗ x j)
      (λ j. multiplier_table ws i j ⊗ x j) (λ j l. ap (λ (a : Residue (modulus_word ws)). a ⊗ x j) (rows_table ws (modulus_word ws) i j h l))

  -- so the assignments that meet the standing frames are those of which every word is a solution
  solves_meets : (x : Assignment (modulus_word ws)) → ((w : ℕ) → w < values_word ws → SolvesHeld ws w (λ t. x t w)) → MeetsHeld ws x
  unfolding apply multiplier_rows value_table
  solves_meets x s i h w b =
      let l : i < count_word ws = omega (arith, words_count ws) in
      sums_same (λ t. x t w) i l ∙ s w b i l ∙ sym (values_same ws i w l b)

  meets_solves : (x : Assignment (modulus_word ws)) → MeetsHeld ws x → (w : ℕ) → w < values_word ws → SolvesHeld ws w (λ t. x t w)
  unfolding apply multiplier_rows value_table
  meets_solves x met w b i l =
      let h : i < length (entries_of ws) = omega (arith, words_count ws) in
      sym (sums_same (λ t. x t w) i l) ∙ met i h w b ∙ values_same ws i w l b

  module _ (ok : IsModulus (modulus_word ws)) where
    laws : IsCommutativeRing (ring_of ws)
    laws = (residues_field (modulus_word ws) ok.prime).ring

    -- D v is an assignment that meets the standing frames
    value_meets : MeetsHeld ws (value_in ws D)
    value_meets =
        solves_meets (value_in ws D) (λ w b. solutions.inverse_solves (ring_of ws) laws held.inverse held.all_rows (values_of ws w))

    -- a record is settled if row j of D R is the unit row of j
    unit_settled : (j : ℕ) → j < size_word ws → UnitIn ws D j → SettledIn ws j
    unit_settled j l row x y m k w b = agree x m ∙ sym (agree y k)
      where
        agree : (z : Assignment (modulus_word ws)) → MeetsHeld ws z → z j w ≡ value_in ws D j w
        agree z met =
            solutions.unit_agree (ring_of ws) laws held.inverse held.all_rows (values_of ws w) j l row (λ t. z t w) (meets_solves z met w b)

    -- D v with another solution in word 0
    with_first : Vector (ring_of ws) → Assignment (modulus_word ws)
    with_first x j ℕ.zero = x j
    with_first x j (suc w) = value_in ws D j (suc w)

    with_meets : (x : Vector (ring_of ws)) → SolvesHeld ws 0 x → MeetsHeld ws (with_first x)
    unfolding with_first
    with_meets x e = solves_meets (with_first x) each
      where
        each : (w : ℕ) → w < values_word ws → SolvesHeld ws w (λ t. with_first x t w)
        each ℕ.zero b = e
        each (suc w) b = solutions.inverse_solves (ring_of ws) laws held.inverse held.all_rows (values_of ws (suc w))

    -- and only if: word 0 alone shows it
    settled_unit : (j : ℕ) → SettledIn ws j → UnitIn ws D j
    unfolding with_first
    settled_unit j settled =
        solutions.agree_unit (ring_of ws) laws held.inverse held.all_rows (values_of ws 0) j
        (λ x y e f. settled (with_first x) (with_first y) (with_meets x e) (with_meets y f) 0 held.board.words.0)

    -- then the ledger marks it 1 and reads its words from row j of D v
    pub shown_at : (low j : ℕ) → j < size_word ws → UnitIn ws D j
        → (shown_mark (modulus_word ws) ok (size_word ws) (values_word ws) (entries_of ws) j ≡ 1)
        × ((w : ℕ) → w < values_word ws
        → shown_number (modulus_word ws) ok (size_word ws) (values_word ws) (entries_of ws) low j w
        ≡ reading (modulus_word ws) low (value_in ws D j w).value)
    shown_at low j l row =
        (shown_exactly (modulus_word ws) ok (size_word ws) (values_word ws) (entries_of ws) (board_proper ws held.board) low j).0
        (unit_settled j l row) (value_in ws D) value_meets

    -- otherwise it gives 0, and 0 for each word
    pub hidden_at : (low j : ℕ) → (UnitIn ws D j → ⊥)
        → (shown_mark (modulus_word ws) ok (size_word ws) (values_word ws) (entries_of ws) j ≡ 0)
        × ((w : ℕ) → w < values_word ws → shown_number (modulus_word ws) ok (size_word ws) (values_word ws) (entries_of ws) low j w ≡ pos 0)
    hidden_at low j no_row =
        (shown_exactly (modulus_word ws) ok (size_word ws) (values_word ws) (entries_of ws) (board_proper ws held.board) low j).1
        (λ settled. no_row (settled_unit j settled))
