-- The candidate f D: the solution of the system of the turned board with the right side f is D' f for a pivot inverse D' of the turned
-- rows, so it is f D for the turned D', which is a pivot inverse of the rows.
use mathlib.Core.Path.{◌≡◌, sym, ap, ◌∙◌}
use mathlib.Core.List.{List, ◌++◌}
use Prim.Native.Nat.{ℕ, ◌*◌}
use native.Mathlib.Nat.{zero-add, mul-one}
use native.Mathlib.Omega.{arith}
use lib.Dec.{eqb}
use lib.ListN.{length, get_or, take, drop}
use lib.Seq.{length-take-le, length_front}
use borrow.Author.Tests.{eqb-true}
use Rattle.algebra.specs.Ring.{IsCommutativeRing}
use Rattle.algebra.specs.Matrix.{Matrix, transpose, apply, mixed}
use Rattle.algebra.proofs.Applied.{mixed_same}
use Rattle.algebra.proofs.Transpose.{mixed_transpose}
use Rattle.field.specs.Residue.{Residue, reduce, residues}
use Rattle.field.specs.View.{line}
use Rattle.field.proofs.Field.{residues_field}
use Rattle.field.proofs.Written.{length_tabulate, get_d_tabulate}
use Rattle.words.proofs.Parts.{front_inside, front_past}
use Rattle.matrix_echelon.specs.Grid.{Readable}
use Rattle.matrix_echelon.specs.Reduced.{SolutionFound}
use Rattle.matrix_echelon.proofs.Grids.{readable_one}
use Rattle.ledger.specs.Board.{modulus_word, size_word, count_word, values_word}
use Rattle.board_words.specs.Rows.{turned_grid}
use Rattle.board_words.proofs.TestSizes.{count_most}
use Rattle.board_words.proofs.TestRows.{turned_readable, turned_rank}
use Rattle.board_words.proofs.TestBoard.{full_board, rank_tells}
use Rattle.board_solve.specs.Combination.{residues_of, CandidateRoom, IsCandidate, CandidateTold}

-- a line with the step 1 is the numbers from the front
pub line_residues : (p : ℕ) (xs : List ℕ) (t : ℕ) → line p xs 0 1 t ≡ residues_of p xs t
unfolding line
line_residues p xs t = ap (λ q. reduce p (get_or xs q 0)) (zero-add (t * 1) ∙ mul-one t)

module _ (ws f c : List ℕ) (asked : CandidateRoom ws f c) where
  -- the turned board and f can be read
  pub turned_system : Readable (modulus_word ws) (turned_grid (size_word ws) (values_word ws) (count_word ws)) ws f 1 1
  turned_system = readable_one (turned_readable ws asked.laid.header) (λ t h. omega (arith, asked.long))

  pub front_long : length (take (count_word ws) c) ≡ count_word ws
  front_long = length-take-le (count_word ws) c (omega (arith, asked.room.0, count_most ws asked.laid.header))

  -- z is the solution, and r the rank
  module _ (z : List ℕ) (r : ℕ) (S : SolutionFound (modulus_word ws) (turned_grid (size_word ws) (values_word ws) (count_word ws)) ws f 1 r z) where
    laws : IsCommutativeRing (residues (modulus_word ws))
    laws = (residues_field (modulus_word ws) asked.laid.header.prime.prime).ring

    abbrev turned : Matrix (residues (modulus_word ws))
    turned = S.rank.D

    z_long : length z ≡ count_word ws
    z_long = ap length S.is_solution ∙ length_tabulate (count_word ws) _

    -- D' f is f D
    turned_mixed : (i : ℕ)
        → apply (residues (modulus_word ws)) (size_word ws) turned (line (modulus_word ws) f 0 1) i
        ≡ mixed (residues (modulus_word ws)) (size_word ws) (residues_of (modulus_word ws) f) (transpose (residues (modulus_word ws)) turned) i
    turned_mixed i =
        let R = residues (modulus_word ws) in
        sym (mixed_transpose R laws (size_word ws) (line (modulus_word ws) f 0 1) turned i)
        ∙ mixed_same R (size_word ws) (line (modulus_word ws) f 0 1) (residues_of (modulus_word ws) f) (transpose R turned)
        (λ t h. line_residues (modulus_word ws) f t) i

    is_candidate : r ≡ count_word ws → IsCandidate ws f (z ++ drop (count_word ws) c)
    is_candidate full =
        record {
          D = transpose (residues (modulus_word ws)) turned;
          inverse = full_board asked.laid (turned_rank ws asked.laid.header r S.rank) full;
          long = length_front c z (count_word ws) (z_long ∙ sym front_long) ∙ asked.room.0;
          each = λ i h.
              front_inside c (count_word ws) z z_long i h
              ∙ ap (λ xs. get_or xs i 0) S.is_solution
              ∙ get_d_tabulate (count_word ws) _ i h
              ∙ ap (λ (a : Residue (modulus_word ws)). a.value) (turned_mixed i);
          zeros = λ i h. front_past c (count_word ws) z z_long i h ∙ asked.room.1 i;
        }

    pub candidate_told : CandidateTold ws f (z ++ drop (count_word ws) c) (eqb r (count_word ws))
    candidate_told =
        record {
          tells = rank_tells asked.laid (turned_rank ws asked.laid.header r S.rank);
          candidate = λ e. is_candidate (eqb-true r (count_word ws) e);
        }
