-- The clauses of a board, put together from what the parts of the test tell: the rows are independent exactly if all are in J of a
-- pivot inverse, and so exactly if their rank is their number.
use mathlib.Core.Path.{◌≡◌, sym, ◌∙◌}
use mathlib.Core.List.{List}
use Prim.Native.Nat.{ℕ}
use lib.Dec.{eqb}
use borrow.Author.Tests.{eqb-true, eqb-false}
use Rattle.algebra.specs.Ring.{IsField}
use Rattle.algebra.specs.Matrix.{Matrix}
use Rattle.algebra.specs.Answers.{Tells}
use Rattle.algebra.proofs.Independent.{all_marked, all_counted, independent_chosen, chosen_independent}
use Rattle.field.specs.Residue.{residues}
use Rattle.field.proofs.Field.{residues_field}
use Rattle.ledger.specs.Board.{IsBoard, modulus_word, count_word}
use Rattle.board_words.specs.Tested.{HasHeader, LaidOut}
use Rattle.board_words.specs.Inverse.{BoardInverse}
use Rattle.board_words.proofs.TestRows.{RowsRank}

pub board_header : {ws : List ℕ} → IsBoard ws → HasHeader ws
board_header b = record { four = b.four; prime = b.prime; size = b.size; words = b.words; long = b.long; count = b.count }

pub board_laid : {ws : List ℕ} → IsBoard ws → LaidOut ws
board_laid b = record { header = board_header b; filled = record { below = b.below; zeros = b.zeros } }

module _ {ws : List ℕ} (laid : LaidOut ws) {D : Matrix (residues (modulus_word ws))} {r : ℕ} (R : RowsRank ws D r) where
  field : IsField (residues (modulus_word ws))
  field = residues_field (modulus_word ws) laid.header.prime.prime

  -- as many as there are: all rows are in J, and the words are a board
  pub full_board : r ≡ count_word ws → BoardInverse ws D
  full_board e =
      let h = laid.header in
      let all_rows = all_marked (count_word ws) R.J (sym R.rank ∙ e) in
      record {
        board =
            record {
              four = h.four;
              prime = h.prime;
              size = h.size;
              words = h.words;
              long = h.long;
              count = h.count;
              below = laid.filled.below;
              independent = chosen_independent (residues (modulus_word ws)) field.ring R.inverse all_rows;
              zeros = laid.filled.zeros;
            };
        I = R.I;
        J = R.J;
        inverse = R.inverse;
        all_rows = all_rows;
      }

  -- and the rank of a board's rows is their number
  board_full : IsBoard ws → r ≡ count_word ws
  board_full b =
      R.rank
      ∙ all_counted (count_word ws) R.J
      (independent_chosen (residues (modulus_word ws)) field.ring field.one_not_zero R.inverse b.independent)

  -- so past the other clauses the rank decides
  pub rank_tells : Tells (eqb r (count_word ws)) (IsBoard ws)
  rank_tells = (λ e. (full_board (eqb-true r (count_word ws) e)).board, λ e b. eqb-false r (count_word ws) e (board_full b))
