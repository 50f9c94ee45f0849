-- What the definitions of the calls take as decided or given: the residues modulo a prime are a field, so it is decided what a
-- combination is and whether residues are equal, and every table has its D. The types say what, and nothing computes with it.
use Rattle.std.specs.Prelude.{◌≡◌, List, ℕ}
use Rattle.algebra.specs.Ring.{IsField}
use Rattle.algebra.specs.Matrix.{Vector, Matrix, apply}
use Rattle.algebra.specs.Span.{Solves}
use Rattle.algebra.specs.Quasiinverse.{Absorbs}
use Rattle.algebra.specs.Chosen.{DecidesCombinations, Inverse}
use Rattle.algebra.proofs.Choice.{all_below?}
use Rattle.algebra.proofs.Sized as sized
use Rattle.algebra.proofs.Decide.{combination?}
use Rattle.algebra.proofs.Marked.{inverse_of_lem}
use Rattle.checks.specs.Prime.{IsModulus}
use Rattle.field.specs.Residue.{Residue, residues}
use Rattle.field.specs.View.{table}
use Rattle.field.proofs.Field.{residues_field, residue_equal?}
use Rattle.field.proofs.Views.{table_sized}

module _ (p : ℕ) (ok : IsModulus p) where
  abbrev pub field : IsField (residues p)
  field = residues_field p ok.prime

  -- whether a vector is a combination of rows
  abbrev pub combinations : DecidesCombinations (residues p)
  combinations = combination? (residues p) field

  -- D of the table of m rows and n columns in the numbers a, stored row by row
  pub given_inverse : (m n : ℕ) (a : List ℕ) → Inverse (residues p) combinations m n (table p a 0 n m n)
  given_inverse m n a = inverse_of_lem (residues p) field combinations (table_sized p a 0 n m n)

  -- whether A D A = A, for the table A of m rows and n columns in a, and D of n rows and m columns in d
  pub absorbs? : (m n : ℕ) (a d : List ℕ) → Dec (Absorbs (residues p) m n (table p a 0 n m n) (table p d 0 m n m))
  absorbs? m n a d = sized.absorbs? (residues p) field.ring (table_sized p a 0 n m n) (table p d 0 m n m) residue_equal?

pub equal? : {p : ℕ} (x y : Residue p) → Dec (x ≡ y)
equal? x y = residue_equal? x y

-- whether A x = w
pub solves? : {p : ℕ} (m n : ℕ) (A : Matrix (residues p)) (x w : Vector (residues p)) → Dec (Solves (residues p) m n A x w)
solves? {p} m n A x w =
    all_below? (λ i. apply (residues p) n A x i ≡ w i) (λ i. equal? (apply (residues p) n A x i) (w i)) m
