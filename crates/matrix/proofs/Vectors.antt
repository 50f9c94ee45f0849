-- The basis of the kernel as the code fills it: after c columns it has the vectors of those that are not marked, one behind
-- the other, and behind them what it had.
use mathlib.Core.Path.{◌≡◌, refl, sym, ap, ap₂, ◌∙◌}
use mathlib.Core.Bool.{true, false}
use mathlib.Core.List.{List, [], ◌++◌, append_assoc, append-nil}
use Prim.Native.Nat.{ℕ, zero, suc, ◌+◌, ◌*◌, ◌-◌, ◌≤◌, ◌<◌}
use native.Mathlib.Nat.{zero-add, add-zero, zero-mul, mul-le-mul_right}
use native.Mathlib.Numerals.{add-one}
use native.Mathlib.Omega.{arith}
use lib.ListN.{length, take, drop, replicate, length-append, length-drop}
use lib.Seq.{take_at, drop-length, drop-append-add, drop-drop}
use borrow.Rule.Slice.PartMut.{mid_of, put_mid, Post-is, mid_len}
use Rattle.algebra.specs.Choice.{choose}
use Rattle.algebra.specs.Matrix.{Matrix}
use Rattle.algebra.specs.Quasiinverse.{Marks, count}
use Rattle.algebra.specs.Kernel.{kernel_vector}
use Rattle.algebra.proofs.Independent.{count_next}
use Rattle.field.specs.Residue.{residues}
use Rattle.words.specs.Words.{Blank}
use Rattle.field.specs.Written.{numbers}
use Rattle.field.proofs.Written.{length_tabulate}
use Rattle.matrix.specs.Calls.{vectors_from}
use Rattle.field.proofs.Lines.{row_inside}
use Rattle.words.proofs.Zeros.{zeros_written}

module _ {p : ℕ} (m n : ℕ) (I : Marks) (D A : Matrix (residues p)) where
  -- the vector of column c, where it is not marked
  pub vector_at : ℕ → List ℕ
  vector_at c = choose (I c) [] (numbers n (kernel_vector (residues p) m D A c))

  pub vectors_none : (s : ℕ) → vectors_from m n I D A s 0 ≡ []
  unfolding vectors_from
  vectors_none s = refl

  vectors_next : (s k : ℕ) → vectors_from m n I D A s (suc k) ≡ vector_at s ++ vectors_from m n I D A (suc s) k
  unfolding vectors_from vector_at
  vectors_next s k = refl

  -- one column more at the end
  vectors_last : (s k : ℕ) → vectors_from m n I D A s (suc k) ≡ vectors_from m n I D A s k ++ vector_at (s + k)
  vectors_last s zero =
      vectors_next s 0
      ∙ ap (λ l. vector_at s ++ l) (vectors_none (suc s))
      ∙ append-nil (vector_at s)
      ∙ ap vector_at (sym (add-zero s))
      ∙ ap (λ l. l ++ vector_at (s + 0)) (sym (vectors_none s))
  vectors_last s (suc k) =
      let e : suc s + k ≡ s + suc k = omega arith in
      vectors_next s (suc k)
      ∙ ap (λ l. vector_at s ++ l) (vectors_last (suc s) k)
      ∙ sym (append_assoc (vector_at s) (vectors_from m n I D A (suc s) k) (vector_at (suc s + k)))
      ∙ ap (λ l. l ++ vector_at (suc s + k)) (sym (vectors_next s k))
      ∙ ap (λ q. vectors_from m n I D A s (suc k) ++ vector_at q) e

  -- the vectors of the first c columns
  abbrev pub vectors : ℕ → List ℕ
  vectors c = vectors_from m n I D A 0 c

  pub vectors_more : (c : ℕ) → vectors (suc c) ≡ vectors c ++ vector_at c
  vectors_more c = vectors_last 0 c ∙ ap (λ q. vectors c ++ vector_at q) (zero-add c)

  -- a marked column adds nothing, and one that is not marked its vector
  pub vectors_skip : (c : ℕ) → I c ≡ true → vectors (suc c) ≡ vectors c
  unfolding vector_at
  vectors_skip c e =
      vectors_more c ∙ ap (λ b. vectors c ++ choose b [] (numbers n (kernel_vector (residues p) m D A c))) e ∙ append-nil (vectors c)

  pub vectors_vector : (c : ℕ) → I c ≡ false → vectors (suc c) ≡ vectors c ++ numbers n (kernel_vector (residues p) m D A c)
  unfolding vector_at
  vectors_vector c e = vectors_more c ∙ ap (λ b. vectors c ++ choose b [] (numbers n (kernel_vector (residues p) m D A c))) e

  count_more : (c : ℕ) → count (c + 1) I ≡ count c I + choose (I c) 1 0
  count_more c = rw add-one (count_next c I)

  -- after c columns the basis has k vectors, and behind them what it had before
  pub record Filled (before : List ℕ) (c k : ℕ) (basis : List ℕ) : Type 0 where
    pub counted : k + count c I ≡ c
    pub long : length (vectors c) ≡ k * n
    pub filled : basis ≡ vectors c ++ drop (k * n) before

  pub filled_none : (before : List ℕ) → Filled before 0 0 before
  unfolding count
  filled_none before =
      record {
        counted = refl;
        long = rw (vectors_none 0, zero-mul);
        filled = rw (vectors_none 0, zero-mul);
      }

  module _ {before : List ℕ} {c k : ℕ} {basis : List ℕ} (f : Filled before c k basis) where
    -- a marked column adds nothing
    pub filled_skip : I c ≡ true → Filled before (c + 1) k basis
    filled_skip e =
        let same : vectors (c + 1) ≡ vectors c = ap vectors (add-one c) ∙ vectors_skip c e in
        record {
          counted = omega (arith, f.counted, count_more c ∙ ap (λ b. count c I + choose b 1 0) e);
          long = rw same f.long;
          filled = rw same f.filled;
        }

    -- what stands before place k × n
    filled_front : take (k * n) basis ≡ vectors c
    filled_front = rw f.filled (take_at (vectors c) (drop (k * n) before) (k * n) f.long)

    -- and what stands n places behind it
    filled_behind : drop (k * n + n) basis ≡ drop ((k + 1) * n) before
    filled_behind =
        let e : k * n + n ≡ (k + 1) * n = omega arith in
        ap (drop (k * n + n)) f.filled
        ∙ ap (λ q. drop (q + n) (vectors c ++ drop (k * n) before)) (sym f.long)
        ∙ drop-append-add (vectors c) (drop (k * n) before) n
        ∙ drop-drop n (k * n) before
        ∙ ap (λ q. drop q before) e

    -- a column that is not marked adds its vector
    pub filled_vector : (part : List ℕ) → I c ≡ false → part ≡ numbers n (kernel_vector (residues p) m D A c)
        → Filled before (c + 1) (k + 1) (put_mid (k * n) (k * n + n - k * n) basis part)
    filled_vector part e v =
        let more : vectors (c + 1) ≡ vectors c ++ part =
        ap vectors (add-one c) ∙ vectors_vector c e ∙ ap (λ l. vectors c ++ l) (sym v) in
        let size : length part ≡ n = ap length v ∙ length_tabulate n (λ t. (kernel_vector (residues p) m D A c t).value) in
        record {
          counted = omega (arith, f.counted, count_more c ∙ ap (λ b. count c I + choose b 1 0) e);
          long = ap length more ∙ length-append (vectors c) part ∙ omega (arith, f.long, size);
          filled =
              ap₂ (λ l r. l ++ (part ++ r)) filled_front (Post-is (k * n) (k * n + n) basis (omega arith) ∙ filled_behind)
              ∙ sym (append_assoc (vectors c) part (drop ((k + 1) * n) before))
              ∙ ap (λ l. l ++ drop ((k + 1) * n) before) (sym more);
        }

    -- there is room for the next vector, and the length stays
    pub filled_next : c < n → k * n + n ≤ n * n
    filled_next l = row_inside k n n (omega (arith, f.counted))

    pub filled_room : c ≤ n → k * n ≤ n * n
    filled_room l = mul-le-mul_right n (omega (arith, f.counted))

    pub filled_long : length before ≡ n * n → c ≤ n → length basis ≡ n * n
    filled_long b l =
        ap length f.filled ∙ length-append (vectors c) (drop (k * n) before)
        ∙ omega (arith, f.long, length-drop (k * n) before, filled_room l)

  -- in the end what stands behind the vectors becomes 0
  pub filled_all : {before : List ℕ} {c k : ℕ} {basis : List ℕ} (rest : List ℕ) → Filled before c k basis → c ≡ n → length before ≡ n * n
      → length rest ≡ length (mid_of (k * n) (length basis - k * n) basis) → Blank rest
      → put_mid (k * n) (length basis - k * n) basis rest ≡ vectors_from m n I D A 0 n ++ replicate (n * count n I) 0
  filled_all {before} {c} {k} {basis} rest f d b l z =
      let e : k * n ≤ length basis = omega (arith, filled_long f b (omega arith), filled_room f (omega arith)) in
      let all : (k + count n I) * n ≡ n * n = ap (λ q. q * n) (ap (λ q. k + count q I) (sym d) ∙ f.counted ∙ d) in
      let size : length rest ≡ n * count n I =
      l ∙ mid_len (k * n) (length basis) basis (omega arith) ∙ omega (arith, all, filled_long f b (omega arith)) in
      ap₂ (λ x y. x ++ (rest ++ y)) (filled_front f ∙ ap vectors d) (Post-is (k * n) (length basis) basis e ∙ drop-length basis)
      ∙ ap (λ x. vectors n ++ x) (append-nil rest ∙ zeros_written (n * count n I) rest size z)
