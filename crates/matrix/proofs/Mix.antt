-- The mix of a row by the turned system: row y of A D is the solution of the transpose of A with row y of A as its right side, since
-- the transpose of D is the pivot inverse of the transpose.
use mathlib.Core.Path.{◌≡◌, sym, ap, ap₂, ◌∙◌, fun_ext, subst}
use mathlib.Core.List.{List}
use Prim.Native.Nat.{ℕ, ◌+◌, ◌*◌, ◌-◌, ◌<◌}
use native.Mathlib.Decide.{ℕ_discrete}
use native.Mathlib.Omega.{arith}
use lib.ListN.{length, get_or, take, drop, set, length-set}
use lib.Seq.{get_or-set_same, get_or-set_other}
use Rattle.algebra.specs.Matrix.{unit, product, apply, transpose}
use Rattle.algebra.specs.Ring.{Ring, IsCommutativeRing}
use Rattle.algebra.specs.Solve.{mix_of}
use Rattle.algebra.proofs.Rings.{zero_plus}
use Rattle.algebra.proofs.Sums.{sum_same, unit_same, unit_other}
use Rattle.checks.specs.Prime.{IsModulus}
use Rattle.words.specs.Words.{Below}
use Rattle.field.specs.Residue.{Residue, residues, reduce, ◌⊕◌, ◌⊗◌, negated}
use Rattle.field.specs.Written.{numbers, tabulate}
use Rattle.field.proofs.Field.{residues_ring}
use Rattle.field.proofs.Residues.{reduce_value, value_unique}
use Rattle.field.proofs.Written.{length_tabulate, get_d_tabulate, is_tabulate}
use Rattle.matrix_mul.specs.Places.{Negated}
use Rattle.matrix_echelon.specs.Reduced.{SolutionFound}
use Rattle.matrix.specs.Calls.{table_of, inverse_of}
use Rattle.matrix.specs.Parts.{turned}
use Rattle.field.proofs.Lines.{part_line, row_line, numbers_below}
use Rattle.matrix.proofs.Grids.{turned_inverse}

module _ (p : ℕ) (ok : IsModulus p) (m n : ℕ) (a : List ℕ) (y : ℕ) (row : y < m) where
  -- row y of A, as the code lends it
  abbrev lent : List ℕ
  lent = take (y * n + n - y * n) (drop (y * n) a)

  -- the solution of the turned system that has it as right side is row y of A D
  turned_solution : {r : ℕ} {u : List ℕ} → SolutionFound p (turned m n) a lent 1 r u
      → u ≡ numbers m (product (residues p) n (table_of p m n a) (inverse_of p ok m n a) y)
  unfolding apply product transpose
  turned_solution s =
      let ring = residues_ring p (omega (arith, ok.prime.two_or_more)) in
      s.is_solution
      ∙ ap (tabulate m)
      (fun_ext
      (λ t.
      ap (λ v. v.value)
      (sum_same (residues p) n _ _
      (λ k l.
      ring.times_comm _ _
      ∙ ap₂ ◌⊗◌ (part_line p a (y * n) n k l ∙ sym (row_line p a m n y k row l))
      (λ q. turned_inverse p m n a ok s.rank q k t)))))

  -- the numbers below p that the solution leaves
  pub turned_below : {r : ℕ} {u : List ℕ} → SolutionFound p (turned m n) a lent 1 r u → Below p u
  turned_below s =
      subst (Below p) (sym (turned_solution s))
      (numbers_below p m (product (residues p) n (table_of p m n a) (inverse_of p ok m n a) y) (omega (arith, ok.prime.two_or_more)))

  -- its negative with 1 added at y is row y of 1 - A D
  pub mix_written : {r : ℕ} {u : List ℕ} (v : List ℕ) (x : ℕ) → SolutionFound p (turned m n) a lent 1 r u → Negated p u v
      → x ≡ (reduce p (get_or v y 0) ⊕ reduce p 1).value
      → set v y x ≡ numbers m (mix_of (residues p) n (table_of p m n a) (inverse_of p ok m n a) y)
  unfolding mix_of
  mix_written {u = u} v x s g e = is_tabulate m _ (set v y x) (length-set v y x ∙ long) (λ t l. at t l (ℕ_discrete t y))
    where
      R : Ring
      R = residues p

      ring : IsCommutativeRing R
      ring = residues_ring p (omega (arith, ok.prime.two_or_more))

      -- row y of A D
      image : ℕ → Residue p
      image = product R n (table_of p m n a) (inverse_of p ok m n a) y

      long : length v ≡ m
      long = g.same_length ∙ ap length (turned_solution s) ∙ length_tabulate m _

      taken : (t : ℕ) → t < m → reduce p (get_or v t 0) ≡ negated (image t)
      taken t l =
          g.each t (omega (arith, g.same_length, long))
          ∙ ap negated (ap (λ q. reduce p (get_or q t 0)) (turned_solution s) ∙ ap (reduce p) (get_d_tabulate m _ t l) ∙ reduce_value (image t))

      at : (t : ℕ) → t < m → Dec (t ≡ y) → get_or (set v y x) t 0 ≡ (unit R y t ⊕ negated (image t)).value
      at t l (yes d) =
          ap (λ q. get_or (set v y x) q 0) d
          ∙ get_or-set_same v y x 0 (omega (arith, long))
          ∙ e
          ∙ ap (λ q. q.value)
          (ring.plus_comm _ _
          ∙ ap₂ ◌⊕◌ (sym (unit_same R y) ∙ ap (unit R y) (sym d)) (taken y row ∙ ap (λ q. negated (image q)) (sym d)))
      at t l (no d) =
          get_or-set_other v y t x 0 d
          ∙ value_unique p (get_or v t 0) (negated (image t)) (g.below t (omega (arith, long))) (taken t l)
          ∙ ap (λ q. q.value)
          (sym (ap (λ q. q ⊕ negated (image t)) (unit_other R y t (λ q. d (sym q))) ∙ zero_plus R ring (negated (image t))))
