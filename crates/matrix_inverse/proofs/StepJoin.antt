-- The step after the halves: what `join_halves` asks of its callees, and that what they leave is G and E - G T.
use mathlib.Core.Path.{◌≡◌, sym, ap, ◌∙◌}
use mathlib.Core.List.{List}
use Prim.Native.Nat.{ℕ, ◌+◌, ◌*◌, ◌≤◌}
use native.Mathlib.Nat.{mul-le-mul}
use native.Mathlib.Omega.{arith}
use lib.ListN.{length}
use Rattle.algebra.specs.Matrix.{Matrix, add, product}
use Rattle.algebra.proofs.Matrices.{product_negative}
use Rattle.field.specs.Residue.{residues}
use Rattle.field.specs.View.{table}
use Rattle.words.specs.Lengths.{longest_row}
use Rattle.words.specs.Words.{Below}
use Rattle.field.proofs.Field.{residues_ring}
use Rattle.matrix_mul.specs.Places.{place, shape, Block, Factors, Kept, Multiplied, Used, FactorsWithin}
use Rattle.matrix_inverse.specs.Steps.{split, IsNegativeProduct, Halves, Joined}
use Rattle.matrix_mul.proofs.Places.{kept_trans, kept_wider, table_kept}
use Rattle.matrix_inverse.proofs.StepNegative.{rows_block, columns_block}
use Rattle.matrix_inverse.proofs.StepReduce.{modulus_positive, t_room, factors}

module _ {p m₁ m₂ n : ℕ} {a d : List ℕ} {at stride : ℕ} {t c : List ℕ}
    (h : Halves p (split m₁ m₂ n) a d (place at stride) t c)
  where
    -- the columns of F
    pub lower_block : Block p d (place (at + m₁) stride) n m₂
    lower_block = columns_block d (at + m₁) stride n m₂ h.d_long (omega (arith, h.fits)) h.d_below

    small_room : m₁ * m₂ ≤ length c
    small_room =
        let lower : m₂ ≤ longest_row = omega (arith, h.lower_most) in
        omega (arith, mul-le-mul h.upper_most lower, h.scratch.c_long)

    -- B F into c
    pub join_first : Factors p (shape m₁ n m₂) a (place 0 n) d (place (at + m₁) stride) c (place 0 m₂)
    join_first =
        factors h h.n_most (omega (arith, h.lower_most)) (rows_block a m₁ n h.a_long h.a_below) lower_block
        (rows_block c m₁ m₂ small_room h.scratch.c_below)

    -- F + E (-(B F)) for F
    pub join_second : {c' upper : List ℕ} → length c' ≡ length c → Below p c' → Used n m₁ d (place at stride) upper
        → FactorsWithin p (shape n m₁ m₂) upper at c' (place 0 m₂) d (place (at + m₁) stride)
    join_second {c'} long c_below used =
        record {
          factors =
              factors h (omega (arith, h.upper_most, h.lower_most)) (omega (arith, h.lower_most))
              (columns_block d at stride n m₁ h.d_long (omega (arith, h.fits)) h.d_below)
              (rows_block c' m₁ m₂ (omega (arith, small_room)) c_below)
              lower_block;
          other_columns = λ j l s o e. omega arith;
          left_fits = omega (arith, h.fits);
          target_fits = omega (arith, h.fits);
          used = used;
        }

    -- E + G (-T) for E
    pub join_third : {d' marks : List ℕ} → Kept p d d' (place (at + m₁) stride) n m₂
        → Used n m₂ d' (place (at + m₁) stride) marks
        → FactorsWithin p (shape n m₂ m₁) marks (at + m₁) t (place 0 m₁) d' (place at stride)
    join_third {d'} kept used =
        let long = kept.same_length ∙ h.d_long in
        record {
          factors =
              factors h (omega (arith, h.lower_most)) (omega (arith, h.upper_most, h.lower_most))
              (columns_block d' (at + m₁) stride n m₂ long (omega (arith, h.fits)) kept.below)
              (rows_block t m₂ m₁ (t_room h) h.scratch.t_below)
              (columns_block d' at stride n m₁ long (omega (arith, h.fits)) kept.below);
          other_columns = λ j l s o e. omega arith;
          left_fits = omega (arith, h.fits);
          target_fits = omega (arith, h.fits);
          used = used;
        }

    -- what they leave
    module _ {c' d' d'' : List ℕ}
        (is-BF : IsNegativeProduct p (shape m₁ n m₂) a d (place (at + m₁) stride) c c')
        (first : Multiplied p (shape n m₁ m₂) d (place at stride) c' (place 0 m₂) d d' (place (at + m₁) stride))
        (second : Multiplied p (shape n m₂ m₁) d' (place (at + m₁) stride) t (place 0 m₁) d' d'' (place at stride))
      where
        -- the second product leaves the columns of G, the first those of E
        G_stays : table p d'' (at + m₁) stride n m₂ ≡ table p d' (at + m₁) stride n m₂
        G_stays = table_kept (at + m₁) n m₂ (omega (arith, h.fits)) (omega (arith, h.fits)) (λ j l b s e. omega arith) second.kept

        E_stays : table p d' at stride n m₁ ≡ table p d at stride n m₁
        E_stays = table_kept at n m₁ (omega (arith, h.fits)) (omega (arith, h.fits)) (λ j l b s e. omega arith) first.kept

        pub joined : Joined p (split m₁ m₂ n) a t d d'' (place at stride)
        joined =
            record {
              kept =
                  kept_trans
                  (kept_wider at n (m₁ + m₂) (omega arith) (omega arith) (omega arith) first.kept)
                  (kept_wider at n (m₁ + m₂) (omega arith) (omega arith) (omega arith) second.kept);
              is_G =
                  G_stays
                  ∙ first.result
                  ∙ ap (λ Y. add (residues p) F (product (residues p) m₁ E Y)) is-BF.result
                  ∙ ap (add (residues p) F) (product_negative (residues p) (residues_ring p (modulus_positive h)) m₁ E BF);
              is_X =
                  second.result
                  ∙ ap (λ Y. add (residues p) Y (product (residues p) m₂ (table p d' (at + m₁) stride n m₂) T)) E_stays
                  ∙ ap (λ Y. add (residues p) E (product (residues p) m₂ Y T)) (sym G_stays);
            }
          where
            F : Matrix (residues p)
            F = table p d (at + m₁) stride n m₂

            E : Matrix (residues p)
            E = table p d at stride n m₁

            T : Matrix (residues p)
            T = table p t 0 m₁ m₂ m₁

            BF : Matrix (residues p)
            BF = product (residues p) n (table p a 0 n m₁ n) F
