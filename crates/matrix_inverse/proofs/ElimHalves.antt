-- The recursion on the two halves of the rows: what `eliminate` asks of the call for the upper rows, of the step between, of the
-- call for the reduced lower rows and of the step after them, and that they leave a quasiinverse of the whole table.
use mathlib.Core.Path.{◌≡◌, sym, ap, subst, ◌∙◌}
use mathlib.Core.List.{List}
use Prim.Native.Nat.{ℕ, ◌+◌, ◌*◌, ◌-◌, ◌/◌, ◌≤◌, ◌<◌}
use native.Mathlib.Nat.{mul-le-mul, mul-le-mul_left, mul-le-mul_right}
use native.Mathlib.Omega.{arith}
use lib.ListN.{length, get_or, take, length-drop}
use lib.Seq.{length-take-le}
use Rattle.words.specs.Lengths.{half_rows, longest_row}
use Rattle.algebra.specs.Quasiinverse.{either, follow}
use Rattle.words.specs.Words.{Below}
use Rattle.matrix_mul.specs.Places.{place, Kept}
use Rattle.matrix_inverse.specs.Eliminated.{Eliminable, Eliminated}
use Rattle.matrix_inverse.specs.Steps.{split, Scratch, Halves, Reduced, Joined}
use Rattle.matrix_mul.proofs.Places.{front_table, kept_trans, kept_wider, kept_at}
use Rattle.words.proofs.Parts.{replaced, part_rest, taken_below, dropped_below}
use Rattle.matrix_inverse.proofs.ElimMarks.{behind, with_front, rows_length, behind_length, marked_either, marked_rows}
use Rattle.matrix_inverse.proofs.ElimStep.{whole_quasiinverse}
use Rattle.matrix_inverse.proofs.StepNegative.{row_inside}
use Rattle.matrix_inverse.proofs.StepScratch.{scratch_again}

-- the m rows of a table are m₁ upper rows and m₂ lower rows: at most 32 lower rows, and no more upper ones than these
pub record Splits (m m₁ m₂ : ℕ) : Type 0 where
  pub whole : m₁ + m₂ ≡ m
  pub upper_most : m₁ ≤ m₂
  pub lower_most : m₂ ≤ half_rows

pub halved : (m : ℕ) → m ≤ longest_row → Splits m (m / 2) (m - m / 2)
halved m h = record { whole = omega arith; upper_most = omega arith; lower_most = omega arith }

module _ {p m m₁ m₂ n : ℕ} {a d : List ℕ} {at stride : ℕ} {columns rows : List ℕ} (e : Eliminable p m n a d at stride columns rows)
    (s : Splits m m₁ m₂)
  where
    -- the numbers of the upper rows and of the lower rows
    pub cut : m₁ * n + m₂ * n ≡ length a
    cut = omega (arith, ap (λ k. k * n) s.whole, e.a_long)

    pub lower_size : m₂ * n ≤ half_rows * longest_row
    lower_size = mul-le-mul s.lower_most e.n_most

    pub upper_size : m₁ * n ≤ half_rows * longest_row
    upper_size = omega (arith, mul-le-mul_right n s.upper_most, lower_size)

    pub upper_inside : m₁ ≤ length rows
    upper_inside = omega (arith, e.rows_long, s.whole)

    -- the call for the upper rows
    pub upper_call : Eliminable p m₁ n (take (m₁ * n) a) d at stride columns (take m₁ rows)
    upper_call =
        record {
          is_modulus = e.is_modulus;
          m_most = omega (arith, s.upper_most, s.lower_most);
          n_most = e.n_most;
          stride_most = e.stride_most;
          a_long = length-take-le (m₁ * n) a (omega (arith, cut));
          a_below = taken_below p a (m₁ * n) e.a_below;
          d_long = e.d_long;
          d_below = e.d_below;
          fits = omega (arith, e.fits, s.whole);
          blank = λ i j h l. e.blank i j h (omega (arith, s.whole));
          columns_long = e.columns_long;
          rows_long = length-take-le m₁ rows upper_inside;
        }

    -- the lower rows
    pub lower_long : length (behind (m₁ * n) a) ≡ m₂ * n
    lower_long = rw (part_rest a (m₁ * n), length-drop (m₁ * n) a) (omega (arith, cut))

    pub lower_below : Below p (behind (m₁ * n) a)
    lower_below = rw (part_rest a (m₁ * n)) (dropped_below p a (m₁ * n) e.a_below)

    -- what the steps between and after ask, where D is now d'
    halves :
        {d' : List ℕ} →
        length d' ≡ length d →
        Below p d' →
        {t c : List ℕ} →
        Scratch p m₂ t c →
        Halves p (split m₁ m₂ n) a d' (place at stride) t c
    halves long below scratch =
        record {
          is_modulus = e.is_modulus;
          upper_most = s.upper_most;
          lower_most = s.lower_most;
          n_most = e.n_most;
          stride_most = e.stride_most;
          a_long = omega (arith, cut);
          a_below = e.a_below;
          d_long = long ∙ e.d_long;
          d_below = below;
          fits = omega (arith, e.fits, s.whole);
          scratch = scratch;
        }

    -- after the call for the upper rows
    module _ {d₁ columns₁ upper : List ℕ} (E₁ : Eliminated p m₁ n (take (m₁ * n) a) d at stride columns (take m₁ rows) d₁ columns₁ upper) where
      pub between : {t c : List ℕ} → Scratch p m₂ t c → Halves p (split m₁ m₂ n) a d₁ (place at stride) t c
      between = halves E₁.kept.same_length E₁.kept.below

      rows_split : length rows ≡ m₁ + m₂
      rows_split = e.rows_long ∙ sym s.whole

      -- the list of the rows is as long as before
      pub rows_whole : length (with_front upper m₁ rows) ≡ length rows
      rows_whole = rows_length m₁ m₂ E₁.J rows upper rows_split E₁.rows_marked

      -- the block of the lower rows is still blank
      still_blank : (i j : ℕ) → i < n → j < m₂ → get_or d₁ (at + m₁ + i * stride + j) 0 ≡ 0
      still_blank i j h l =
          let here : at + m₁ + i * stride + j ≡ at + m₁ + j + i * stride = omega arith in
          let there : at + m₁ + j + i * stride ≡ at + i * stride + (m₁ + j) = omega arith in
          ap (λ q. get_or d₁ q 0) here
          ∙ kept_at E₁.kept (omega (arith, e.fits, s.whole)) i (at + m₁ + j) (omega (arith, e.fits, s.whole)) (λ o b q. omega arith)
          ∙ ap (λ q. get_or d q 0) there
          ∙ e.blank i (m₁ + j) h (omega (arith, s.whole))

      -- after the step between
      module _ {t c t₁ c₁ : List ℕ} (scratch : Scratch p m₂ t c)
          (R : Reduced p (split m₁ m₂ n) a (behind (m₁ * n) a) d₁ (place at stride) t c t₁ c₁)
        where
          pub reduced_inside : m₂ * n ≤ length c₁
          reduced_inside = omega (arith, mul-le-mul_left m₂ e.n_most, scratch.c_long, R.c_again.same_length)

          -- the call for the reduced lower rows
          pub lower_call : Eliminable p m₂ n (take (m₂ * n) c₁) d₁ (at + m₁) stride columns₁ (behind m₁ (with_front upper m₁ rows))
          lower_call =
              record {
                is_modulus = e.is_modulus;
                m_most = omega (arith, s.lower_most);
                n_most = e.n_most;
                stride_most = e.stride_most;
                a_long = length-take-le (m₂ * n) c₁ reduced_inside;
                a_below = taken_below p c₁ (m₂ * n) R.c_again.below;
                d_long = E₁.kept.same_length ∙ e.d_long;
                d_below = E₁.kept.below;
                fits = omega (arith, e.fits, s.whole);
                blank = still_blank;
                columns_long = omega (arith, E₁.columns_marked.same_length, e.columns_long);
                rows_long = behind_length m₁ m₂ E₁.J rows upper rows_split E₁.rows_marked;
              }

          -- after the call for the lower rows
          pub after : {d₂ : List ℕ} → Kept p d₁ d₂ (place (at + m₁) stride) n m₂ → Halves p (split m₁ m₂ n) a d₂ (place at stride) t₁ c₁
          after kept = halves (kept.same_length ∙ E₁.kept.same_length) kept.below (scratch_again scratch R.t_again R.c_again)

          module _ {d₂ columns₂ lower : List ℕ}
              (E₂ : Eliminated p m₂ n (take (m₂ * n) c₁) d₁ (at + m₁) stride columns₁ (behind m₁ (with_front upper m₁ rows)) d₂ columns₂ lower)
            where
              -- after the step that joins the halves
              pub joined_halves :
                  {d₃ : List ℕ} →
                  Joined p (split m₁ m₂ n) a t₁ d₂ d₃ (place at stride) →
                  Eliminated p m n a d at stride columns rows d₃ columns₂
                  (replaced (with_front upper m₁ rows) m₁ (length (with_front upper m₁ rows) - m₁) lower)
              joined_halves {d₃} j =
                  subst
                  (λ k.
                  Eliminated p k n a d at stride columns rows d₃ columns₂
                  (replaced (with_front upper m₁ rows) m₁ (length (with_front upper m₁ rows) - m₁) lower))
                  s.whole
                  (record {
                    I = either E₁.I E₂.I;
                    J = follow m₁ E₁.J E₂.J;
                    holds =
                        whole_quasiinverse p m₁ m₂ n a d₁ d₂ d₃ at stride t c t₁ c₁ E₁.I E₂.I E₁.J E₂.J e.is_modulus
                        (after E₂.kept).fits
                        (rw (front_table p a (m₁ * n) 0 n m₁ n (row_inside m₁ n)) at E₁.holds)
                        (rw (part_rest a (m₁ * n)) at R)
                        E₂.kept
                        (rw (front_table p c₁ (m₂ * n) 0 n m₂ n (row_inside m₂ n)) at E₂.holds)
                        j;
                    kept =
                        kept_trans
                        (kept_wider at n (m₁ + m₂) (omega arith) (omega arith) (omega arith) E₁.kept)
                        (kept_trans (kept_wider at n (m₁ + m₂) (omega arith) (omega arith) (omega arith) E₂.kept) j.kept);
                    columns_marked =
                        marked_either n E₁.I E₂.I columns columns₁ columns₂ E₁.columns_marked E₂.columns_marked;
                    rows_marked =
                        marked_rows m₁ m₂ E₁.J rows upper rows_split E₁.rows_marked E₂.J lower E₂.rows_marked;
                  })
