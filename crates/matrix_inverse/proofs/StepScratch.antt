-- Scratch memory: what is enough for halves of l rows is enough for fewer, it can be used again, and zeros are scratch memory.
use mathlib.Core.Path.{◌∙◌}
use mathlib.Core.List.{List}
use Prim.Native.Nat.{ℕ, ◌+◌, ◌*◌, ◌≤◌, ◌<◌}
use native.Mathlib.Nat.{mul-le-mul}
use native.Mathlib.Decide.{dec_lt}
use native.Mathlib.Omega.{arith}
use lib.ListN.{length, get_or, replicate, length-replicate}
use Rattle.words.specs.Lengths.{longest_row}
use Rattle.words.specs.Words.{Below, Copied}
use Rattle.words.proofs.Zeros.{zeros_at}
use Rattle.checks.specs.Prime.{IsModulus}
use Rattle.field.proofs.Views.{blank_below}
use Rattle.matrix_inverse.specs.Steps.{Scratch, Reusable}

pub used_twice : {p : ℕ} {xs ys zs : List ℕ} → Reusable p xs ys → Reusable p ys zs → Reusable p xs zs
used_twice a b = record { same_length = b.same_length ∙ a.same_length; below = b.below }

pub scratch_fewer : {p k l : ℕ} {t c : List ℕ} → k ≤ l → Scratch p l t c → Scratch p k t c
scratch_fewer h s =
    record {
      t_long = omega (arith, mul-le-mul h h, s.t_long);
      c_long = omega (arith, s.c_long);
      t_below = s.t_below;
      c_below = s.c_below;
    }

pub scratch_again : {p k : ℕ} {t c t' c' : List ℕ} → Scratch p k t c → Reusable p t t' → Reusable p c c' → Scratch p k t' c'
scratch_again s T C =
    record {
      t_long = omega (arith, s.t_long, T.same_length);
      c_long = omega (arith, s.c_long, C.same_length);
      t_below = T.below;
      c_below = C.below;
    }

pub scratch_zeros : {p k : ℕ} (r : ℕ) → IsModulus p → k ≤ r → Scratch p k (replicate (r * r) 0) (replicate (r * longest_row) 0)
scratch_zeros {p} r is_modulus h =
    let positive : 0 < p = omega (arith, is_modulus.prime.two_or_more) in
    scratch_fewer h
    (record {
      t_long = omega (arith, length-replicate {A = ℕ} (r * r) 0);
      c_long = omega (arith, length-replicate {A = ℕ} (r * longest_row) 0);
      t_below = blank_below p (replicate (r * r) 0) positive (zeros_at (r * r));
      c_below = blank_below p (replicate (r * longest_row) 0) positive (zeros_at (r * longest_row));
    })

-- what is copied over numbers below p is below p
pub copied_over : {p : ℕ} {xs : List ℕ} {start size : ℕ} {zs zs' : List ℕ} → start + size ≤ length xs → Below p xs → Below p zs
    → Copied xs start size zs zs' → Below p zs'
copied_over {p} {xs} {start} {size} {zs} {zs'} fits below zs-below copied i h = by_place (dec_lt i size)
  where
    by_place : Dec (i < size) → get_or zs' i 0 < p
    by_place (yes l) = rw (copied.front i l) (below (start + i) (omega arith))
    by_place (no l) = rw (copied.rest i (omega arith)) (zs-below i (omega (arith, copied.same_length)))
