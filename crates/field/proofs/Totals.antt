-- Sums of products of natural numbers, and that their residue is the ring's sum of products of residues: what the code adds
-- up in ℕ is, reduced once, what the contracts say in the residues.
use mathlib.Core.Path.{◌≡◌, refl, sym, ap, ap₂, fun_ext, ◌∙◌}
use mathlib.Core.List.{List}
use Prim.Native.Nat.{ℕ, zero, suc, ◌+◌, ◌*◌, ◌≤◌, ◌<◌}
use native.Mathlib.Nat.{mul-one, zero-add, add-zero, add_assoc, le_step, lt-suc_self}
use native.Mathlib.Omega.{arith}
use native.Mathlib.Numerals.{add-one}
use lib.ListN.{get_or}
use Rattle.algebra.specs.Matrix.{sum}
use Rattle.algebra.proofs.Sums.{sum_none, sum_next}
use Rattle.field.specs.Residue.{Residue, reduce, residues, ◌⊕◌, ◌⊗◌}
use Rattle.field.specs.View.{line}
pub use Rattle.field.specs.Totals.{total}
unfoldable pub use Rattle.field.specs.Totals.{products}
use Rattle.field.proofs.Residues.{reduce_plus, reduce_times}

pub total_zero : (f : ℕ → ℕ) → total 0 f ≡ 0
unfolding total
total_zero f = refl

pub total_suc : (n : ℕ) (f : ℕ → ℕ) → total (suc n) f ≡ total n f + f n
unfolding total
total_suc n f = refl

-- the same, as a loop counts
pub total_more : (n : ℕ) (f : ℕ → ℕ) → total (n + 1) f ≡ total n f + f n
total_more n f = rw add-one (total_suc n f)

-- equal numbers have equal sums
pub total_same : (n : ℕ) (f g : ℕ → ℕ) → ((u : ℕ) → u < n → f u ≡ g u) → total n f ≡ total n g
total_same zero f g e = total_zero f ∙ sym (total_zero g)
total_same (suc n) f g e =
    total_suc n f ∙ ap₂ ◌+◌ (total_same n f g (λ u h. e u (le_step h))) (e n (lt-suc_self n)) ∙ sym (total_suc n g)

-- the first a numbers and the n behind them
pub total_split : (a n : ℕ) (f : ℕ → ℕ) → total (a + n) f ≡ total a f + total n (λ u. f (a + u))
total_split a zero f = ap (λ k. total k f) (add-zero a) ∙ sym (add-zero (total a f)) ∙ ap (λ k. total a f + k) (sym (total_zero (λ u. f (a + u))))
total_split a (suc n) f =
    let place : a + suc n ≡ suc (a + n) = omega arith in
    ap (λ k. total k f) place ∙ total_suc (a + n) f ∙ ap (λ k. k + f (a + n)) (total_split a n f)
    ∙ add_assoc (total a f) (total n (λ u. f (a + u))) (f (a + n))
    ∙ ap (λ k. total a f + k) (sym (total_suc n (λ u. f (a + u))))

-- numbers that are 0 add nothing
pub total_passed : (f : ℕ → ℕ) (a n : ℕ) → ((u : ℕ) → a ≤ u → u < a + n → f u ≡ 0) → total (a + n) f ≡ total a f
total_passed f a zero z = ap (λ k. total k f) (add-zero a)
total_passed f a (suc n) z =
    let place : a + suc n ≡ suc (a + n) = omega arith in
    let last : f (a + n) ≡ 0 = z (a + n) (omega arith) (omega arith) in
    ap (λ k. total k f) place ∙ total_suc (a + n) f ∙ rw (last, add-zero) (total_passed f a n (λ u h l. z u h (omega arith)))

-- the residue of a sum of numbers is the sum of their residues
pub reduce_total : (p n : ℕ) (f : ℕ → ℕ) → reduce p (total n f) ≡ sum (residues p) n (λ t. reduce p (f t))
reduce_total p zero f = ap (reduce p) (total_zero f) ∙ sym (sum_none (residues p) (λ t. reduce p (f t)))
reduce_total p (suc n) f =
    ap (reduce p) (total_suc n f) ∙ reduce_plus p (total n f) (f n)
    ∙ ap (λ (a : Residue p). a ⊕ reduce p (f n)) (reduce_total p n f)
    ∙ sym (sum_next (residues p) n (λ t. reduce p (f t)))

reduce_product : (p : ℕ) (xs ys : List ℕ) (start step t : ℕ) → reduce p (products xs ys start step t) ≡ line p xs 0 1 t ⊗ line p ys start step t
unfolding products line
reduce_product p xs ys start step t =
    reduce_times p (get_or xs t 0) (get_or ys (start + t * step) 0)
    ∙ ap (λ k. reduce p (get_or xs k 0) ⊗ reduce p (get_or ys (start + t * step) 0)) (sym (zero-add (t * 1) ∙ mul-one t))

-- the residue of the sum of products is the sum of the products of the lines of residues
pub reduce_products : (p n : ℕ) (xs ys : List ℕ) (start step : ℕ)
    → reduce p (total n (products xs ys start step)) ≡ sum (residues p) n (λ t. line p xs 0 1 t ⊗ line p ys start step t)
reduce_products p n xs ys start step =
    reduce_total p n (products xs ys start step) ∙ ap (sum (residues p) n) (fun_ext (reduce_product p xs ys start step))
