-- `matrix::parts::count_marks` meets its contract: the library's sum is the total, and marks have no larger sum than their number.
use Rattle.std.proofs.Common.{◌≡◌, List, ℕ, zero, suc, ◌<◌, ◌≤◌, length, get_or, take, sym, ap, ◌∙◌, arith, add-one}
use Rattle.std.specs.List.{sum}
use Rattle.std.proofs.lemmas.Iterator.{YieldsList-from_slice}
use Rattle.std.proofs.lemmas.Iterator.Consumers.{fits_from_yields_list, sum_from_yields_List}
use Rattle.std.proofs.lemmas.List.Sums.{sum_by_more}
use lib.Seq.{take-length}
use Rattle.field.proofs.Totals.{total, total_zero, total_suc}
use Rattle.matrix.proofs.parts.count_marks.Goals as goal

-- the sum of the first k numbers
sum_of_first : (xs : List ℕ) (k : ℕ) → k ≤ length xs → sum (take k xs) ≡ total k (λ i. get_or xs i 0)
sum_of_first xs zero h = sym (total_zero _)
sum_of_first xs (suc k) h =
    ap (λ n. sum (take n xs)) (sym (add-one k)) ∙ sum_by_more (λ x. x) xs k 0 h ∙ rw (sum_of_first xs k (omega arith)) (sym (total_suc k _))

sum_of_all : (xs : List ℕ) → sum xs ≡ total (length xs) (λ i. get_or xs i 0)
sum_of_all xs = ap sum (sym (take-length xs)) ∙ sum_of_first xs (length xs) (omega arith)

-- that of numbers that are at most 1
total_most : (k : ℕ) (f : ℕ → ℕ) → ((i : ℕ) → i < k → f i ≤ 1) → total k f ≤ k
total_most zero f h = omega (arith, total_zero f)
total_most (suc k) f h = omega (arith, total_suc k f, h k (omega arith), total_most k f (λ i l. h i (omega arith)))

pub sum-requires-clause-fits : goal.sum-requires-clause-fits
sum-requires-clause-fits c =
    let xs = c.args.xs.now in
    fits_from_yields_list c.iter.result _ (YieldsList-from_slice xs cc) (omega (arith, sum_of_all xs, total_most _ _ c.requires.1, c.requires.0))

pub returns : goal.returns
returns c =
    let xs = c.args.xs.now in
    sum_from_yields_List c.iter.result _ c.sum.ensures.ran (YieldsList-from_slice xs cc) ∙ sum_of_all xs
