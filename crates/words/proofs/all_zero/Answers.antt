-- `words::all_zero` meets its contract: what is below 1 is 0.
use native.Mathlib.Omega.{arith}
use Rattle.algebra.proofs.Answers.{tells_same}
use Rattle.words.proofs.Zeros.{blank_inside}
use Rattle.words.proofs.all_zero.Goals as goal

pub returns : goal.returns
returns c =
    tells_same (λ below. blank_inside c.args.xs.now (λ j h. omega (arith, below j h))) (λ blank i h. omega (arith, blank i))
    c.all_below.ensures
