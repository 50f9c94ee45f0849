-- `clash::first_other` meets its contract. The loop's invariant: the column meets every frame passed in word w.
use Prim.Native.Nat.{ℕ, ◌<◌}
use lib.ListN.{get_or}
use Rattle.clash.specs.Parts.{IsMet}
use Rattle.clash.proofs.first_other.Given as goal

abbrev pub invariant-loop-i : goal.invariant-loop-i
invariant-loop-i l = ((t : ℕ) → t < l.i → IsMet l.p l.n l.s l.w l.log (λ j. get_or l.x j 0) t)
