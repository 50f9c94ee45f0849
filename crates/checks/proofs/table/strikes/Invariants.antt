-- `checks::table::strikes` meets its contract. The loop's invariant: no entry that was passed has a low product.
use Prim.Native.Nat.{ℕ, ◌+◌, ◌*◌, ◌%◌, ◌<◌}
use lib.ListN.{get_or}
use Rattle.checks.specs.Inverses.{word_base}
use Rattle.checks.proofs.table.strikes.Given as goal

abbrev pub invariant-loop-v : goal.invariant-loop-v
invariant-loop-v l = (j : ℕ) → j < l.v-index → l.most < l.p * get_or l.words (1 + j) 0 % word_base
