-- `board_solve::values_agree` meets its contract. The loop's invariant: the words passed agree; the first that does not refutes all.
use mathlib.Core.Path.{◌≡◌}
use Prim.Native.Nat.{ℕ, ◌<◌}
use lib.ListN.{get_or}
use Rattle.board_solve.specs.Taking.{combined_value}
use Rattle.board_solve.proofs.values_agree.Given as goal

abbrev pub invariant-loop-u : goal.invariant-loop-u
invariant-loop-u l = (w : ℕ) → w < l.u → (combined_value l.board l.c w).value ≡ get_or l.v w 0
