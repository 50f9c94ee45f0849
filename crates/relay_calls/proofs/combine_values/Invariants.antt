-- `relay_calls::combine_values` meets its contract. The loop's invariant: the first u values are those of the combination.
use Rattle.words.proofs.Walk.{Walked}
use Rattle.board_solve.specs.Taking.{combined_value}
use Rattle.relay_calls.proofs.combine_values.Given as goal

abbrev pub invariant-loop-u : goal.invariant-loop-u
invariant-loop-u l = Walked l.u (λ w. (combined_value l.board l.c w).value) l.initial.v l.v
