-- `checks::table::is_prime` meets its contract. The loop's invariant: no number below the start of the next part divides p.
use Prim.Native.Nat.{◌<◌}
use Rattle.checks.specs.Prime.{NoneBelow}
use Rattle.checks.specs.Inverses.{start}
use Rattle.checks.proofs.table.is_prime.Given as goal

abbrev pub invariant-loop-part : goal.invariant-loop-part
invariant-loop-part l = (1 < start l.part) × NoneBelow (start l.part) l.p
