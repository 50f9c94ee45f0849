-- `matrix::table::Table::row_mix` meets its contract: the turned table is read in place, and its solution is row y of A D.
use native.Mathlib.Omega.{arith}
use Rattle.matrix.proofs.Mix.{turned_below, mix_written}
use Rattle.matrix.proofs.table.Table.row_mix.Goals as goal

pub negate-requires : goal.negate-requires
negate-requires c =
    let k = c.args.self.checked.is_modulus in
    (omega (arith, k.prime.two_or_more), k.in_range, turned_below _ k _ _ _ _ c.requires.0 (rw c.turned.ensures at c.solution.ensures))

pub returns : goal.returns
returns c ok =
    mix_written _ ok _ _ _ _ c.requires.0 c.negate.new.xs _ (rw c.turned.ensures at c.solution.ensures) c.negate.ensures c.plus.ensures
